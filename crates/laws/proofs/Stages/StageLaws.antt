-- The stages by register: a code put at one register stands there, if it is shadowed, and every other stage is as it was.
-- Assumes nothing.
use Prim.Native.Nat.{ℕ, ◌+◌, ◌<◌}
use mathlib.Core.Path.{◌≡◌, refl, sym, ap, ◌∙◌, subst}
use mathlib.Core.Bool
use mathlib.Core.Bool.{Bool, true, false, false≢true, cond, not, ◌&&◌}
use mathlib.Core.List.{List}
use native.Mathlib.Omega.{arith}
use borrow.Author.Tests.{eqb-true, eqb-false, ltb-true, eq-eqb, not-false, not-true}
use lib.Dec.{eqb, ltb}
use lib.ListN.{get_or}
use Rattle.bits.proofs.IndexLaws.{and-true, at_each}
use Rattle.rules.specs.Access.{value, store}
use Rattle.rules.specs.Map.{number_of, single_number, single_row, field_row, setting_row, offset, is_register, is_shadowed}
use Rattle.rules.specs.Stages.{local_stages, alert_stages, setting_stage, single_stage, no_class_stages, class_stages, stage_in, with_local_stages, with_alert_stages, with_setting_stage, with_stage, dropped}
use Rattle.rules.specs.State.{most, local_count, class_count, field_index, with_stages}
use Rattle.rules.specs.declared.AlertStages.{AlertStages}
use Rattle.rules.specs.declared.ClassStages.{ClassStages}
use Rattle.rules.specs.declared.Field.{Field}
use Rattle.rules.specs.declared.Handler.{Handler}
use Rattle.rules.specs.declared.LocalStages.{LocalStages}
use Rattle.rules.specs.declared.Register.{Register}
use Rattle.rules.specs.declared.Register.TheVariants.{Only, Local, Alert, Block, Unassigned}
use Rattle.rules.specs.declared.Setting.{Setting}
use Rattle.rules.specs.declared.Single.TheVariants.{PingTimeout}
use Rattle.rules.specs.declared.Stages.{Stages}
use Rattle.laws.specs.InMap.{in_map, setting_exists}
use Rattle.laws.proofs.Map.Cases.{pick, by_kind, by_single, by_field, by_setting, cond_other}
use Rattle.laws.proofs.State.ColumnLaws.{at_changed}
use Rattle.laws.proofs.Map.MapLaws.{single_number_law, number_eq}
use Rattle.laws.proofs.State.StateLaws.{same_field_law, single_same, column_put}

-- ── what the stages do not touch, and what does not touch them ──

-- a register holds the same whatever the stages
pub value_stages : (s : Stages) (h : Handler) (q : Register) → value (with_stages s h) q ≡ value h q
unfolding value
value_stages s h = by_kind (λ q. value (with_stages s h) q ≡ value h q) (λ o. single_same (with_stages s h) h refl refl o) (λ f j. refl) (λ f i. refl) (λ t k. refl) refl

-- a store leaves them
pub store_stages : (h : Handler) (q : Register) (v : ℕ) → (store h q v).stages ≡ h.stages
unfolding store
store_stages h q v = by_kind (λ q. (store h q v).stages ≡ h.stages) (λ o. refl) (λ f j. refl) (λ f i. refl) (λ t k. refl) refl q

-- ── a column of the alerts, and a class's block ──

-- two shadowed fields are the same
abbrev both : Field → Field → Bool
both f g = (field_row g).shadowed && eqb (field_index f) (field_index g)

both_same : (f g : Field) → both f g ≡ true → f ≡ g
both_same f g e = same_field_law f g (and-true (field_row g).shadowed (eqb (field_index f) (field_index g)) e).1

local_stages_law : (f g : Field) (x : List ℕ) (l : LocalStages) → local_stages g (with_local_stages f x l) ≡ cond (both f g) x (local_stages g l)
local_stages_law f g x l = by_field (λ g. local_stages g (with_local_stages f x l) ≡ cond (both f g) x (local_stages g l)) refl refl refl refl g

alert_stages_law : (f g : Field) (x : List ℕ) (a : AlertStages) → alert_stages g (with_alert_stages f x a) ≡ cond (both f g) x (alert_stages g a)
alert_stages_law f g x a = by_field (λ g. alert_stages g (with_alert_stages f x a) ≡ cond (both f g) x (alert_stages g a)) refl refl refl refl g

-- register t of the block, with the code v at s
setting_stage_law : (s t : Setting) (v : ℕ) (c : ClassStages) → setting_exists t ≡ true
    → setting_stage t (with_setting_stage s v c) ≡ cond ((setting_row t).shadowed && eqb (offset s) (offset t)) v (setting_stage t c)
setting_stage_law s t v c =
    by_setting (λ t. setting_exists t ≡ true → setting_stage t (with_setting_stage s v c) ≡ cond ((setting_row t).shadowed && eqb (offset s) (offset t)) v (setting_stage t c))
    (λ e. refl) (λ e. refl) (λ e. refl) (λ e. refl) (λ e. refl) (λ e. refl) (λ e. refl)
    (λ p e. at_each 4 (λ p. cond (eqb (offset s) (7 + p)) v (get_or c.lengths p 0)) p 0 (ltb-true p 4 e)) (λ e. refl) (λ e. refl) t

-- the entry that is read is the one that is put
same : (sh : Bool) (f j x y : ℕ) → cond ((sh && eqb f f) && eqb j j) x y ≡ cond sh x y
same sh f j x y =
    ap (λ (e : Bool). cond ((sh && e) && eqb j j) x y) (eq-eqb f f refl)
    ∙ ap (λ (e : Bool). cond (e && eqb j j) x y) (mathlib.Core.Bool.and-true sh)
    ∙ ap (λ (e : Bool). cond (sh && e) x y) (eq-eqb j j refl)
    ∙ ap (λ (e : Bool). cond e x y) (mathlib.Core.Bool.and-true sh)

-- another field or another alert
apart : (f g : Field) (i j x y : ℕ) → (field_index f ≡ field_index g → i ≡ j → ⊥) → cond (both f g && eqb i j) x y ≡ y
apart f g i j x y d =
    cond_other (both f g && eqb i j) x y
    (λ e. let b = and-true (both f g) (eqb i j) e in d (ap field_index (both_same f g b.0)) (eqb-true i j b.1))

module _ (s : Stages) (c : ℕ) where
  -- register g of local alert i, of alert i, and the stages of class k
  local_put : (f g : Field) (j i : ℕ) → i < local_count
      → stage_in (with_stage (Local f j) c s) (Local g i) ≡ cond (both f g && eqb i j) c (stage_in s (Local g i))
  unfolding stage_in with_stage
  local_put f g j i l =
      ap (λ (xs : List ℕ). get_or xs i 0) (local_stages_law f g _ s.locals)
      ∙ column_put (both f g) local_count (local_stages f s.locals) (local_stages g s.locals) j c i l
      (λ e. ap (λ (k : Field). local_stages k s.locals) (both_same f g e))

  alert_put : (f g : Field) (j i : ℕ) → i < most
      → stage_in (with_stage (Alert f j) c s) (Alert g i) ≡ cond (both f g && eqb i j) c (stage_in s (Alert g i))
  unfolding stage_in with_stage
  alert_put f g j i l =
      ap (λ (xs : List ℕ). get_or xs i 0) (alert_stages_law f g _ s.alerts)
      ∙ column_put (both f g) most (alert_stages f s.alerts) (alert_stages g s.alerts) j c i l
      (λ e. ap (λ (k : Field). alert_stages k s.alerts) (both_same f g e))

  pub class_put : (t : Setting) (j k : ℕ) → k < class_count
      → class_stages (with_stage (Block t j) c s) k ≡ cond (eqb k j) (with_setting_stage t c (class_stages s k)) (class_stages s k)
  unfolding with_stage
  class_put t j k l = at_changed class_count s.classes no_class_stages j k l (with_setting_stage t c)

  -- ── by register ──

  -- the register itself
  own : (q : Register) → in_map most q ≡ true → stage_in (with_stage q c s) q ≡ cond (is_shadowed q) c (stage_in s q)
  unfolding stage_in with_stage is_shadowed
  own (Only o) a = by_single (λ o. single_stage o (with_stage (Only o) c s) ≡ cond (single_row o).shadowed c (single_stage o s)) refl refl refl refl refl refl o
  own (Local f j) a = local_put f f j j (ltb-true j local_count a) ∙ same (field_row f).shadowed (field_index f) j c (stage_in s (Local f j))
  own (Alert f i) a = alert_put f f i i (ltb-true i most a) ∙ same (field_row f).shadowed (field_index f) i c (stage_in s (Alert f i))
  own (Block t k) a =
      let b = and-true (ltb k class_count) (setting_exists t) a in
      ap (setting_stage t) (class_put t k k (ltb-true k class_count b.0) ∙ ap (λ (e : Bool). cond e (with_setting_stage t c (class_stages s k)) (class_stages s k)) (eq-eqb k k refl))
      ∙ setting_stage_law t t c (class_stages s k) b.1
      ∙ ap (λ (e : Bool). cond e c (setting_stage t (class_stages s k))) (ap (λ (e : Bool). (setting_row t).shadowed && e) (eq-eqb (offset t) (offset t) refl) ∙ mathlib.Core.Bool.and-true (setting_row t).shadowed)
  own Unassigned a = refl

  -- another register of a block
  block_other : (t u : Setting) (j k : ℕ) → k < class_count → setting_exists u ≡ true → (number_of (Block t j) ≡ number_of (Block u k) → ⊥)
      → stage_in (with_stage (Block t j) c s) (Block u k) ≡ stage_in s (Block u k)
  unfolding stage_in number_of
  block_other t u j k l x d = ap (setting_stage u) (class_put t j k l) ∙ go (eqb k j) refl
    where
      go : (b : Bool) → eqb k j ≡ b → setting_stage u (cond b (with_setting_stage t c (class_stages s k)) (class_stages s k)) ≡ setting_stage u (class_stages s k)
      go true e =
          setting_stage_law t u c (class_stages s k) x
          ∙ cond_other ((setting_row u).shadowed && eqb (offset t) (offset u)) _ _
          (λ o. let i : k ≡ j = eqb-true k j e in
          let g : offset t ≡ offset u = eqb-true (offset t) (offset u) (and-true (setting_row u).shadowed (eqb (offset t) (offset u)) o).1 in d (omega arith))
      go false e = refl

  -- the ping timer's timeout, where it is another
  timeout_other : (q : Register) → (number_of q ≡ single_number PingTimeout → ⊥) → (with_stage q c s).timeout ≡ s.timeout
  unfolding with_stage number_of
  timeout_other =
      by_kind (λ q. (number_of q ≡ single_number PingTimeout → ⊥) → (with_stage q c s).timeout ≡ s.timeout)
      (λ o d. cond_other (eqb (single_number o) (single_number PingTimeout)) c s.timeout (λ e. d (eqb-true (single_number o) (single_number PingTimeout) e)))
      (λ f j d. refl) (λ f i d. refl) (λ t k d. refl) (λ d. refl)

  -- any other register
  other : (q p : Register) → in_map most p ≡ true → (number_of q ≡ number_of p → ⊥) → stage_in (with_stage q c s) p ≡ stage_in s p
  unfolding stage_in with_stage number_of
  other q (Only o) a = by_single (λ o. (number_of q ≡ single_number o → ⊥) → stage_in (with_stage q c s) (Only o) ≡ stage_in s (Only o))
      (λ d. refl) (λ d. refl) (λ d. refl) (λ d. refl) (timeout_other q) (λ d. refl) o
  other q (Local g i) a =
      by_kind (λ q. (number_of q ≡ number_of (Local g i) → ⊥) → stage_in (with_stage q c s) (Local g i) ≡ stage_in s (Local g i))
      (λ o d. refl)
      (λ f j d. local_put f g j i (ltb-true i local_count a) ∙ apart f g i j _ _ (λ e k. d (omega arith)))
      (λ f j d. refl) (λ t k d. refl) (λ d. refl) q
  other q (Alert g i) a =
      by_kind (λ q. (number_of q ≡ number_of (Alert g i) → ⊥) → stage_in (with_stage q c s) (Alert g i) ≡ stage_in s (Alert g i))
      (λ o d. refl) (λ f j d. refl)
      (λ f j d. alert_put f g j i (ltb-true i most a) ∙ apart f g i j _ _ (λ e k. d (omega arith)))
      (λ t k d. refl) (λ d. refl) q
  other q (Block u k) a =
      let b = and-true (ltb k class_count) (setting_exists u) a in
      by_kind (λ q. (number_of q ≡ number_of (Block u k) → ⊥) → stage_in (with_stage q c s) (Block u k) ≡ stage_in s (Block u k))
      (λ o d. refl) (λ f j d. refl) (λ f j d. refl)
      (λ t j. block_other t u j k (ltb-true k class_count b.0) b.1) (λ d. refl) q
  other q Unassigned a = λ d. refl

  -- a code put at q stands there if it is shadowed, and every other stage stays
  pub stage_put : (q p : Register) → in_map most q ≡ true → in_map most p ≡ true
      → stage_in (with_stage q c s) p ≡ cond (eqb (number_of q) (number_of p)) (cond (is_shadowed q) c (stage_in s p)) (stage_in s p)
  stage_put q p a b = go (eqb (number_of q) (number_of p)) refl
    where
      go : (e : Bool) → eqb (number_of q) (number_of p) ≡ e → stage_in (with_stage q c s) p ≡ cond e (cond (is_shadowed q) c (stage_in s p)) (stage_in s p)
      go true e =
          subst (λ (r : Register). stage_in (with_stage q c s) r ≡ cond (is_shadowed q) c (stage_in s r))
          (number_eq most q p (omega arith) a b (eqb-true (number_of q) (number_of p) e)) (own q a)
      go false e = other q p b (eqb-false (number_of q) (number_of p) e)

-- ── a stage that is dropped ──

-- a true test
never : {A : Type 0} → true ≡ false → A
never e = absurd (false≢true (sym e))

-- what is not shadowed has none
pub no_stage : (s : Stages) (q : Register) → is_shadowed q ≡ false → stage_in s q ≡ 0
unfolding stage_in is_shadowed
no_stage s q =
    by_kind (λ q. is_shadowed q ≡ false → stage_in s q ≡ 0)
    (by_single (λ o. is_shadowed (Only o) ≡ false → stage_in s (Only o) ≡ 0) (λ e. refl) (λ e. refl) (λ e. refl) (λ e. refl) never (λ e. refl))
    (λ f j. by_field (λ f. is_shadowed (Local f j) ≡ false → stage_in s (Local f j) ≡ 0) (λ e. refl) never never (λ e. refl) f)
    (λ f i. by_field (λ f. is_shadowed (Alert f i) ≡ false → stage_in s (Alert f i) ≡ 0) (λ e. refl) never never (λ e. refl) f)
    (λ t k. by_setting (λ t. is_shadowed (Block t k) ≡ false → stage_in s (Block t k) ≡ 0) (λ e. refl) never (λ e. refl) (λ e. refl) (λ e. refl)
    never never (λ p. never) (λ e. refl) (λ e. refl) t) (λ e. refl) q

-- what is no register is not shadowed
not_shadowed : (q : Register) → is_register q ≡ false → is_shadowed q ≡ false
unfolding is_shadowed
not_shadowed =
    by_kind (λ q. is_register q ≡ false → is_shadowed q ≡ false) (λ o. never) (λ f j. never) (λ f i. never) (λ t k. never) (λ e. refl)

-- the number of no register is none's
pub number_none : (q p : Register) → is_register q ≡ false → in_map most p ≡ true → number_of q ≡ number_of p → ⊥
unfolding number_of
number_none q p =
    by_kind (λ q. is_register q ≡ false → in_map most p ≡ true → number_of q ≡ number_of p → ⊥) (λ o. never) (λ f j. never) (λ f i. never)
    (λ t k. never)
    (λ e. by_kind (λ p. in_map most p ≡ true → 3 ≡ number_of p → ⊥) (λ o a d. single_number_law o (sym d))
    (λ f j a d. omega arith) (λ f i a d. omega arith) (λ t k a d. omega arith) (λ a d. false≢true a) p) q

module _ (s : Stages) (q p : Register) (a : is_register q ≡ true → in_map most q ≡ true) (b : in_map most p ≡ true) where
  -- where q has none, or is no register
  shut : stage_in s q ≡ 0 → stage_in s p ≡ cond (eqb (number_of q) (number_of p)) 0 (stage_in s p)
  shut z = go (eqb (number_of q) (number_of p)) refl (is_register q) refl
    where
      go : (e : Bool) → eqb (number_of q) (number_of p) ≡ e → (r : Bool) → is_register q ≡ r → stage_in s p ≡ cond e 0 (stage_in s p)
      go true e true r = ap (stage_in s) (sym (number_eq most q p (omega arith) (a r) b (eqb-true (number_of q) (number_of p) e))) ∙ z
      go true e false r = absurd (number_none q p r b (eqb-true (number_of q) (number_of p) e))
      go false e r d = refl

  -- where it has one
  open_put : (stage_in s q ≡ 0 → ⊥) → stage_in (with_stage q 0 s) p ≡ cond (eqb (number_of q) (number_of p)) 0 (stage_in s p)
  open_put z = go (is_shadowed q) refl (is_register q) refl
    where
      go : (t : Bool) → is_shadowed q ≡ t → (r : Bool) → is_register q ≡ r
          → stage_in (with_stage q 0 s) p ≡ cond (eqb (number_of q) (number_of p)) 0 (stage_in s p)
      go true e true r =
          stage_put s 0 q p (a r) b
          ∙ ap (λ (t : Bool). cond (eqb (number_of q) (number_of p)) (cond t 0 (stage_in s p)) (stage_in s p)) e
      go true e false r = absurd (z (no_stage s q (not_shadowed q r)))
      go false e r d = absurd (z (no_stage s q e))

  -- the stage of the register that is named is gone, and every other stays; what is no register has none
  pub stage_dropped : stage_in (dropped q s) p ≡ cond (eqb (number_of q) (number_of p)) 0 (stage_in s p)
  unfolding dropped
  stage_dropped =
      pick (λ (t : Stages). stage_in t p ≡ cond (eqb (number_of q) (number_of p)) 0 (stage_in s p)) (not (eqb (stage_in s q) 0)) _ _
      (λ e. open_put (eqb-false (stage_in s q) 0 (not-true (eqb (stage_in s q) 0) e)))
      (λ e. shut (eqb-true (stage_in s q) 0 (not-false (eqb (stage_in s q) 0) e)))

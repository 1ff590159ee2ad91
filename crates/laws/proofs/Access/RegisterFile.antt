-- The registers as one file: a committed write changes the register that it names, by its rule, and no other.
-- Assumes nothing.
use Prim.Native.Nat.{ℕ, ◌≤◌, ◌<◌}
use mathlib.Core.Path.{◌≡◌, refl, sym, ap, ◌∙◌, subst}
use mathlib.Core.List.{List}
use mathlib.Core.Bool.{Bool, true, false, false≢true, cond, not, ◌&&◌}
use native.Mathlib.Omega.{arith}
use borrow.Author.Tests.{eqb-true, eqb-false, ltb-true, not-false, eq-eqb}
use lib.Dec.{eqb, ltb}
use lib.ListN.{get_or}
use Rattle.bits.proofs.IndexLaws.{and-true}
use Rattle.class_rules.specs.Class.{no_class}
use Rattle.rules.specs.Access.{single_value, setting_value, value, field_stored, with_setting, store, accepted, is_first, acted, answer_to}
use Rattle.rules.specs.Map.{decode, number_of, is_register, single_number, single_row, field_row, row, only_written, write_only, offset}
use Rattle.rules.specs.State.{most, local_count, class_count, field_index, local, alert, class_at, local_column, alert_column}
use Rattle.rules.specs.declared.Access.{Access}
use Rattle.rules.specs.declared.Access.TheVariants.{Nothing, Read, Write, Malformed}
use Rattle.rules.specs.declared.Answer.{Answer}
use Rattle.rules.specs.declared.Field.{Field}
use Rattle.rules.specs.declared.Handler.{Handler}
use Rattle.rules.specs.declared.Register.{Register}
use Rattle.rules.specs.declared.Register.TheVariants.{Only, Local, Alert, Block, Unassigned}
use Rattle.rules.specs.declared.Setting.{Setting}
use Rattle.rules.specs.declared.Single.{Single}
use Rattle.rules.specs.declared.Single.TheVariants.{IntrState, IntrEnable, IntrTest, PingRegwen, PingTimeout, PingEnable}
use Rattle.rules.specs.declared.Way.{Way}
use Rattle.laws.specs.InMap.{in_map, setting_exists}
use Rattle.laws.specs.Block.{class_stored}
use Rattle.laws.specs.RegisterFile.{single_target, single_stored, target, new_value, writes, stores, commits, committed, stored_by, as_written, plain}
use Rattle.laws.proofs.Map.Cases.{pick, by_kind, by_single, by_field, never, cond_other}
use Rattle.laws.proofs.State.ColumnLaws.{at_changed, column_stored, local_column_law, alert_column_law, setting_value_law}
use Rattle.laws.proofs.Map.MapLaws.{decode_in_map, number_eq}
use Rattle.laws.proofs.Access.Refusals.{unrefused, is_accepted}
use Rattle.laws.proofs.Stages.StageLaws.{value_stages}
use Rattle.laws.proofs.State.StateLaws.{single_same}
use Rattle.laws.proofs.Access.Step1.{acted_but_stages, answer_accepted}

-- ── what a store makes of each part ──

-- N stays
pub store_n : (h : Handler) (q : Register) (v : ℕ) → (store h q v).n ≡ h.n
unfolding store
store_n h q v = by_kind (λ q. (store h q v).n ≡ h.n) (λ o. refl) (λ f j. refl) (λ f i. refl) (λ s k. refl) refl q

-- class k
pub class_stored_law : (h : Handler) (q : Register) (v k : ℕ) → k < class_count → class_at (store h q v) k ≡ class_stored q v k (class_at h k)
unfolding store
class_stored_law h q v k l =
    by_kind (λ q. class_at (store h q v) k ≡ class_stored q v k (class_at h k)) (λ o. refl) (λ f j. refl) (λ f i. refl)
    (λ s j. at_changed class_count h.classes no_class j k l (with_setting s v)) refl q

module _ (h : Handler) (f g : Field) (j i v : ℕ) where
  -- field g of alert i
  local_stored : i < local_count
      → local (store h (Local f j) v) g i ≡ cond (eqb (field_index f) (field_index g) && eqb i j) (field_stored g (local h g i) v) (local h g i)
  unfolding store
  local_stored l =
      ap (λ (xs : List ℕ). get_or xs i 0) (local_column_law f g _ h.locals)
      ∙ column_stored (λ e. local_column e h.locals) local_count f g j i v l

  alert_stored : i < most
      → alert (store h (Alert f j) v) g i ≡ cond (eqb (field_index f) (field_index g) && eqb i j) (field_stored g (alert h g i) v) (alert h g i)
  unfolding store
  alert_stored l =
      ap (λ (xs : List ℕ). get_or xs i 0) (alert_column_law f g _ h.alerts)
      ∙ column_stored (λ e. alert_column e h.alerts) most f g j i v l

-- ── what it makes of each register ──

-- a number is itself
same : (a : ℕ) → eqb a a ≡ true
same a = eq-eqb a a refl

module _ (h : Handler) (v : ℕ) where
  -- a register that there is one of
  single_own : (o : Single) → single_value (single_target o) (store h (Only o) v) ≡ single_stored o (single_value (single_target o) h) v
  unfolding store
  single_own =
      by_single (λ o. single_value (single_target o) (store h (Only o) v) ≡ single_stored o (single_value (single_target o) h) v) refl refl refl refl refl refl

  -- another than what is written
  abbrev Apart : Single → Single → Type 0
  Apart p o = (single_number (single_target o) ≡ single_number p → ⊥) → single_value p (store h (Only o) v) ≡ single_value p h

  single_other : (o p : Single) → Apart p o
  unfolding store
  single_other o IntrState = by_single (Apart IntrState) (λ d. absurd (d refl)) (λ d. refl) (λ d. absurd (d refl)) (λ d. refl) (λ d. refl) (λ d. refl) o
  single_other o IntrEnable = by_single (Apart IntrEnable) (λ d. refl) (λ d. absurd (d refl)) (λ d. refl) (λ d. refl) (λ d. refl) (λ d. refl) o
  single_other o IntrTest = λ d. refl
  single_other o PingRegwen = by_single (Apart PingRegwen) (λ d. refl) (λ d. refl) (λ d. refl) (λ d. absurd (d refl)) (λ d. refl) (λ d. refl) o
  single_other o PingTimeout = by_single (Apart PingTimeout) (λ d. refl) (λ d. refl) (λ d. refl) (λ d. refl) (λ d. absurd (d refl)) (λ d. refl) o
  single_other o PingEnable = by_single (Apart PingEnable) (λ d. refl) (λ d. refl) (λ d. refl) (λ d. refl) (λ d. refl) (λ d. absurd (d refl)) o

-- the register that is written
own : (h : Handler) (q : Register) (v : ℕ) → h.n ≤ most → in_map h.n q ≡ true
    → value (store h q v) (target q) ≡ new_value q (value h (target q)) v
unfolding store value
own h (Only o) v m a = single_own h v o
own h (Local f j) v m a =
    local_stored h f f j j v (ltb-true j local_count a) ∙ simp (same (field_index f), same j)
own h (Alert f i) v m a =
    alert_stored h f f i i v (omega (arith, ltb-true i h.n a)) ∙ simp (same (field_index f), same i)
own h (Block s k) v m a =
    let b = and-true (ltb k class_count) (setting_exists s) a in
    ap (setting_value s) (class_stored_law h (Block s k) v k (ltb-true k class_count b.0) ∙ simp (same k))
    ∙ setting_value_law s s v (class_at h k) b.1 ∙ simp (same (offset s))
own h Unassigned v m a = refl

-- another field or another alert
apart : (f g : Field) (i j x y : ℕ) → (field_index f ≡ field_index g → i ≡ j → ⊥) → cond (eqb (field_index f) (field_index g) && eqb i j) x y ≡ y
apart f g i j x y d =
    cond_other (eqb (field_index f) (field_index g) && eqb i j) x y
    (λ e. let b = and-true (eqb (field_index f) (field_index g)) (eqb i j) e in
    d (eqb-true (field_index f) (field_index g) b.0) (eqb-true i j b.1))

module _ (h : Handler) (v : ℕ) where
  -- another register of a block
  block_other : (s t : Setting) (j k : ℕ) → k < class_count → setting_exists t ≡ true
      → (number_of (Block s j) ≡ number_of (Block t k) → ⊥) → value (store h (Block s j) v) (Block t k) ≡ value h (Block t k)
  unfolding store value number_of
  block_other s t j k l x d = ap (setting_value t) (class_stored_law h (Block s j) v k l) ∙ go (eqb k j) refl
    where
      go : (b : Bool) → eqb k j ≡ b → setting_value t (cond b (with_setting s v (class_at h k)) (class_at h k)) ≡ setting_value t (class_at h k)
      go true e =
          setting_value_law s t v (class_at h k) x
          ∙ cond_other (eqb (offset s) (offset t)) _ _
          (λ o. let i : k ≡ j = eqb-true k j e in let g : offset s ≡ offset t = eqb-true (offset s) (offset t) o in d (omega arith))
      go false e = refl

  -- any other register
  other : (q p : Register) → h.n ≤ most → in_map h.n p ≡ true → (number_of (target q) ≡ number_of p → ⊥)
      → value (store h q v) p ≡ value h p
  unfolding store value number_of
  other q (Only p) m a =
      by_kind (λ q. (number_of (target q) ≡ single_number p → ⊥) → single_value p (store h q v) ≡ single_value p h)
      (λ o. single_other h v o p) (λ f j d. single_same _ h refl refl p) (λ f i d. single_same _ h refl refl p) (λ s k d. single_same _ h refl refl p) (λ d. refl) q
  other q (Local g i) m a =
      by_kind (λ q. (number_of (target q) ≡ number_of (Local g i) → ⊥) → local (store h q v) g i ≡ local h g i)
      (λ o d. refl)
      (λ f j d. local_stored h f g j i v (ltb-true i local_count a) ∙ apart f g i j _ _ (λ e k. d (omega arith)))
      (λ f i d. refl) (λ s k d. refl) (λ d. refl) q
  other q (Alert g i) m a =
      by_kind (λ q. (number_of (target q) ≡ number_of (Alert g i) → ⊥) → alert (store h q v) g i ≡ alert h g i)
      (λ o d. refl) (λ f i d. refl)
      (λ f j d. alert_stored h f g j i v (omega (arith, ltb-true i h.n a)) ∙ apart f g i j _ _ (λ e k. d (omega arith)))
      (λ s k d. refl) (λ d. refl) q
  other q (Block t k) m a =
      let b = and-true (ltb k class_count) (setting_exists t) a in
      by_kind (λ q. (number_of (target q) ≡ number_of (Block t k) → ⊥) → value (store h q v) (Block t k) ≡ value h (Block t k))
      (λ o d. refl) (λ f i d. refl) (λ f i d. refl)
      (λ s j. block_other s t j k (ltb-true k class_count b.0) b.1) (λ d. refl) q
  other q Unassigned m a = λ d. refl

-- a handler that has q has what q writes
pub target_in_map : (n : ℕ) (q : Register) → in_map n q ≡ true → in_map n (target q) ≡ true
target_in_map n q =
    by_kind (λ q. in_map n q ≡ true → in_map n (target q) ≡ true)
    (λ o a. a) (λ f j a. a) (λ f i a. a) (λ s k a. a) (λ a. a) q

-- v stored at q makes new_value of what q writes, and leaves every other register
pub value_stored : (h : Handler) (q p : Register) (v : ℕ) → h.n ≤ most → in_map h.n q ≡ true → in_map h.n p ≡ true
    → value (store h q v) p ≡ cond (writes q p) (new_value q (value h p) v) (value h p)
value_stored h q p v m a b = go (writes q p) refl
  where
    go : (w : Bool) → writes q p ≡ w → value (store h q v) p ≡ cond w (new_value q (value h p) v) (value h p)
    go true e =
        subst (λ (x : Register). value (store h q v) x ≡ new_value q (value h x) v)
        (number_eq h.n (target q) p m (target_in_map h.n q a) b (eqb-true (number_of (target q)) (number_of p) e)) (own h q v m a)
    go false e = other h v q p m b (eqb-false (number_of (target q)) (number_of p) e)

-- ── the access ──

-- a register of which an accepted write tells
pub accepted_in_map : (h : Handler) (r v : ℕ) → accepted h (Write r v) ≡ true → in_map h.n (decode h.n r) ≡ true
accepted_in_map h r v e = decode_in_map h.n r (not-false (is_register (decode h.n r)) (unrefused h (Write r v) e).exists)

-- a write that commits is accepted
pub stores_accepted : (h : Handler) (r v : ℕ) → stores h r v ≡ true → accepted h (Write r v) ≡ true
stores_accepted h r v e = (and-true (accepted h (Write r v)) (not (is_first h (decode h.n r))) e).0

-- an access changes what a committed write writes, and no other register; a staged one and a refused one change none
pub acted_value : (h : Handler) (x : Access) (p : Register) → h.n ≤ most → in_map h.n p ≡ true
    → value (acted h x) p ≡ cond (commits h x p) (committed h x (value h p)) (value h p)
acted_value h x p m a = acted_but_stages h x (λ g. value g p ≡ cond (commits h x p) (committed h x (value h p)) (value h p))
    (λ s. value_stages s (stored_by h x) p ∙ go x)
  where
    wrote : (r v : ℕ) (b : Bool) → stores h r v ≡ b
        → value (cond b (store h (decode h.n r) v) h) p
        ≡ cond (b && writes (decode h.n r) p) (new_value (decode h.n r) (value h p) v) (value h p)
    wrote r v true e = value_stored h (decode h.n r) p v m (accepted_in_map h r v (stores_accepted h r v e)) a
    wrote r v false e = refl

    go : (y : Access) → value (stored_by h y) p ≡ cond (commits h y p) (committed h y (value h p)) (value h p)
    go Nothing = refl
    go (Read r) = refl
    go (Write r v) = wrote r v (stores h r v) refl
    go Malformed = refl

-- N stays in what an access stores, and so in the access
pub stored_n : (h : Handler) (x : Access) → (stored_by h x).n ≡ h.n
stored_n h Nothing = refl
stored_n h (Read r) = refl
stored_n h (Write r v) = pick (λ (g : Handler). g.n ≡ h.n) (stores h r v) _ _ (λ _. store_n h (decode h.n r) v) (λ _. refl)
stored_n h Malformed = refl

pub acted_n : (h : Handler) (x : Access) → (acted h x).n ≡ h.n
acted_n h x = acted_but_stages h x (λ g. g.n ≡ h.n) (λ _. stored_n h x)

-- ── what follows ──

-- what the access does not write is as before
pub acted_other : (h : Handler) (x : Access) (p : Register) → h.n ≤ most → in_map h.n p ≡ true → commits h x p ≡ false
    → value (acted h x) p ≡ value h p
acted_other h x p m a e =
    acted_value h x p m a ∙ ap (λ (b : Bool). cond b (committed h x (value h p)) (value h p)) e

-- a committed write gives the register that it writes its new value
pub acted_target : (h : Handler) (r v : ℕ) → h.n ≤ most → stores h r v ≡ true
    → value (acted h (Write r v)) (target (decode h.n r)) ≡ new_value (decode h.n r) (value h (target (decode h.n r))) v
acted_target h r v m e =
    acted_but_stages h (Write r v) (λ g. value g (target q) ≡ new_value q (value h (target q)) v)
    (λ s. value_stages s (stored_by h (Write r v)) (target q) ∙ ap (λ (b : Bool). value (cond b (store h q v) h) (target q)) e ∙ own h q v m (accepted_in_map h r v (stores_accepted h r v e)))
  where
    q : Register
    q = decode h.n r

-- what takes a value as it is written can be read
pub as_written_law : (w : Way) → as_written w ≡ true → only_written w ≡ false
as_written_law Way.Both e = refl
as_written_law Way.OneClears e = refl
as_written_law Way.OneSets e = refl
as_written_law Way.ReadOnly e = refl
as_written_law Way.WriteOnly e = sym e

single_plain : (o : Single) → as_written (single_row o).way ≡ true → (single_target o ≡ o) × ((old v : ℕ) → single_stored o old v ≡ v)
single_plain =
    by_single (λ o. as_written (single_row o).way ≡ true → (single_target o ≡ o) × ((old v : ℕ) → single_stored o old v ≡ v))
    never (λ e. (refl, λ old v. refl)) never (λ e. (refl, λ old v. refl)) (λ e. (refl, λ old v. refl)) never

field_plain : (f : Field) → as_written (field_row f).way ≡ true → (old v : ℕ) → field_stored f old v ≡ v
field_plain =
    by_field (λ f. as_written (field_row f).way ≡ true → (old v : ℕ) → field_stored f old v ≡ v)
    (λ e old v. refl) (λ e old v. refl) (λ e old v. refl) (λ e. absurd (false≢true e))

-- a plain register is written itself and takes what is written
pub plain_takes : (q : Register) → plain q ≡ true → (target q ≡ q) × ((old v : ℕ) → new_value q old v ≡ v)
plain_takes =
    by_kind (λ q. plain q ≡ true → (target q ≡ q) × ((old v : ℕ) → new_value q old v ≡ v))
    (λ o e. let t = single_plain o e in (ap Only t.0, t.1)) (λ f j e. (refl, field_plain f e))
    (λ f i e. (refl, field_plain f e)) (λ s k e. (refl, λ old v. ap (λ (t : Bool). cond t v old) e)) (λ e. absurd (false≢true e))

-- an accepted read gives the value
pub read_answer : (h : Handler) (r : ℕ) → is_register (decode h.n r) ≡ true → write_only (decode h.n r) ≡ false
    → answer_to h (Read r) ≡ Answer.Value (value h (decode h.n r))
read_answer h r a b =
    answer_accepted h (Read r)
    (is_accepted h (Read r) (record { formed = refl; exists = ap not a; way = b; width = refl; threshold = refl; free = refl; same = refl }))

-- commit, then read: the value comes back
pub write_read : (h : Handler) (r v : ℕ) → h.n ≤ most → stores h r v ≡ true → plain (decode h.n r) ≡ true
    → answer_to (acted h (Write r v)) (Read r) ≡ Answer.Value v
unfolding write_only
write_read h r v m e f =
    let g : Handler = acted h (Write r v) in
    let q : Register = decode h.n r in
    let p = and-true (is_register q) (as_written (row q).way) f in
    let t = plain_takes q f in
    let d : decode g.n r ≡ q = ap (λ (n : ℕ). decode n r) (acted_n h (Write r v)) in
    read_answer g r (ap is_register d ∙ p.0) (ap write_only d ∙ as_written_law (row q).way p.1)
    ∙ ap Answer.Value (ap (value g) (d ∙ sym t.0) ∙ acted_target h r v m e ∙ t.1 (value h (target q)) v)

-- What the owner's class depends on beside its block: equal in two states, it is equal after the same access to both.
-- Assumes nothing.
use Prim.Native.Nat.{ℕ, ◌+◌, ◌≤◌, ◌<◌}
use mathlib.Core.Path.{◌≡◌, refl, sym, ap, ap₂, ◌∙◌}
use mathlib.Core.Bool.{Bool, true, false, cond, not, ◌&&◌, ◌||◌}
use native.Mathlib.Omega.{arith}
use borrow.Author.Tests.{ltb-true, lt-ltb, not-true}
use lib.Dec.{eqb}
use Rattle.std.specs.Prelude.{Ok, Err}
use Rattle.bits.specs.Bits.{bit, bits_of, fits}
use Rattle.bits.proofs.BitLaws.{bit_bits_of}
use Rattle.bits.proofs.IndexLaws.{and-true}
use Rattle.laws.proofs.Map.Cases.{by_kind, by_single, by_field, never}
use Rattle.laws.proofs.Map.Named.{named_is, committed_target}
use Rattle.laws.proofs.Access.RegisterFile.{accepted_in_map, stores_accepted, acted_other, acted_value}
use Rattle.laws.proofs.Stages.StageFile.{in_most, acted_stage}
use Rattle.laws.specs.InMap.{in_map}
use Rattle.laws.specs.RegisterFile.{single_target, single_stored, target, new_value, writes, stores, commits}
use Rattle.laws.specs.StageFile.{names, stage_by}
use Rattle.rules.specs.Access.{value, locked, silly, bars, unlike, in_order, verdict, accepts, is_first, named, drops, acted}
use Rattle.rules.specs.Answer.{first_of, Verdict}
use Rattle.rules.specs.Map.{decode, number_of, is_register, field_row, bits, write_only, read_only, guard, is_lock, is_shadowed}
use Rattle.rules.specs.Stages.{stage, stage_in}
use Rattle.rules.specs.State.{most, alert, receiver}
use Rattle.rules.specs.declared.Access.{Access}
use Rattle.rules.specs.declared.Access.TheVariants.{Nothing, Read, Write, Malformed}
use Rattle.rules.specs.declared.Field.{Field}
use Rattle.rules.specs.declared.Handler.{Handler}
use Rattle.rules.specs.declared.Register.{Register}
use Rattle.rules.specs.declared.Register.TheVariants.{Only, Local, Alert, Block, Unassigned}
use Rattle.rules.specs.declared.Single.TheVariants.{IntrState, IntrEnable, IntrTest, PingRegwen, PingTimeout, PingEnable}

-- ── what the owner's class depends on beside its block ──

-- the interrupt registers and the alerts that are not the tenant's; not the ping timer's registers
abbrev pub mine : (ℕ → Bool) → Register → Bool
mine his (Only IntrState) = true
mine his (Only IntrEnable) = true
mine his (Only IntrTest) = true
mine his (Only PingRegwen) = false
mine his (Only PingTimeout) = false
mine his (Only PingEnable) = false
mine his (Local f j) = false
mine his (Alert f i) = not (his i)
mine his (Block s j) = false
mine his Unassigned = false

-- as many alerts; of those that are not the tenant's equal registers but CAUSE, equal stages and equal receivers; equal interrupt bits
pub record Shared (k : ℕ) (his : ℕ → Bool) (g f : Handler) : Type 0 where
  pub small : g.n ≤ most
  pub n : g.n ≡ f.n
  pub fields : (d : Field) (i : ℕ) → his i ≡ false → i < g.n → (field_row d).moves ≡ false → alert g d i ≡ alert f d i
  pub stages : (d : Field) (i : ℕ) → his i ≡ false → i < g.n → stage g (Alert d i) ≡ stage f (Alert d i)
  pub receivers : (i : ℕ) → his i ≡ false → i < g.n → receiver g i ≡ receiver f i
  pub bit_k : bit g.interrupts.state k ≡ bit f.interrupts.state k
  pub enable_k : bit g.interrupts.enable k ≡ bit f.interrupts.enable k

-- ── the same access in both runs ──

module _ (k : ℕ) (his : ℕ → Bool) (g f : Handler) (s : Shared k his g f) where
  pub f_small : f.n ≤ most
  f_small = omega (arith, s.small, s.n)

  -- what refuses a write to one of these registers is equal in both
  module _ (q : Register) (a : in_map g.n q ≡ true) (e : mine his q ≡ true) where
    same_stage : stage g q ≡ stage f q
    unfolding stage_in
    same_stage =
        by_kind (λ q. in_map g.n q ≡ true → mine his q ≡ true → stage g q ≡ stage f q)
        (by_single (λ o. in_map g.n (Only o) ≡ true → mine his (Only o) ≡ true → stage g (Only o) ≡ stage f (Only o)) (λ a e. refl) (λ a e. refl) (λ a e. refl)
        (λ a. never) (λ a. never) (λ a. never)) (λ d j a. never)
        (λ d i a e. s.stages d i (not-true (his i) e) (ltb-true i g.n a)) (λ t j a. never) (λ a. never) q a e

    same_locked : locked g q ≡ locked f q
    unfolding locked guard value
    same_locked =
        by_kind (λ q. in_map g.n q ≡ true → mine his q ≡ true → locked g q ≡ locked f q)
        (by_single (λ o. in_map g.n (Only o) ≡ true → mine his (Only o) ≡ true → locked g (Only o) ≡ locked f (Only o)) (λ a e. refl) (λ a e. refl)
        (λ a e. refl) (λ a. never) (λ a. never) (λ a. never)) (λ d j a. never)
        (λ d i a e. by_field (λ d. locked g (Alert d i) ≡ locked f (Alert d i)) (same i a e) (same i a e) (same i a e) refl d) (λ t j a. never) (λ a. never) q a e
      where
        same : (i : ℕ) → in_map g.n (Alert Field.Regwen i) ≡ true → not (his i) ≡ true → eqb (alert g Field.Regwen i) 0 ≡ eqb (alert f Field.Regwen i) 0
        same i a e = ap (λ (m : ℕ). eqb m 0) (s.fields Field.Regwen i (not-true (his i) e) (ltb-true i g.n a) refl)

    same_silly : (v : ℕ) → silly g q v ≡ silly f q v
    same_silly v =
        by_kind (λ q. mine his q ≡ true → silly g q v ≡ silly f q v) (λ o e. refl) (λ d j. never) (λ d i e. refl) (λ t j. never) never q e

    same_first : is_first g q ≡ is_first f q
    same_first = ap (λ (c : ℕ). is_shadowed q && not (not (eqb c 0))) same_stage

  module _ (r v : ℕ) where
    same_decode : decode f.n r ≡ decode g.n r
    same_decode = ap (λ (n : ℕ). decode n r) (sym s.n)

    module _ (e : mine his (decode g.n r) ≡ true) (a : in_map g.n (decode g.n r) ≡ true) where
      same_verdict : verdict g (Write r v) ≡ verdict f (Write r v)
      unfolding verdict
      same_verdict =
          let q : Register = decode g.n r in
          ap₂ (λ (x y : Bool). first_of (in_order false (not (is_register q)) (read_only q) (not (fits (bits q) v)) x (y && not (is_lock q && eqb v 0)) (unlike g q v)))
          (same_silly q a e v) (same_locked q a e)
          ∙ ap (λ (c : ℕ). first_of (in_order false (not (is_register q)) (read_only q) (not (fits (bits q) v)) (silly f q v) (bars f q v)
          (not (eqb c 0) && not (eqb c (v + 1))))) (same_stage q a e)
          ∙ ap (λ (p : Register). first_of (in_order false (not (is_register p)) (read_only p) (not (fits (bits p) v)) (silly f p v) (bars f p v) (unlike f p v)))
          (sym same_decode)

      same_first_write : is_first g (decode g.n r) ≡ is_first f (decode f.n r)
      same_first_write = same_first (decode g.n r) a e ∙ ap (is_first f) (sym same_decode)

      same_stores : stores g r v ≡ stores f r v
      same_stores = ap₂ (λ (t : Verdict) (b : Bool). accepts t && not b) same_verdict same_first_write

  -- it changes such a register in both or in none
  module _ (r v : ℕ) (p : Register) (a : in_map g.n p ≡ true) (e : mine his p ≡ true) where
    mine_target : (q : Register) → mine his (target q) ≡ mine his q
    mine_target = by_kind (λ q. mine his (target q) ≡ mine his q) (by_single (λ o. mine his (target (Only o)) ≡ mine his (Only o)) refl refl refl refl refl refl) (λ d j. refl) (λ d i. refl) (λ t j. refl) refl

    same_commits : commits g (Write r v) p ≡ commits f (Write r v) p
    same_commits = go (commits g (Write r v) p) (commits f (Write r v) p) refl refl
      where
        af : in_map f.n p ≡ true
        af = ap (λ (n : ℕ). in_map n p) (sym s.n) ∙ a

        by : in_map g.n (decode g.n r) ≡ true → mine his (decode g.n r) ≡ true → commits g (Write r v) p ≡ commits f (Write r v) p
        by b i = ap₂ (λ (t : Bool) (q : Register). t && writes q p) (same_stores r v i b) (sym (same_decode r v))

        -- a write that changes p in the state h is to one of these registers
        at : (h : Handler) → h.n ≤ most → in_map h.n p ≡ true → commits h (Write r v) p ≡ true
            → (in_map h.n (decode h.n r) ≡ true) × (mine his (decode h.n r) ≡ true)
        at h m b c = (
          accepted_in_map h r v (stores_accepted h r v (and-true (stores h r v) (writes (decode h.n r) p) c).0),
          sym (mine_target (decode h.n r)) ∙ ap (mine his) (committed_target h p m b r v c) ∙ e,
        )

        go : (b c : Bool) → commits g (Write r v) p ≡ b → commits f (Write r v) p ≡ c → b ≡ c
        go true true d t = refl
        go false false d t = refl
        go true false d t = let o = at g s.small a d in sym d ∙ by o.0 o.1 ∙ t
        go false true d t =
            let o = at f f_small af t in
            sym d ∙ by (ap₂ in_map s.n (sym (same_decode r v)) ∙ o.0) (ap (mine his) (sym (same_decode r v)) ∙ o.1) ∙ t

  -- what is seen of such a register after the access
  module _ {A : Type 0} (view : ℕ → A) (p : Register) (a : in_map g.n p ≡ true) (e : mine his p ≡ true) (o : view (value g p) ≡ view (value f p)) where
    a_f : in_map f.n p ≡ true
    a_f = ap (λ (n : ℕ). in_map n p) (sym s.n) ∙ a

    pub still : (x y : Access) → commits g x p ≡ false → commits f y p ≡ false → view (value (acted g x) p) ≡ view (value (acted f y) p)
    still x y c d = ap view (acted_other g x p s.small a c) ∙ o ∙ sym (ap view (acted_other f y p f_small a_f d))

    pub same_view : ((q : Register) (v : ℕ) → target q ≡ p → view (new_value q (value g p) v) ≡ view (new_value q (value f p) v))
        → (x : Access) → view (value (acted g x) p) ≡ view (value (acted f x) p)
    same_view new Nothing = still Nothing Nothing refl refl
    same_view new (Read r) = still (Read r) (Read r) refl refl
    same_view new (Write r v) = go (commits g (Write r v) p) refl
      where
        go : (b : Bool) → commits g (Write r v) p ≡ b → view (value (acted g (Write r v)) p) ≡ view (value (acted f (Write r v)) p)
        go true c =
            ap view (acted_value g (Write r v) p s.small a ∙ ap (λ (t : Bool). cond t (new_value (decode g.n r) (value g p) v) (value g p)) c)
            ∙ new (decode g.n r) v (committed_target g p s.small a r v c)
            ∙ ap (λ (q : Register). view (new_value q (value f p) v)) (sym (same_decode r v))
            ∙ sym (ap view (acted_value f (Write r v) p f_small a_f ∙ ap (λ (t : Bool). cond t (new_value (decode f.n r) (value f p) v) (value f p)) (sym (same_commits r v p a e) ∙ c)))
        go false c = still (Write r v) (Write r v) c (sym (same_commits r v p a e) ∙ c)
    same_view new Malformed = still Malformed Malformed refl refl

  -- bit k of INTR_STATE, once written
  pub new_bit : k < 4 → (q : Register) (v : ℕ) → target q ≡ Only IntrState → bit (new_value q g.interrupts.state v) k ≡ bit (new_value q f.interrupts.state v) k
  unfolding number_of
  new_bit l q v =
      by_kind (λ q. target q ≡ Only IntrState → bit (new_value q g.interrupts.state v) k ≡ bit (new_value q f.interrupts.state v) k)
      (by_single (λ o. Only (single_target o) ≡ Only IntrState → bit (single_stored o g.interrupts.state v) k ≡ bit (single_stored o f.interrupts.state v) k)
      (λ e. at (λ b c. b && not c)) (λ e. absurd (omega (arith, ap number_of e))) (λ e. at (λ b c. b || c)) (λ e. absurd (omega (arith, ap number_of e)))
      (λ e. absurd (omega (arith, ap number_of e))) (λ e. absurd (omega (arith, ap number_of e)))) (λ d j e. absurd (omega (arith, ap number_of e)))
      (λ d i e. absurd (omega (arith, ap number_of e))) (λ t j e. absurd (omega (arith, ap number_of e))) (λ e. s.bit_k) q
    where
      at : (o : Bool → Bool → Bool) → bit (bits_of 4 (λ j. o (bit g.interrupts.state j) (bit v j))) k ≡ bit (bits_of 4 (λ j. o (bit f.interrupts.state j) (bit v j))) k
      at o = bit_bits_of 4 (λ j. o (bit g.interrupts.state j) (bit v j)) k l ∙ ap (λ (b : Bool). o b (bit v k)) s.bit_k ∙ sym (bit_bits_of 4 (λ j. o (bit f.interrupts.state j) (bit v j)) k l)

  -- INTR_ENABLE becomes what is written
  pub new_enable : (q : Register) (v : ℕ) → target q ≡ Only IntrEnable → bit (new_value q g.interrupts.enable v) k ≡ bit (new_value q f.interrupts.enable v) k
  unfolding number_of
  new_enable q v =
      by_kind (λ q. target q ≡ Only IntrEnable → bit (new_value q g.interrupts.enable v) k ≡ bit (new_value q f.interrupts.enable v) k)
      (by_single (λ o. Only (single_target o) ≡ Only IntrEnable → bit (single_stored o g.interrupts.enable v) k ≡ bit (single_stored o f.interrupts.enable v) k)
      (λ e. absurd (omega (arith, ap number_of e))) (λ e. refl) (λ e. absurd (omega (arith, ap number_of e))) (λ e. absurd (omega (arith, ap number_of e)))
      (λ e. absurd (omega (arith, ap number_of e))) (λ e. absurd (omega (arith, ap number_of e)))) (λ d j e. absurd (omega (arith, ap number_of e)))
      (λ d i e. absurd (omega (arith, ap number_of e))) (λ t j e. absurd (omega (arith, ap number_of e))) (λ e. s.enable_k) q

  -- the stage of an alert that is not the tenant's
  module _ (d : Field) (i : ℕ) (e : his i ≡ false) (j : i < g.n) where
    abbrev p : Register
    p = Alert d i

    in_g : in_map g.n p ≡ true
    in_g = lt-ltb i g.n j

    in_f : in_map f.n p ≡ true
    in_f = lt-ltb i f.n (omega (arith, s.n))

    same_names : (x : Access) → names g x p ≡ names f x p
    same_names Nothing = refl
    same_names (Read r) = ap (λ (n : ℕ). eqb (number_of (decode n r)) (number_of p)) s.n
    same_names (Write r v) = ap (λ (n : ℕ). eqb (number_of (decode n r)) (number_of p)) s.n
    same_names Malformed = refl

    same_read_verdict : (r : ℕ) → verdict g (Read r) ≡ verdict f (Read r)
    unfolding verdict
    same_read_verdict r = ap (λ (n : ℕ). first_of (in_order false (not (is_register (decode n r))) (write_only (decode n r)) false false false false)) s.n

    -- a verdict does the same to it
    same_by_read : (r : ℕ) (t : Verdict) → stage_by t g (Read r) (stage g p) ≡ stage_by t f (Read r) (stage f p)
    same_by_read r (Ok tt) = refl
    same_by_read r (Err m) = ap (λ (c : ℕ). cond (drops m) 0 c) (s.stages d i e j)

    same_by_write : (r v : ℕ) → decode g.n r ≡ p → (t : Verdict) → stage_by t g (Write r v) (stage g p) ≡ stage_by t f (Write r v) (stage f p)
    same_by_write r v n (Ok tt) =
        ap (λ (b : Bool). cond b (v + 1) 0) (same_first_write r v (ap (mine his) n ∙ ap not e) (ap (in_map g.n) n ∙ in_g))
    same_by_write r v n (Err m) = ap (λ (c : ℕ). cond (drops m) 0 c) (s.stages d i e j)

    -- so does an access that names it
    same_by : (x : Access) → named g x ≡ p → stage_by (verdict g x) g x (stage g p) ≡ stage_by (verdict f x) f x (stage f p)
    same_by Nothing n = never (ap (mine (λ _. false)) n)
    same_by (Read r) n =
        ap (λ (t : Verdict). stage_by t g (Read r) (stage g p)) (same_read_verdict r) ∙ same_by_read r (verdict f (Read r))
    same_by (Write r v) n =
        ap (λ (t : Verdict). stage_by t g (Write r v) (stage g p)) (same_verdict r v (ap (mine his) n ∙ ap not e) (ap (in_map g.n) n ∙ in_g))
        ∙ same_by_write r v n (verdict f (Write r v))
    same_by Malformed n = never (ap (mine (λ _. false)) n)

    pub same_staged : (x : Access) → stage (acted g x) p ≡ stage (acted f x) p
    same_staged x =
        acted_stage g s.small p (in_most g.n p s.small in_g) x ∙ go (names g x p) refl
        ∙ ap (λ (b : Bool). cond b (stage_by (verdict f x) f x (stage f p)) (stage f p)) (same_names x)
        ∙ sym (acted_stage f f_small p (in_most f.n p f_small in_f) x)
      where
        go : (b : Bool) → names g x p ≡ b → cond b (stage_by (verdict g x) g x (stage g p)) (stage g p) ≡ cond b (stage_by (verdict f x) f x (stage f p)) (stage f p)
        go true c = same_by x (named_is g p s.small in_g x c)
        go false c = s.stages d i e j

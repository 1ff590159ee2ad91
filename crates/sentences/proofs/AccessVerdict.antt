-- The verdict of the rules as one number, and the sentences' order of the refusals.
-- Assumes nothing.
use Prim.Native.Nat.{ℕ, ◌≤◌, ◌<◌}
use mathlib.Core.Path.{◌≡◌, refl, sym, ap, ◌∙◌}
use mathlib.Core.Logic.{◌↔◌}
use mathlib.Core.Bool.{Bool, true, false, false≢true, cond}
use native.Mathlib.Omega.{arith}
use borrow.Author.Tests.{eqb-false}
use lib.Dec.{eqb}
use Rattle.std.specs.Prelude.{Ok, Err}
use Rattle.rules.specs.Access.{malformed, no_register, wrong_way, too_wide, silly_threshold, barred, differs, in_order, verdict, accepts, accepted}
use Rattle.rules.specs.Answer.{refusal_number, first_of, Verdict}
use Rattle.rules.specs.declared.Access.{Access}
use Rattle.rules.specs.declared.Handler.{Handler}
use Rattle.rules.specs.declared.Refusal.{Refusal}
use Rattle.sentences.specs.AccessRefusals.{Malformed, NoRegister, WrongWay, TooWide, SillyThreshold, Locked, Given5, Given1, Given2, Given4, Given14, Given3, Given12, Accepted}
use Rattle.sentences.proofs.AccessCases.{here, later, last, away}
use Rattle.sentences.proofs.AccessRefusals.{malformed_is, no_register_is, wrong_way_is, too_wide_is, silly_is, locked_is, differs_is}

-- the refusal's number, and 0 where none is given
abbrev pub refusal_of : Verdict → ℕ
refusal_of (Ok tt) = 0
refusal_of (Err m) = refusal_number m

-- and back, of the refusals of an access
abbrev back : ℕ → Verdict
back c =
    cond (eqb c 1) (Err Refusal.NoRegister)
    (cond (eqb c 2) (Err Refusal.WrongWay)
    (cond (eqb c 3) (Err Refusal.Locked)
    (cond (eqb c 4) (Err Refusal.TooWide)
    (cond (eqb c 5) (Err Refusal.BadRecord)
    (cond (eqb c 6) (Err Refusal.BadCount)
    (cond (eqb c 7) (Err Refusal.BadState)
    (cond (eqb c 8) (Err Refusal.BadLength)
    (cond (eqb c 9) (Err Refusal.ShortList)
    (cond (eqb c 10) (Err Refusal.NoRecord)
    (cond (eqb c 11) (Err Refusal.ShortBuffer)
    (cond (eqb c 12) (Err Refusal.Differs)
    (cond (eqb c 14) (Err Refusal.SillyThreshold) (Ok tt)))))))))))))

back_is : (t : Verdict) → back (refusal_of t) ≡ t
back_is (Ok tt) = refl
back_is (Err Refusal.NoRegister) = refl
back_is (Err Refusal.WrongWay) = refl
back_is (Err Refusal.Locked) = refl
back_is (Err Refusal.TooWide) = refl
back_is (Err Refusal.BadRecord) = refl
back_is (Err Refusal.BadCount) = refl
back_is (Err Refusal.BadState) = refl
back_is (Err Refusal.BadLength) = refl
back_is (Err Refusal.ShortList) = refl
back_is (Err Refusal.NoRecord) = refl
back_is (Err Refusal.ShortBuffer) = refl
back_is (Err Refusal.Differs) = refl
back_is (Err Refusal.SillyThreshold) = refl

-- a verdict is what its number says
pub verdict_of : (t u : Verdict) → refusal_of t ≡ refusal_of u → t ≡ u
verdict_of t u e = sym (back_is t) ∙ ap back e ∙ back_is u

-- the order of the rules
in_order_law : (a b c d e f g : Bool)
    → refusal_of (first_of (in_order a b c d e f g)) ≡ cond a 5 (cond b 1 (cond c 2 (cond d 4 (cond e 14 (cond f 3 (cond g 12 0))))))
unfolding first_of
in_order_law true b c d e f g = refl
in_order_law false true c d e f g = refl
in_order_law false false true d e f g = refl
in_order_law false false false true e f g = refl
in_order_law false false false false true f g = refl
in_order_law false false false false false true g = refl
in_order_law false false false false false false true = refl
in_order_law false false false false false false false = refl

module _ (h : Handler) (x : Access) (m : h.n ≤ 248) where
  -- what is left of the order, from each refusal on
  abbrev from12 : ℕ
  from12 = cond (differs h x) 12 0

  abbrev from3 : ℕ
  from3 = cond (barred h x) 3 from12

  abbrev from14 : ℕ
  from14 = cond (silly_threshold h x) 14 from3

  abbrev from4 : ℕ
  from4 = cond (too_wide h x) 4 from14

  abbrev from2 : ℕ
  from2 = cond (wrong_way h x) 2 from4

  abbrev from1 : ℕ
  from1 = cond (no_register h x) 1 from2

  -- what is not the number of what is left
  away12 : (k : ℕ) → eqb 12 k ≡ false → ¬ (0 ≡ k) → ¬ (from12 ≡ k)
  away12 k i j = away (differs h x) 12 0 k (eqb-false 12 k i) j

  away3 : (k : ℕ) → eqb 3 k ≡ false → ¬ (from12 ≡ k) → ¬ (from3 ≡ k)
  away3 k i j = away (barred h x) 3 from12 k (eqb-false 3 k i) j

  away14 : (k : ℕ) → eqb 14 k ≡ false → ¬ (from3 ≡ k) → ¬ (from14 ≡ k)
  away14 k i j = away (silly_threshold h x) 14 from3 k (eqb-false 14 k i) j

  away4 : (k : ℕ) → eqb 4 k ≡ false → ¬ (from14 ≡ k) → ¬ (from4 ≡ k)
  away4 k i j = away (too_wide h x) 4 from14 k (eqb-false 4 k i) j

  away2 : (k : ℕ) → eqb 2 k ≡ false → ¬ (from4 ≡ k) → ¬ (from2 ≡ k)
  away2 k i j = away (wrong_way h x) 2 from4 k (eqb-false 2 k i) j

  away1 : (k : ℕ) → eqb 1 k ≡ false → ¬ (from2 ≡ k) → ¬ (from1 ≡ k)
  away1 k i j = away (no_register h x) 1 from2 k (eqb-false 1 k i) j

  -- a case before, of which the opposite is then known
  after5 : {Q : Type 0} (k : ℕ) → eqb 5 k ≡ false → (from1 ≡ k) ↔ Q → (cond (malformed x) 5 from1 ≡ k) ↔ ((¬ Malformed x) × Q)
  after5 k i q = later (malformed x) 5 k from1 (malformed_is x) (eqb-false 5 k i) (λ _. q)

  after1 : {Q : Type 0} (k : ℕ) → eqb 1 k ≡ false → (no_register h x ≡ false → (from2 ≡ k) ↔ Q) → (from1 ≡ k) ↔ ((¬ NoRegister h x) × Q)
  after1 k i q = later (no_register h x) 1 k from2 (no_register_is h m x) (eqb-false 1 k i) q

  module _ (n : no_register h x ≡ false) where
    after2 : {Q : Type 0} (k : ℕ) → eqb 2 k ≡ false → (from4 ≡ k) ↔ Q → (from2 ≡ k) ↔ ((¬ WrongWay h x) × Q)
    after2 k i q = later (wrong_way h x) 2 k from4 (wrong_way_is h m x n) (eqb-false 2 k i) (λ _. q)

    after4 : {Q : Type 0} (k : ℕ) → eqb 4 k ≡ false → (from14 ≡ k) ↔ Q → (from4 ≡ k) ↔ ((¬ TooWide h x) × Q)
    after4 k i q = later (too_wide h x) 4 k from14 (too_wide_is h m x n) (eqb-false 4 k i) (λ _. q)

    after14 : {Q : Type 0} (k : ℕ) → eqb 14 k ≡ false → (from3 ≡ k) ↔ Q → (from14 ≡ k) ↔ ((¬ SillyThreshold h x) × Q)
    after14 k i q = later (silly_threshold h x) 14 k from3 (silly_is h m x n) (eqb-false 14 k i) (λ _. q)

    after3 : {Q : Type 0} (k : ℕ) → eqb 3 k ≡ false → (from12 ≡ k) ↔ Q → (from3 ≡ k) ↔ ((¬ Locked h x) × Q)
    after3 k i q = later (barred h x) 3 k from12 (locked_is h m x n) (eqb-false 3 k i) (λ _. q)

  -- ── each refusal in its case ──

  abbrev met : ℕ
  met = refusal_of (verdict h x)

  is_met : met ≡ cond (malformed x) 5 from1
  unfolding verdict
  is_met = in_order_law (malformed x) (no_register h x) (wrong_way h x) (too_wide h x) (silly_threshold h x) (barred h x) (differs h x)

  by_order : {P : Type 0} (k : ℕ) → (cond (malformed x) 5 from1 ≡ k) ↔ P → (met ≡ k) ↔ P
  by_order k f = (λ e. f.0 (sym is_met ∙ e), λ p. is_met ∙ f.1 p)

  zero_not : (k : ℕ) → 0 < k → ¬ (0 ≡ k)
  zero_not k l e = omega arith

  pub is_5 : (met ≡ 5) ↔ Given5 h x
  is_5 =
      by_order 5 (here (malformed x) 5 from1 (malformed_is x)
      (away1 5 refl (away2 5 refl (away4 5 refl (away14 5 refl (away3 5 refl (away12 5 refl (zero_not 5 (omega arith)))))))))

  pub is_1 : (met ≡ 1) ↔ Given1 h x
  is_1 =
      by_order 1 (after5 1 refl (here (no_register h x) 1 from2 (no_register_is h m x)
      (away2 1 refl (away4 1 refl (away14 1 refl (away3 1 refl (away12 1 refl (zero_not 1 (omega arith)))))))))

  pub is_2 : (met ≡ 2) ↔ Given2 h x
  is_2 =
      by_order 2 (after5 2 refl (after1 2 refl (λ n. here (wrong_way h x) 2 from4 (wrong_way_is h m x n)
      (away4 2 refl (away14 2 refl (away3 2 refl (away12 2 refl (zero_not 2 (omega arith)))))))))

  pub is_4 : (met ≡ 4) ↔ Given4 h x
  is_4 =
      by_order 4 (after5 4 refl (after1 4 refl (λ n. after2 n 4 refl (here (too_wide h x) 4 from14 (too_wide_is h m x n)
      (away14 4 refl (away3 4 refl (away12 4 refl (zero_not 4 (omega arith)))))))))

  pub is_14 : (met ≡ 14) ↔ Given14 h x
  is_14 =
      by_order 14 (after5 14 refl (after1 14 refl (λ n. after2 n 14 refl (after4 n 14 refl (here (silly_threshold h x) 14 from3 (silly_is h m x n)
      (away3 14 refl (away12 14 refl (zero_not 14 (omega arith)))))))))

  pub is_3 : (met ≡ 3) ↔ Given3 h x
  is_3 =
      by_order 3 (after5 3 refl (after1 3 refl (λ n. after2 n 3 refl (after4 n 3 refl (after14 n 3 refl
      (here (barred h x) 3 from12 (locked_is h m x n) (away12 3 refl (zero_not 3 (omega arith)))))))))

  pub is_12 : (met ≡ 12) ↔ Given12 h x
  is_12 =
      by_order 12 (after5 12 refl (after1 12 refl (λ n. after2 n 12 refl (after4 n 12 refl (after14 n 12 refl (after3 n 12 refl
      (here (differs h x) 12 0 (differs_is h m x n) (zero_not 12 (omega arith)))))))))

  -- accepted is what is in no case
  pub is_0 : (met ≡ 0) ↔ Accepted h x
  is_0 =
      by_order 0 (after5 0 refl (after1 0 refl (λ n. after2 n 0 refl (after4 n 0 refl (after14 n 0 refl (after3 n 0 refl
      (last (differs h x) 12 (differs_is h m x n) (eqb-false 12 0 refl))))))))

  -- so the rules' own test of acceptance
  pub accepted_is : (accepted h x ≡ true) ↔ Accepted h x
  accepted_is = (λ e. is_0.0 (to (verdict h x) e), λ p. from (verdict h x) (is_0.1 p))
    where
      to : (t : Verdict) → accepts t ≡ true → refusal_of t ≡ 0
      to (Ok tt) e = refl
      to (Err r) e = absurd (false≢true e)

      from : (t : Verdict) → refusal_of t ≡ 0 → accepts t ≡ true
      from t e = ap accepts (verdict_of t (Ok tt) e)

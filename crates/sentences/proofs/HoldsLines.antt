-- The rule of the lines satisfies its sentence.
-- Assumes nothing.
use Prim.Native.Nat.{ℕ, zero, suc, ◌+◌, ◌<◌}
use mathlib.Core.Path.{◌≡◌}
use mathlib.Core.Logic.Iff
use mathlib.Core.Logic.{◌↔◌}
use mathlib.Core.Bool.{true, false, false≢true}
use native.Mathlib.Nat.{mod-lt}
use native.Mathlib.Omega.{arith}
use borrow.Author.Tests.{eqb-true, eq-eqb, ne_eqb}
use lib.Dec.{eqb}
use Rattle.class_rules.specs.Class.{line_enable, line_map, is_phase, state_of, drives}
use Rattle.class_rules.specs.declared.Class.{Class}
use Rattle.class_rules.specs.declared.ClassState.TheVariants.{Idle}
use Rattle.sentences.specs.Lines.{DrivesLine, Drives}
use Rattle.sentences.proofs.SentenceCases.{and_is}

-- a number over 7 is read as Idle, and never stands in a state that refusal 7 does not meet
over : (m : ℕ) → 7 < m → state_of m ≡ Idle
unfolding state_of
over m h =
    let other : (k : ℕ) → k < 8 → eqb m k ≡ false = λ k l. ne_eqb m k (λ e. omega arith) in
    simp (other 1 (omega arith), other 3 (omega arith), other 4 (omega arith), other 5 (omega arith), other 6 (omega arith), other 7 (omega arith))

module _ (p : ℕ) where
  -- one phase
  one : (q : ℕ) → (eqb p q ≡ true) ↔ (4 + q ≡ 4 + p)
  one q = (λ t. omega (arith, eqb-true p q t), λ e. eq-eqb p q (omega arith))

  -- no phase
  none : (m : ℕ) → ¬ (m ≡ 4 + p) → (false ≡ true) ↔ (m ≡ 4 + p)
  none m h = (λ t. absurd (false≢true t), λ e. absurd (h e))

  -- STATE reads phases 4 to 7; 2 and numbers over 7 are no phase's
  is_phase_law : p < 4 → (m : ℕ) → (is_phase (state_of m) p ≡ true) ↔ (m ≡ 4 + p)
  unfolding state_of
  is_phase_law h zero = none 0 (λ e. omega arith)
  is_phase_law h (suc zero) = none 1 (λ e. omega arith)
  is_phase_law h (suc (suc zero)) = none 2 (λ e. omega arith)
  is_phase_law h (suc (suc (suc zero))) = none 3 (λ e. omega arith)
  is_phase_law h (suc (suc (suc (suc zero)))) = one 0
  is_phase_law h (suc (suc (suc (suc (suc zero))))) = one 1
  is_phase_law h (suc (suc (suc (suc (suc (suc zero)))))) = one 2
  is_phase_law h (suc (suc (suc (suc (suc (suc (suc zero))))))) = one 3
  is_phase_law h (suc (suc (suc (suc (suc (suc (suc (suc m)))))))) =
      let n : ℕ = suc (suc (suc (suc (suc (suc (suc (suc m))))))) in rw (over n (omega arith)) (none n (λ e. omega arith))

pub drives_is : (c : Class) (e : ℕ) → (drives c e ≡ true) ↔ DrivesLine c e
unfolding drives
drives_is c e =
    and_is (line_enable c e) (is_phase (state_of c.state) (line_map c e)) Iff.rfl (is_phase_law (line_map c e) (mod-lt _ (omega arith)) c.state)

pub holds_lines : Drives drives
holds_lines c e l = drives_is c e

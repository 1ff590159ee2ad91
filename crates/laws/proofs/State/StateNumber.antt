-- A state and its number: STATE reads Idle 0, Timeout 1, Terminal 3, phases 4 to 7, and nothing else fits.
-- Assumes nothing.
use Prim.Native.Nat.{ℕ, zero, suc}
use mathlib.Core.Path.{◌≡◌, refl}
use mathlib.Core.Bool.{true, false≢true}
use native.Mathlib.Omega.{arith}
use borrow.Author.Tests.{le-ltb}
use Rattle.class_rules.specs.Class.{state_of, state_number, state_fits}
use Rattle.class_rules.specs.declared.ClassState.{ClassState}
use Rattle.class_rules.specs.declared.ClassState.TheVariants.{Idle, Timeout, Phase0, Phase1, Phase2, Phase3, Terminal}

-- the number of a state is one that STATE can hold
pub number_fits : (m : ClassState) → state_fits (state_number m) ≡ true
number_fits Idle = refl
number_fits Timeout = refl
number_fits Phase0 = refl
number_fits Phase1 = refl
number_fits Phase2 = refl
number_fits Phase3 = refl
number_fits Terminal = refl

-- a number that STATE can hold is the number of its state
pub number_state : (s : ℕ) → state_fits s ≡ true → state_number (state_of s) ≡ s
unfolding state_of
number_state zero e = refl
number_state (suc zero) e = refl
number_state (suc (suc zero)) e = absurd (false≢true e)
number_state (suc (suc (suc zero))) e = refl
number_state (suc (suc (suc (suc zero)))) e = refl
number_state (suc (suc (suc (suc (suc zero))))) e = refl
number_state (suc (suc (suc (suc (suc (suc zero)))))) e = refl
number_state (suc (suc (suc (suc (suc (suc (suc zero))))))) e = refl
number_state (suc (suc (suc (suc (suc (suc (suc (suc s)))))))) e =
    absurd (false≢true (rw (le-ltb (suc (suc (suc (suc (suc (suc (suc (suc s)))))))) 8 (omega arith)) at e))

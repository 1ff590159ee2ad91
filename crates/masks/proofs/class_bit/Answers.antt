-- `class_bit` meets its contract, class by class.
-- Assumes nothing.
use Prim.Native.Nat.{ℕ, zero, suc, ◌*◌, ◌^◌, ◌%◌, ◌<◌, ◌≤◌}
use mathlib.Core.Path.{◌≡◌, refl}
use mathlib.Core.Bool.{Bool, true, false, false≢true, ◌&&◌}
use native.Mathlib.Omega.{arith}
use borrow.Author.Tests.{ne_eqb, ltb-true, ltb-false}
use lib.Dec.{eqb, ltb}
use Rattle.bits.specs.Bits.{bits_of}
use Rattle.masks.proofs.class_bit.Goals as goal

one : (k : ℕ) → k < 4 → 1 * 2 ^ k % 256 ≡ bits_of 4 (λ j. eqb k j)
unfolding bits_of
one zero h = refl
one (suc zero) h = refl
one (suc (suc zero)) h = refl
one (suc (suc (suc zero))) h = refl
one (suc (suc (suc (suc k)))) h = absurd (omega arith)

set : (on : Bool) (k : ℕ) → (on && ltb k 4) ≡ true → 1 * 2 ^ k % 256 ≡ bits_of 4 (λ j. on && eqb k j)
set true k e = one k (ltb-true k 4 e)
set false k e = absurd (false≢true e)

none : (k : ℕ) → 4 ≤ k → 0 ≡ bits_of 4 (λ j. eqb k j)
unfolding bits_of
none k h = simp (ne_eqb k 0 (omega arith), ne_eqb k 1 (omega arith), ne_eqb k 2 (omega arith), ne_eqb k 3 (omega arith))

unset : (on : Bool) (k : ℕ) → (on && ltb k 4) ≡ false → 0 ≡ bits_of 4 (λ j. on && eqb k j)
unfolding bits_of
unset true k e = none k (ltb-false k 4 e)
unset false k e = refl

pub returns-then-on-k : goal.returns-then-on-k
returns-then-on-k c = set c.args.on c.args.k c.if-on-k.true

pub returns-else-on-k : goal.returns-else-on-k
returns-else-on-k c = unset c.args.on c.args.k c.if-on-k.false

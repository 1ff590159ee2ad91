-- A bit as a number.
-- Assumes nothing.
use Prim.Native.Nat.{ℕ, zero, suc, ◌/◌, ◌%◌, ◌^◌, ◌<◌}
use mathlib.Core.Path.{◌≡◌, refl}
use native.Mathlib.Nat.{mod-lt}
use native.Mathlib.Omega.{arith}
use lib.Dec.{eqb}
use Rattle.bits.specs.Bits.{bit, num}

digit_num : (d : ℕ) → d < 2 → num (eqb d 1) ≡ d
digit_num zero h = refl
digit_num (suc zero) h = refl
digit_num (suc (suc d)) h = absurd (omega arith)

pub num_bit : (x k : ℕ) → num (bit x k) ≡ x / 2 ^ k % 2
unfolding bit
num_bit x k = digit_num (x / 2 ^ k % 2) (mod-lt (x / 2 ^ k) (omega arith))

-- A mask with a bit for each local alert.
-- Assumes nothing.
use Prim.Native.Nat.{ℕ, ◌*◌, ◌%◌}
use mathlib.Core.Path.{◌≡◌}
use mathlib.Core.Bool.{Bool, ◌&&◌}
use native.Mathlib.Nat.{mod-lt}
use native.Mathlib.Omega.{arith}
use lib.Dec.{eqb}
use Rattle.bits.specs.Bits.{bit, bits_of, num}
use Rattle.bits.proofs.BitLaws.{bit_mod, is_bits_of}
use Rattle.rules.specs.State.{local_count}

-- the bits of local 0 to 3
pub bit_0 : (b : Bool) (n : ℕ) → n ≡ num b → n ≡ bits_of local_count (λ j. eqb j 0 && b)
unfolding bits_of
bit_0 b n e = omega arith

pub bit_1 : (b : Bool) (n : ℕ) → n ≡ num b → 2 * n ≡ bits_of local_count (λ j. eqb j 1 && b)
unfolding bits_of
bit_1 b n e = omega arith

pub bit_2 : (b : Bool) (n : ℕ) → n ≡ num b → 4 * n ≡ bits_of local_count (λ j. eqb j 2 && b)
unfolding bits_of
bit_2 b n e = omega arith

pub bit_3 : (b : Bool) (n : ℕ) → n ≡ num b → 8 * n ≡ bits_of local_count (λ j. eqb j 3 && b)
unfolding bits_of
bit_3 b n e = omega arith

-- the seven lowest bits
pub low_bits : (x : ℕ) → x % 128 ≡ bits_of local_count (bit x)
low_bits x = is_bits_of local_count (x % 128) (bit x) (mod-lt x (omega arith)) (λ k l. bit_mod 7 x k l)

-- The highest bit that is set, and the number without it, once over the bit.
-- Assumes nothing.
use Prim.Native.Nat.{ℕ, suc, ◌*◌, ◌/◌, ◌%◌, ◌^◌, ◌≤◌, ◌<◌}
use mathlib.Core.Path.{◌≡◌, sym, ap, ◌∙◌}
use mathlib.Core.Bool.{Bool, true, false≢true, ◌&&◌}
use native.Mathlib.Nat.{mod-lt, pow-suc, one-mul, le_antisymm, le_of_suc-le-suc, div-lt_iff_lt-mul, le-div_iff_mul-le}
use native.Mathlib.Omega.{arith}
use native.Mathlib.Decide.{dec_lt}
use lib.Dec.{eqb, ltb}
use lib.Pow.{pow_pos, shl_exact}
use borrow.Author.Tests.{lt-ltb, le-ltb}
use Rattle.bits.specs.Bits.{bit}
use Rattle.bits.proofs.BitLaws.{bit_above, bit_mod}

-- a number of k + 1 bits and no fewer has bit k
pub bit_top : (a k : ℕ) → 2 ^ k ≤ a → a < 2 ^ suc k → bit a k ≡ true
unfolding bit
bit_top a k h l =
    let e : a / 2 ^ k ≡ 1 =
    le_antisymm (le_of_suc-le-suc ((div-lt_iff_lt-mul (pow_pos k)).1 (omega (arith, pow-suc 2 k)))) ((le-div_iff_mul-le (pow_pos k)).1 (omega arith)) in
    ap (λ (x : ℕ). eqb (x % 2) 1) e

-- a number that has bit k is no smaller than that bit
pub bit_least : (a k : ℕ) → bit a k ≡ true → 2 ^ k ≤ a
bit_least a k e = go (dec_lt a (2 ^ k))
  where
    go : Dec (a < 2 ^ k) → 2 ^ k ≤ a
    go (yes l) = absurd (false≢true (sym (bit_above k a k l (omega arith)) ∙ e))
    go (no l) = omega arith

-- the bits below bit k
pub bit_low : (a k j : ℕ) → bit (a % 2 ^ k) j ≡ (ltb j k && bit a j)
bit_low a k j = go (dec_lt j k)
  where
    go : Dec (j < k) → bit (a % 2 ^ k) j ≡ (ltb j k && bit a j)
    go (yes l) = bit_mod k a j l ∙ sym (ap (λ (t : Bool). t && bit a j) (lt-ltb j k l))
    go (no l) =
        let g : k ≤ j = omega arith in
        bit_above k (a % 2 ^ k) j (mod-lt a (pow_pos k)) g ∙ sym (ap (λ (t : Bool). t && bit a j) (le-ltb j k g))

-- they make a smaller number, if there is a bit at k or above
pub low_less : (a k : ℕ) → 2 ^ k ≤ a → a % 2 ^ k < a
low_less a k h = omega (arith, mod-lt a (pow_pos k))

-- `1 << k` at w bits
pub one_shl : (w k : ℕ) → k < w → (1 * 2 ^ k) % 2 ^ w ≡ 2 ^ k
one_shl w k h = shl_exact {a = 1} 1 k w (omega arith) (omega arith) ∙ one-mul (2 ^ k)

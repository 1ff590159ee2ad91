-- The places of the alerts from b on that are below n.
-- Assumes nothing.
use Prim.Native.Nat.{ℕ, ◌+◌, ◌-◌, ◌/◌, ◌^◌, ◌<◌, ◌≤◌}
use mathlib.Core.Path.{◌≡◌, sym, ap, ◌∙◌}
use mathlib.Core.Bool.{not}
use native.Mathlib.Omega.{arith}
use native.Mathlib.Decide.{dec_lt}
use lib.Dec.{ltb}
use lib.Pow.{shr_le}
use borrow.Author.Tests.{lt-ltb, le-ltb}
use Rattle.bits.specs.Bits.{bit, place}
use Rattle.bits.proofs.BitLaws.{bit_shr, bit_ones, bit_above, bit_none, not64}

module _ (n b i : ℕ) (h : i < 64) where
  pub none_live : n ≤ b → place 0 i ≡ ltb (b + i) n
  none_live l = bit_none (63 - i) ∙ sym (le-ltb (b + i) n (omega arith))

  pub all_live : 64 ≤ n - b → place 18446744073709551615 i ≡ ltb (b + i) n
  all_live l = bit_ones 64 (63 - i) (omega arith) ∙ sym (lt-ltb (b + i) n (omega arith))

  -- `!(ones >> (n - b))`
  pub some_live : b < n → place (18446744073709551615 - 18446744073709551615 / 2 ^ (n - b)) i ≡ ltb (b + i) n
  some_live g = go (dec_lt (b + i) n)
    where
      k : 63 - i < 64
      k = omega arith

      small : 18446744073709551615 / 2 ^ (n - b) < 2 ^ 64
      small = omega (arith, shr_le 18446744073709551615 (n - b))

      one : place (18446744073709551615 - 18446744073709551615 / 2 ^ (n - b)) i ≡ not (bit 18446744073709551615 (n - b + (63 - i)))
      one = not64 (18446744073709551615 / 2 ^ (n - b)) (63 - i) small k ∙ ap not (bit_shr 18446744073709551615 (n - b) (63 - i))

      go : Dec (b + i < n) → place (18446744073709551615 - 18446744073709551615 / 2 ^ (n - b)) i ≡ ltb (b + i) n
      go (yes l) = one ∙ ap not (bit_above 64 18446744073709551615 (n - b + (63 - i)) (omega arith) (omega arith)) ∙ sym (lt-ltb (b + i) n l)
      go (no l) =
          let m : n ≤ b + i = omega arith in
          one ∙ ap not (bit_ones 64 (n - b + (63 - i)) (omega arith)) ∙ sym (le-ltb (b + i) n m)

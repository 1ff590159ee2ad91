-- The first place of a word that is set, and the places after it.
-- Assumes nothing.
use Prim.Native.Nat.{ℕ, suc, ◌+◌, ◌-◌, ◌%◌, ◌^◌, ◌≤◌, ◌<◌}
use mathlib.Core.Path.{◌≡◌, sym, ap, ◌∙◌}
use mathlib.Core.Bool.{Bool, ◌&&◌}
use native.Mathlib.Omega.{arith}
use native.Mathlib.Decide.{dec_lt}
use lib.Count.{count_leading_zeros, leading_top}
use lib.Dec.{ltb}
use borrow.Author.Tests.{lt-ltb, le-ltb}
use Rattle.bits.specs.Bits.{bit, place}
use Rattle.bits.proofs.BitLaws.{bit_above}
use Rattle.masks.specs.Places.{First, Rest}
use Rattle.bits.proofs.FirstLaws.{bit_top, bit_least, bit_low, low_less}

-- the first place is the highest bit
at_top : (w i k : ℕ) → i + suc k ≡ 64 → 2 ^ k ≤ w → w < 2 ^ suc k → First w i
at_top w i k e lo up =
    let d : 63 - i ≡ k = omega arith in
    record {
      below = omega arith;
      here = ap (bit w) d ∙ bit_top w k lo up;
      none = λ j h. bit_above (suc k) w (63 - j) up (omega arith);
    }

pub first_of : (w : ℕ) → 0 < w → w < 2 ^ 64 → First w (count_leading_zeros 64 w)
first_of w h l = let t = leading_top 64 w h l in at_top w (count_leading_zeros 64 w) t.0 t.1 t.2 t.3

-- the bits below it are the places after it
pub rest_of : (w i : ℕ) → First w i → Rest w i (w % 2 ^ (63 - i))
rest_of w i p =
    record {
      less = low_less w (63 - i) (bit_least w (63 - i) p.here);
      places = λ j h. bit_low w (63 - i) (63 - j) ∙ ap (λ (t : Bool). t && place w j) (go j h (dec_lt i j));
    }
  where
    go : (j : ℕ) → j < 64 → Dec (i < j) → ltb (63 - j) (63 - i) ≡ ltb i j
    go j h (yes l) = lt-ltb (63 - j) (63 - i) (omega arith) ∙ sym (lt-ltb i j l)
    go j h (no l) = le-ltb (63 - j) (63 - i) (omega arith) ∙ sym (le-ltb i j (omega arith))

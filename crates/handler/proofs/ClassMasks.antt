-- Laws of the masks that the tick's code makes.
-- Assumes nothing.
use Prim.Native.Nat.{ℕ, ◌%◌}
use mathlib.Core.Path.{◌≡◌, ap₂, ◌∙◌}
use mathlib.Core.Bool.{Bool, ◌&&◌, ◌||◌}
use native.Mathlib.Nat.{mod-lt}
use native.Mathlib.Omega.{arith}
use lib.Bits.{bit_and, bit_or}
use Rattle.bits.specs.Bits.{bit, bits_of}
use Rattle.bits.specs.Index.{any_to}
use Rattle.bits.proofs.BitLaws.{bit_and_law, bit_mod, is_bits_of}
use Rattle.bits.proofs.WordLaws.{or_bits_of}

-- four bits of two bytes, bit by bit
pub and_four : (a b : ℕ) → bit_and a b % 16 ≡ bits_of 4 (λ k. bit a k && bit b k)
and_four a b =
    is_bits_of 4 (bit_and a b % 16) (λ k. bit a k && bit b k) (mod-lt (bit_and a b) (omega arith))
    (λ k h. bit_mod 4 (bit_and a b) k h ∙ bit_and_law a b k)

-- the masks of four classes in one: what any of them has
pub or_four : (w : ℕ) (f : ℕ → ℕ → Bool) (a b c d : ℕ) → a ≡ bits_of w (f 0) → b ≡ bits_of w (f 1) → c ≡ bits_of w (f 2) → d ≡ bits_of w (f 3)
    → bit_or (bit_or (bit_or a b) c) d ≡ bits_of w (λ e. any_to (λ k. f k e) 4)
unfolding any_to
or_four w f a b c d ea eb ec ed =
    ap₂ bit_or (ap₂ bit_or (ap₂ bit_or ea eb ∙ or_bits_of w (f 0) (f 1)) ec ∙ or_bits_of w (λ e. f 0 e || f 1 e) (f 2)) ed
    ∙ or_bits_of w (λ e. (f 0 e || f 1 e) || f 2 e) (f 3)

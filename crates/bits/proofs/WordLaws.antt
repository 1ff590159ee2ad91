-- Laws of lists of words of 64, and of a mask that gathers bits.
-- Assumes nothing.
use Prim.Native.Nat.{ℕ, ◌+◌, ◌*◌, ◌/◌, ◌%◌, ◌<◌}
use mathlib.Core.Path.{◌≡◌, ap, ap₂, ◌∙◌}
use mathlib.Core.Bool.{Bool, ◌||◌}
use mathlib.Core.List.{List}
use native.Mathlib.Omega.{arith}
use native.Mathlib.Nat.{div-add-mod'}
use lib.Bits.{bit_or, or_lt}
use lib.ListN.{get_or}
use Rattle.bits.specs.Bits.{bits_of, place, word_of}
use Rattle.bits.specs.Index.{each, place_in}
use Rattle.bits.proofs.BitLaws.{bit_or_law, bits_of_lt, bit_bits_of, is_bits_of, place_word64}
use Rattle.bits.proofs.IndexLaws.{at_each}

-- place b of word v
pub place_in_at : (ws : List ℕ) (v b : ℕ) → b < 64 → place_in ws (v * 64 + b) ≡ place (get_or ws v 0) b
place_in_at ws v b h =
    let d : (v * 64 + b) / 64 ≡ v = omega arith in
    let m : (v * 64 + b) % 64 ≡ b = omega arith in
    ap₂ (λ (x y : ℕ). place (get_or ws x 0) y) d m

-- the n words whose place i is f i have f i at place i
pub place_in_each : (n : ℕ) (f : ℕ → Bool) (i : ℕ) → i < n * 64 → place_in (each n (λ v. word_of 64 (λ b. f (v * 64 + b)))) i ≡ f i
place_in_each n f i h =
    let l : i / 64 < n = omega arith in
    let m : i % 64 < 64 = omega arith in
    ap (λ (x : ℕ). place x (i % 64)) (at_each n (λ v. word_of 64 (λ b. f (v * 64 + b))) (i / 64) 0 l)
    ∙ place_word64 (λ b. f (i / 64 * 64 + b)) (i % 64) m ∙ ap f (div-add-mod' i 64)

-- two masks in one
pub or_bits_of : (w : ℕ) (f g : ℕ → Bool) → bit_or (bits_of w f) (bits_of w g) ≡ bits_of w (λ k. f k || g k)
or_bits_of w f g =
    is_bits_of w (bit_or (bits_of w f) (bits_of w g)) (λ k. f k || g k) (or_lt w (bits_of w f) (bits_of w g) (bits_of_lt w f) (bits_of_lt w g))
    (λ k h. bit_or_law (bits_of w f) (bits_of w g) k ∙ ap₂ ◌||◌ (bit_bits_of w f k h) (bit_bits_of w g k h))

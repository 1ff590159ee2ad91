-- A mask that a fold over its places puts together, bit by bit.
-- Assumes nothing.
use Prim.Native.Nat.{ℕ, ◌+◌, ◌*◌, ◌^◌, ◌%◌}
use mathlib.Core.Path.{◌≡◌}
use mathlib.Core.Bool.{Bool, true, beq}
use mir.Val.{bool_byte}
use borrow.Author.Tests.{eqb-true}
use lib.Bits.{bit_or}
use lib.Dec.{T, eqb}
use Rattle.std.specs.List.{fold, range_with_len}
use Rattle.bits.specs.Bits.{bits_of, num}
use Rattle.bits.proofs.TruthTables.{every, every_at, same}

-- a number for a bit is the same in either's words
pub num_byte : (b : Bool) → bool_byte b ≡ num b
num_byte b = eqb-true (bool_byte b) (num b) (same _ true (every_at (λ b. beq (eqb (bool_byte b) (num b)) true) tt b))

-- the mask m of a type that holds numbers below top, with bit e set if f e
abbrev pub put : ℕ → (ℕ → Bool) → ℕ → ℕ → ℕ
put top f m e = bit_or m (bool_byte (f e) * 2 ^ e % top)

module _ (top : ℕ) where
  abbrev four : Bool → Bool → Bool → Bool → Bool
  four a b c d =
      beq (eqb (bit_or (bit_or (bit_or (bit_or 0 (bool_byte a * 2 ^ 0 % top)) (bool_byte b * 2 ^ 1 % top)) (bool_byte c * 2 ^ 2 % top)) (bool_byte d * 2 ^ 3 % top))
      (num a + 2 * (num b + 2 * (num c + 2 * (num d + 2 * 0))))) true

  pub put4 : T (every (λ a. every (λ b. every (λ c. every (four a b c))))) → (f : ℕ → Bool) → fold (put top f) 0 (range_with_len 0 4) ≡ bits_of 4 f
  unfolding bits_of
  put4 t f = eqb-true _ _ (same _ true (every_at (four (f 0) (f 1) (f 2)) (every_at (λ c. every (four (f 0) (f 1) c)) (every_at (λ b. every (λ c. every (four (f 0) b c))) (every_at (λ a. every (λ b. every (λ c. every (four a b c)))) t (f 0)) (f 1)) (f 2)) (f 3)))

-- the seven local alerts' bits
abbrev seven : Bool → Bool → Bool → Bool → Bool → Bool → Bool → Bool
seven a b c d e g h =
    beq (eqb (bit_or (bit_or (bit_or (bit_or (bit_or (bit_or (bit_or 0 (bool_byte a * 2 ^ 0 % 256)) (bool_byte b * 2 ^ 1 % 256)) (bool_byte c * 2 ^ 2 % 256)) (bool_byte d * 2 ^ 3 % 256)) (bool_byte e * 2 ^ 4 % 256)) (bool_byte g * 2 ^ 5 % 256)) (bool_byte h * 2 ^ 6 % 256))
    (num a + 2 * (num b + 2 * (num c + 2 * (num d + 2 * (num e + 2 * (num g + 2 * (num h + 2 * 0)))))))) true

pub put7 : (f : ℕ → Bool) → fold (put 256 f) 0 (range_with_len 0 7) ≡ bits_of 7 f
unfolding bits_of
put7 f = eqb-true _ _ (same _ true (every_at (seven (f 0) (f 1) (f 2) (f 3) (f 4) (f 5)) (every_at (λ g. every (seven (f 0) (f 1) (f 2) (f 3) (f 4) g)) (every_at (λ e. every (λ g. every (seven (f 0) (f 1) (f 2) (f 3) e g))) (every_at (λ d. every (λ e. every (λ g. every (seven (f 0) (f 1) (f 2) d e g)))) (every_at (λ c. every (λ d. every (λ e. every (λ g. every (seven (f 0) (f 1) c d e g))))) (every_at (λ b. every (λ c. every (λ d. every (λ e. every (λ g. every (seven (f 0) b c d e g)))))) (every_at (λ a. every (λ b. every (λ c. every (λ d. every (λ e. every (λ g. every (seven a b c d e g))))))) (tt) (f 0)) (f 1)) (f 2)) (f 3)) (f 4)) (f 5)) (f 6)))

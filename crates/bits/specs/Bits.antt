-- Bits of a number, and numbers made of bits.
-- Assumes nothing.
use Rattle.std.specs.Prelude.{ℕ, zero, suc, ◌+◌, ◌-◌, ◌*◌, ◌/◌, ◌%◌, ◌^◌, Bool, true, false, eqb, ltb}

-- bit k of a number, bit 0 lowest
unfoldable pub bit : ℕ → ℕ → Bool
bit x k = eqb (x / 2 ^ k % 2) 1

-- the field of w bits whose lowest is bit k
abbrev pub field : ℕ → ℕ → ℕ → ℕ
field k w x = x / 2 ^ k % 2 ^ w

-- a number of at most w bits
abbrev pub fits : ℕ → ℕ → Bool
fits w x = ltb x (2 ^ w)

-- a bit as a number
abbrev pub num : Bool → ℕ
num true = 1
num false = 0

-- the number of w bits whose bit k is f k
unfoldable pub bits_of : ℕ → (ℕ → Bool) → ℕ
bits_of zero f = 0
bits_of (suc w) f = num (f 0) + 2 * bits_of w (λ k. f (suc k))

-- place i of a word of 64, the highest bit first
abbrev pub place : ℕ → ℕ → Bool
place x i = bit x (63 - i)

-- the number of w bits whose place i, the highest bit first, is f i
unfoldable pub word_of : ℕ → (ℕ → Bool) → ℕ
word_of zero f = 0
word_of (suc w) f = word_of w f * 2 + num (f w)

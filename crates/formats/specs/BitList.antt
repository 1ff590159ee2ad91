-- Numbers and bytes as lists of bits, most significant bit first.
-- Assumes nothing.
use Rattle.std.specs.Prelude.{ℕ, zero, suc, ◌+◌, ◌*◌, ◌^◌, ◌<◌, Bool, false, List, [], ◌∷◌, ◌++◌, length, get_or, take, drop}
use Rattle.bits.specs.Bits.{bit, num, word_of}

-- the lowest w bits of a number
unfoldable pub bit_list : ℕ → ℕ → List Bool
bit_list zero x = []
bit_list (suc w) x = bit x w ∷ bit_list w x

-- the number of a list of bits
unfoldable pub number_of : List Bool → ℕ
number_of [] = 0
number_of (b ∷ bs) = num b * 2 ^ length bs + number_of bs

-- the bits of bytes one after the other
unfoldable pub bits_of_bytes : List ℕ → List Bool
bits_of_bytes [] = []
bits_of_bytes (x ∷ xs) = bit_list 8 x ++ bits_of_bytes xs

-- the first n bytes of bits
unfoldable pub bytes_of_bits : ℕ → List Bool → List ℕ
bytes_of_bits zero bs = []
bytes_of_bits (suc n) bs = number_of (take 8 bs) ∷ bytes_of_bits n (drop 8 bs)

-- the number of the first w bits, with zeros past the end
abbrev pub filled : ℕ → List Bool → ℕ
filled w bs = word_of w (λ i. get_or bs i false)

-- each number of a list is a byte
pub data AreBytes : List ℕ → Type 0 where
  none : AreBytes []
  one : {x : ℕ} {xs : List ℕ} → x < 2 ^ 8 → AreBytes xs → AreBytes (x ∷ xs)

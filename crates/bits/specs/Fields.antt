-- A number as a list of fields, most significant first, by a list of widths.
-- Assumes nothing.
use Rattle.std.specs.Prelude.{ℕ, ◌+◌, ◌*◌, ◌^◌, ◌<◌, List, [], ◌∷◌, length, replicate}
use Rattle.bits.specs.Bits.{field}

-- all bits of a layout
abbrev pub total : List ℕ → ℕ
total [] = 0
total (w ∷ ws) = w + total ws

unfoldable pub pack : List ℕ → List ℕ → ℕ
pack [] xs = 0
pack (w ∷ ws) [] = 0
pack (w ∷ ws) (x ∷ xs) = x * 2 ^ total ws + pack ws xs

unfoldable pub unpack : List ℕ → ℕ → List ℕ
unpack [] n = []
unpack (w ∷ ws) n = field (total ws) w n ∷ unpack ws n

-- as many fields as widths, and each fits its width
pub data Fit : List ℕ → List ℕ → Type 0 where
  none : Fit [] []
  one : {w x : ℕ} {ws xs : List ℕ} → x < 2 ^ w → Fit ws xs → Fit (w ∷ ws) (x ∷ xs)

-- bytes as one number, the first byte most significant, and back
abbrev pub of_bytes : List ℕ → ℕ
of_bytes bs = pack (replicate (length bs) 8) bs

abbrev pub to_bytes : ℕ → ℕ → List ℕ
to_bytes count n = unpack (replicate count 8) n

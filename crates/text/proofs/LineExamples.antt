-- Document 01's two printed words, and a word with each digit, as lines.
-- Assumes nothing.
use mathlib.Core.Path.{◌≡◌, refl}
use mathlib.Core.List.{[], ◌∷◌, ◌++◌}
use Rattle.bits.specs.Fields.{unpack}
use Rattle.text.specs.HexLines.{line_of, lines_of}

-- `0123456789abcdef` and a newline
each_digit : line_of 0x0123456789abcdef ≡ 48 ∷ 49 ∷ 50 ∷ 51 ∷ 52 ∷ 53 ∷ 54 ∷ 55 ∷ 56 ∷ 57 ∷ 97 ∷ 98 ∷ 99 ∷ 100 ∷ 101 ∷ 102 ∷ 10 ∷ []
unfolding line_of unpack
each_digit = refl

-- `000000000000393c` and `0010000000000000`, each with its newline
printed : lines_of (0x393c ∷ 0x0010000000000000 ∷ [])
    ≡ (48 ∷ 48 ∷ 48 ∷ 48 ∷ 48 ∷ 48 ∷ 48 ∷ 48 ∷ 48 ∷ 48 ∷ 48 ∷ 48 ∷ 51 ∷ 57 ∷ 51 ∷ 99 ∷ 10 ∷ [])
    ++ (48 ∷ 48 ∷ 49 ∷ 48 ∷ 48 ∷ 48 ∷ 48 ∷ 48 ∷ 48 ∷ 48 ∷ 48 ∷ 48 ∷ 48 ∷ 48 ∷ 48 ∷ 48 ∷ 10 ∷ [])
unfolding lines_of line_of unpack
printed = refl

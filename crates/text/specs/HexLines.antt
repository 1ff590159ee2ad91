-- "prints each word as 16 lower-case hex digits and a newline": words as lines of text, in ASCII.
-- Assumes nothing.
use Rattle.std.specs.Prelude.{ℕ, ◌+◌, ◌-◌, ◌*◌, ◌/◌, min, ◌≡◌, cond, List, [], ◌∷◌, ◌++◌, map, ltb, length, take, drop, replicate}
use Rattle.bits.specs.Fields.{unpack}

-- the lower-case hex digit of a number below 16: 48 is `0`, 97 is `a`
abbrev pub digit_of : ℕ → ℕ
digit_of d = cond (ltb d 10) (48 + d) (97 + (d - 10))

-- a word as 16 hex digits, the most significant first, and a newline
unfoldable pub line_of : ℕ → List ℕ
line_of w = map digit_of (unpack (replicate 16 4) w) ++ (10 ∷ [])

-- the lines of a list of words, one after the other
unfoldable pub lines_of : List ℕ → List ℕ
lines_of [] = []
lines_of (w ∷ ws) = line_of w ++ lines_of ws

-- how many lines there are: one for each word, but no more than whole lines fit
abbrev pub count_of : List ℕ → List ℕ → ℕ
count_of ws out = min (length ws) (length out / 17)

-- `out` becomes `filled` by the lines of `ws`, and `written` counts their bytes; what is behind them stays
pub record Written (ws out : List ℕ) (written : ℕ) (filled : List ℕ) : Type 0 where
  pub bytes : written ≡ 17 * count_of ws out
  pub lines : filled ≡ lines_of (take (count_of ws out) ws) ++ drop (17 * count_of ws out) out

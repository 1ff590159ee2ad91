-- Pairs of wires, each a positive and a negative wire, and words with a bit for each alert, in raw bits, and no definition of the rules.
-- Assumes nothing.
use Rattle.std.specs.Prelude.{ℕ, ◌≤◌, ◌<◌, ◌≡◌, ◌⊎◌, true, false, List, get_or, length}
use Rattle.bits.specs.Bits.{bit}
use Rattle.rules.specs.declared.LinePairs.{LinePairs}
use Rattle.rules.specs.declared.Wires.{Wires}
use Rattle.sentences.specs.Raw.{positive, negative}

-- ── alert i's pair ──

-- (1,0)
abbrev pub High : Wires → ℕ → Type 0
High w i = (positive w i ≡ true) × (negative w i ≡ false)

-- (0,1)
abbrev pub Low : Wires → ℕ → Type 0
Low w i = (positive w i ≡ false) × (negative w i ≡ true)

abbrev pub Equal : Wires → ℕ → Type 0
Equal w i = positive w i ≡ negative w i

-- wires that are not equal
abbrev pub Differ : Wires → ℕ → Type 0
Differ w i = High w i ⊎ Low w i

-- ── words ──

-- four words of 64 bits
pub record FourWords (ws : List ℕ) : Type 0 where
  pub many : length ws ≡ 4
  pub fits : (v : ℕ) → v < 4 → get_or ws v 0 ≤ 18446744073709551615

-- of pairs
pub record PairWords (w : Wires) : Type 0 where
  pub positives : FourWords w.pos
  pub negatives : FourWords w.neg

-- every pair is (0,1), those of the places 248 to 255, where no alert can be, too
pub record AllLow (w : Wires) : Type 0 where
  pub low : (i : ℕ) → i < 256 → Low w i
  pub words : PairWords w

-- below n the pair is (1,0) where On holds, and (0,1) where it does not; at n and above it is (0,1)
pub record PairsBy (n : ℕ) (On : ℕ → Type 0) (w : Wires) : Type 0 where
  pub high : (i : ℕ) → i < n → i < 256 → On i → High w i
  pub low : (i : ℕ) → i < n → i < 256 → ¬ On i → Low w i
  pub above : (i : ℕ) → n ≤ i → i < 256 → Low w i
  pub words : PairWords w

-- ── request (xi): the four lines' pairs, line 0 the lowest bit ──

-- (1,0) where On holds, and (0,1) where it does not; the bits from 4 up are 0
pub record LinePairsBy (On : ℕ → Type 0) (w : LinePairs) : Type 0 where
  pub high : (e : ℕ) → e < 4 → On e → (bit w.pos e ≡ true) × (bit w.neg e ≡ false)
  pub low : (e : ℕ) → e < 4 → ¬ On e → (bit w.pos e ≡ false) × (bit w.neg e ≡ true)
  pub positives : w.pos ≤ 15
  pub negatives : w.neg ≤ 15

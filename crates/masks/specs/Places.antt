-- A walk over the places of a word that are set.
-- Assumes nothing.
use Rattle.std.specs.Prelude.{ℕ, ◌<◌, ◌≡◌, true, false, ◌&&◌, ltb}
use Rattle.bits.specs.Bits.{place}

-- i is the first place of w that is set
pub record First (w i : ℕ) : Type 0 where
  pub below : i < 64
  pub here : place w i ≡ true
  pub none : (j : ℕ) → j < i → place w j ≡ false

-- r has the places of w that stand after i, and is a smaller number
pub record Rest (w i r : ℕ) : Type 0 where
  pub less : r < w
  pub places : (j : ℕ) → j < 64 → place r j ≡ (ltb i j && place w j)

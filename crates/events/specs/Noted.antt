-- What events do, as the code gives it: causes, and the classes hit as a mask.
-- Assumes nothing.
use Rattle.std.specs.Prelude.{ℕ, ◌≡◌, Bool, ◌&&◌, List, eqb, ltb, get_or}
use Rattle.bits.specs.Bits.{bits_of}
use Rattle.bits.specs.Index.{each, any_to}
use Rattle.rules.specs.Samples.{marked}

-- of `size` alerts those below n with f are noted: each has its cause set and its class hit
pub record Noted (f : ℕ → Bool) (class before : List ℕ) (size n : ℕ) (cause : List ℕ) (hits : ℕ) : Type 0 where
  pub causes : cause ≡ each size (λ i. marked (ltb i n && f i) (get_or before i 0))
  pub classes : hits ≡ bits_of 4 (λ k. any_to (λ i. f i && eqb (get_or class i 0) k) n)

-- a register of one bit is 1
abbrev pub enabled_in : List ℕ → ℕ → Bool
enabled_in en i = eqb (get_or en i 0) 1

-- Request (xii): the smaller of two numbers, as std has it.
-- Assumes nothing.
use Prim.Native.Nat.{ℕ, ◌<◌, min}
use mathlib.Core.Path.{◌≡◌}
use native.Mathlib.Omega.{arith}
use native.Mathlib.Decide.{dec_lt}
use Rattle.calm_laws.specs.Stand.{least}
use Rattle.calm_laws.proofs.Standing.{least_left, least_right}

pub min_least : (a b : ℕ) → min a b ≡ least a b
min_least a b = go (dec_lt b a)
  where
    go : Dec (b < a) → min a b ≡ least a b
    go (yes h) = omega (arith, least_right a b (omega arith))
    go (no h) = omega (arith, least_left a b (omega arith))

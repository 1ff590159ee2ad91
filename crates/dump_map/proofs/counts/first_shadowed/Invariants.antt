use Prim.Native.Nat.{ℕ, ◌≤◌, ◌<◌}
use mathlib.Core.Path.{◌≡◌}
use mathlib.Core.Bool.{false}
use Rattle.rules.specs.Map.{decode, is_shadowed}
use Rattle.dump_map.proofs.counts.first_shadowed.Given as goal

abbrev pub invariant-loop-r : goal.invariant-loop-r
invariant-loop-r l = (x : ℕ) → l.fn.a ≤ x → x < l.r → is_shadowed (decode l.n x) ≡ false

use Prim.Native.Nat.{ℕ, ◌≤◌, ◌-◌}
use mathlib.Core.Path.{◌≡◌}
use Rattle.bits.specs.Bits.{fits}
use Rattle.rules.specs.Valid.{column_fits}
use Rattle.state.proofs.valid.union.Given as goal

abbrev pub invariant-loop-i : goal.invariant-loop-i
invariant-loop-i l = (l.i ≤ l.n) × ((b : ℕ) → fits b l.r ≡ column_fits b l.xs l.i)

abbrev pub decreases-loop-i : goal.decreases-loop-i
decreases-loop-i l = l.n - l.i

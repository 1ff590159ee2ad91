use Prim.Native.Nat.{ℕ, ◌-◌, ◌*◌, ◌≤◌}
use mathlib.Core.List.{List}
use Rattle.rules.specs.State.{most, words}
use Rattle.events.specs.Noted.{Noted}
use Rattle.events.proofs.Turns.{Left, counted, visited}
use Rattle.events.proofs.gather.gather.Given as goal

abbrev pub invariant-loop-left : goal.invariant-loop-left
invariant-loop-left l =
    (i : ℕ) × Left (counted l.n l.events) l.v i l.left
    × ((before : List ℕ) → Noted (visited l.n l.events l.en) l.class before most (l.v * 64) l.initial.cause l.initial.hits → Noted (visited l.n l.events l.en) l.class before most i l.cause l.hits)

abbrev pub decreases-loop-left : goal.decreases-loop-left
decreases-loop-left l = l.left

abbrev pub invariant-loop-v : goal.invariant-loop-v
invariant-loop-v l = (l.v ≤ words) × Noted (visited l.n l.events l.en) l.class l.initial.cause most (l.v * 64) l.cause l.hits

abbrev pub decreases-loop-v : goal.decreases-loop-v
decreases-loop-v l = words - l.v

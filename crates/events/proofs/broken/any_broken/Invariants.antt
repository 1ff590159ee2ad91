use Prim.Native.Nat.{ℕ, ◌-◌, ◌*◌, ◌≤◌}
use Rattle.rules.specs.State.{words}
use Rattle.events.proofs.Turns.{Left, counted}
use Rattle.events.proofs.Unbroken.{Unbroken}
use Rattle.events.proofs.broken.any_broken.Given as goal

abbrev pub invariant-loop-left : goal.invariant-loop-left
invariant-loop-left l = (i : ℕ) × Left (counted l.n l.equal) l.v i l.left × Unbroken l.n l.equal l.en i

abbrev pub decreases-loop-left : goal.decreases-loop-left
decreases-loop-left l = l.left

abbrev pub invariant-loop-v : goal.invariant-loop-v
invariant-loop-v l = (l.v ≤ words) × Unbroken l.n l.equal l.en (l.v * 64)

abbrev pub decreases-loop-v : goal.decreases-loop-v
decreases-loop-v l = words - l.v

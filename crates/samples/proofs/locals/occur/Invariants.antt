use Prim.Native.Nat.{◌-◌, ◌≤◌}
use Rattle.rules.specs.State.{local_count}
use Rattle.events.specs.Noted.{Noted}
use Rattle.samples.specs.Occurred.{among_bits}
use Rattle.samples.proofs.locals.occur.Given as goal

abbrev pub invariant-loop-j : goal.invariant-loop-j
invariant-loop-j l = (l.j ≤ local_count) × Noted (among_bits l.raised l.en) l.class l.initial.cause local_count l.j l.cause l.hits

abbrev pub decreases-loop-j : goal.decreases-loop-j
decreases-loop-j l = local_count - l.j

use Rattle.calm.specs.Walk.{Walk}
use Rattle.calm.proofs.ticking.Ticking.walk.Given as goal

abbrev pub invariant-loop-i : goal.invariant-loop-i
invariant-loop-i g l = Walk l.initial.self l.i l.self l.output

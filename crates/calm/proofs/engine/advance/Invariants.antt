use Prim.Native.Nat.{◌+◌, ◌≤◌}
use lib.Dec.{ltb}
use lib.ListN.{length}
use Rattle.bits.specs.Bits.{num}
use Rattle.calm_laws.specs.Four.{met, moves_in, changes_in, Running}
use Rattle.calm.proofs.engine.advance.Given as goal

abbrev pub invariant-loop-done : goal.invariant-loop-done
invariant-loop-done g l =
    (l.done ≤ l.n) × Running (met l.signals.events l.signals.interrupts) l.initial.now.classes l.initial.now.senders l.from (length l.initial.changes + changes_in l.initial.now.classes) l.initial.changes l.done l.now.classes l.now.senders l.changes

abbrev pub decreases-loop-done : goal.decreases-loop-done
decreases-loop-done g l = moves_in (met l.signals.events l.signals.interrupts) l.now.classes + num (ltb l.done l.n)

use Rattle.trace_rules.specs.Record.{inputs_of}
use Rattle.batch.specs.Running.{Running}
use Rattle.batch.proofs.run_records.Given as goal

abbrev pub invariant-loop-i : goal.invariant-loop-i
invariant-loop-i l = Running l.initial.g (inputs_of l.edition l.bytes) l.initial.out l.g l.out l.i

use mathlib.Core.Path.{◌≡◌}
use lib.ListN.{take}
use lib.Seq.{sets}
use Rattle.trace_rules.specs.Edition.{newest}
use Rattle.trace_rules.specs.Writer.{records_of}
use Rattle.writer.specs.Lent.{list_of}
use Rattle.writer.proofs.entries.Entries.put_all.Given as goal

abbrev pub invariant-loop-i : goal.invariant-loop-i
invariant-loop-i l = l.out ≡ sets l.initial.out 0 (records_of newest (take l.i (list_of l.self.lists)))

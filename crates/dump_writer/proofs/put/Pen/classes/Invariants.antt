use mathlib.Core.Bool.{true}
use lib.ListN.{get_or}
use Rattle.class_rules.specs.Class.{no_class}
use Rattle.dump_rules.specs.Dump.{class_bits}
use Rattle.dump_rules.proofs.DumpBits.{class_length}
use Rattle.dump_writer.specs.Fields.{shown_class}
use Rattle.dump_writer.specs.Puts.{Puts}
use Rattle.dump_writer.proofs.EntryLaws.{entries_to}
use Rattle.dump_writer.proofs.put.Pen.classes.Given as goal

abbrev pub invariant-loop-k : goal.invariant-loop-k
invariant-loop-k l = Puts (entries_to (λ k. true) (λ k. shown_class (get_or l.classes k no_class)) class_bits 51 class_length l.k) l.fn.self l.self

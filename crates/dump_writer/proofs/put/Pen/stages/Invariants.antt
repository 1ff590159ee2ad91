use Prim.Native.Nat.{◌-◌}
use Rattle.rules.specs.Map.{decode}
use Rattle.rules.specs.Stages.{stage, is_open}
use Rattle.dump_rules.specs.Dump.{stage_bits}
use Rattle.dump_rules.proofs.DumpBits.{stage_length}
use Rattle.dump_writer.specs.Puts.{Puts}
use Rattle.dump_writer.proofs.EntryLaws.{entries_to}
use Rattle.dump_writer.proofs.put.Pen.stages.Given as goal

abbrev pub invariant-loop-r : goal.invariant-loop-r
invariant-loop-r l =
    Puts (entries_to (λ x. is_open l.h.stages (decode l.h.n x)) (λ x. record { register = x; value = stage l.h (decode l.h.n x) - 1 }) stage_bits 48 stage_length l.r) l.fn.self l.self

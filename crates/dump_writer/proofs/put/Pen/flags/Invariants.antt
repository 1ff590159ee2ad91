use Rattle.formats.specs.BitList.{bit_list}
use Rattle.formats.proofs.BitListLaws.{length_bits}
use Rattle.rules.specs.Map.{decode}
use Rattle.dump_map.specs.Kinds.{has_kind}
use Rattle.dump_writer.specs.Fields.{flag_of}
use Rattle.dump_writer.specs.Puts.{Puts}
use Rattle.dump_writer.proofs.EntryLaws.{entries_to}
use Rattle.dump_writer.proofs.put.Pen.flags.Given as goal

abbrev pub invariant-loop-r : goal.invariant-loop-r
invariant-loop-r l = Puts (entries_to (λ x. has_kind l.kind (decode l.h.n x)) (λ x. flag_of l.kind l.h (decode l.h.n x)) (bit_list 1) 1 (length_bits 1) l.r) l.fn.self l.self

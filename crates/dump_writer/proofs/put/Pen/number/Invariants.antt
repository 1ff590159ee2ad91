use lib.ListN.{take}
use Rattle.formats.specs.BitList.{bit_list}
use Rattle.dump_writer.specs.Puts.{Puts}
use Rattle.dump_writer.proofs.put.Pen.number.Given as goal

abbrev pub invariant-loop-i : goal.invariant-loop-i
invariant-loop-i l = Puts (take l.i (bit_list l.w l.x)) l.fn.self l.self

-- `Pen::class` meets its contract.
-- Assumes nothing.
use native.Mathlib.Omega.{arith}
use Rattle.formats.specs.BitList.{bit_list}
use mathlib.Core.List.{◌++◌}
use Rattle.dump_writer.proofs.PutLaws.{number_place, puts_then}
use Rattle.dump_writer.proofs.put.Pen.class.Goals as goal

pub number-requires-2 : goal.number-requires-2
number-requires-2 c =
    let a = number_place 3 c.args.class.state _ _ c.number.ensures in
    (omega arith, omega arith, omega arith)

pub number-requires-3 : goal.number-requires-3
number-requires-3 c =
    let a = number_place 3 c.args.class.state _ _ c.number.ensures in
    let b = number_place 32 c.args.class.count _ _ c.number-2.ensures in
    (omega arith, omega arith, omega arith)

pub returns : goal.returns
returns c =
    let k = c.args.class in
    puts_then (bit_list 3 k.state) (bit_list 32 k.count ++ bit_list 16 k.accum) _ _ _ c.number.ensures
    (puts_then (bit_list 32 k.count) (bit_list 16 k.accum) _ _ _ c.number-2.ensures c.number-3.ensures)

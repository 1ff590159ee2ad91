-- `Pen::number` meets its contract.
-- Assumes nothing.
use native.Mathlib.Omega.{arith}
use Rattle.dump_writer.proofs.PutLaws.{puts_none, put_next, put_all, put_place}
use Rattle.dump_writer.proofs.put.Pen.number.Goals as goal

pub loop-i-init : goal.loop-i-init
loop-i-init c = puts_none _

pub push-requires : goal.push-requires
push-requires c =
    let x = put_place c.args.w c.args.x c.loop-i.i c.args.self.now c.loop-i.self (omega arith) c.loop-i.invariant in
    (omega arith, omega arith)

pub loop-i-preserved : goal.loop-i-preserved
loop-i-preserved c = put_next c.args.w c.args.x c.loop-i.i c.args.self.now c.loop-i.self _ c.loop-i-test.true c.loop-i.invariant c.push.ensures

pub returns : goal.returns
returns c = put_all c.args.w c.args.x c.loop-i.i c.args.self.now c.loop-i.self c.loop-i-test.false c.loop-i.invariant

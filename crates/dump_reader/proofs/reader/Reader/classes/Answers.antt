-- `Reader::classes` meets its contract.
-- Assumes nothing.
use Rattle.dump_rules.specs.Reader.{classes_format}
use Rattle.dump_rules.proofs.LawfulDump.{class_lawful}
use Rattle.dump_reader.proofs.ReadLaws.{turn_failed, turn_on, turns_end}
use Rattle.dump_reader.proofs.reader.Reader.classes.Invariants.{four}
use Rattle.dump_reader.proofs.reader.Reader.classes.Goals as goal

pub returns-in_err-class : goal.returns-in_err-class
returns-in_err-class c =
    let i = c.loop-class.invariant in
    turn_failed four 4 c.loop-class._class tt classes_format c.args.self.now c.loop-class.self i.0 i.1 c.loop-class-test.true _ _ _ c.in_err-class.ensures c.from_residual.ensures.1

pub loop-class-preserved : goal.loop-class-preserved
loop-class-preserved c =
    let i = c.loop-class.invariant in
    let x = turn_on four 4 c.loop-class._class tt classes_format c.args.self.now c.loop-class.self i.0 i.1 class_lawful c.loop-class-test.true _ _ c.in_ok-class.ensures in
    (cc (c.in_ok-class.ensures.bytes), x.1)

pub returns : goal.returns
returns c =
    let i = c.loop-class.invariant in
    turns_end four 4 c.loop-class._class tt classes_format c.args.self.now c.loop-class.self i.0 i.1 c.loop-class-test.false tt

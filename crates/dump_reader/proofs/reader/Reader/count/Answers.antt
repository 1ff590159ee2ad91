-- `Reader::count` meets its contract.
-- Assumes nothing.
use Rattle.class_rules.specs.Class.{state_of, count_fits}
use Rattle.dump_reader.proofs.FieldSteps.{count_at}
use Rattle.dump_reader.proofs.ReadLaws.{number_read, number_failed}
use Rattle.dump_reader.proofs.reader.Reader.count.Goals as goal

pub returns-in_err-step : goal.returns-in_err-step
returns-in_err-step c =
    number_failed 32 (count_fits (state_of c.args.s)) _ _ _
    (count_at _ _ c.args.s _ _ _ _ c.peek-c.ensures.0 c.left-cut.ensures c.count_fits.ensures c.count_fits-2.ensures c.args.self.now.within) _ _ c.in_err-step.ensures c.from_residual.ensures.1

pub returns : goal.returns
returns c =
    number_read 32 (count_fits (state_of c.args.s)) _ _ _
    (count_at _ _ c.args.s _ _ _ _ c.peek-c.ensures.0 c.left-cut.ensures c.count_fits.ensures c.count_fits-2.ensures c.args.self.now.within) _ _ c.peek-c.ensures.0 c.in_ok-step.ensures

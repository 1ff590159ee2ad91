-- `Reader::state` meets its contract.
-- Assumes nothing.
use Rattle.class_rules.specs.Class.{state_fits}
use Rattle.dump_reader.proofs.FieldSteps.{state_at}
use Rattle.dump_reader.proofs.ReadLaws.{number_read, number_failed}
use Rattle.dump_reader.proofs.reader.Reader.state.Goals as goal

pub returns-in_err-step : goal.returns-in_err-step
returns-in_err-step c =
    number_failed 3 state_fits _ _ _ (state_at _ _ _ _ c.peek-s.ensures.0 c.left-cut.ensures c.args.self.now.within) _ _ c.in_err-step.ensures c.from_residual.ensures.1

pub returns : goal.returns
returns c =
    number_read 3 state_fits _ _ _ (state_at _ _ _ _ c.peek-s.ensures.0 c.left-cut.ensures c.args.self.now.within) _ _ c.peek-s.ensures.0 c.in_ok-step.ensures

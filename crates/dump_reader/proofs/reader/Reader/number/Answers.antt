-- `Reader::number` meets its contract.
-- Assumes nothing.
use Rattle.dump_reader.proofs.FieldSteps.{most_fine}
use Rattle.dump_reader.proofs.ReadLaws.{number_read, number_failed}
use Rattle.dump_reader.proofs.reader.Reader.number.Goals as goal

pub returns-in_err-step : goal.returns-in_err-step
returns-in_err-step c = λ ok h.
    number_failed c.args.w ok _ _ _ (most_fine _ _ c.args.w c.args.m _ ok h c.peek-v.ensures.0 c.args.self.now.within) _ _ c.in_err-step.ensures c.from_residual.ensures.1

pub returns : goal.returns
returns c = λ ok h.
    number_read c.args.w ok _ _ _ (most_fine _ _ c.args.w c.args.m _ ok h c.peek-v.ensures.0 c.args.self.now.within) _ _ c.peek-v.ensures.0 c.in_ok-step.ensures

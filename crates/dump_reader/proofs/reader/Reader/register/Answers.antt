-- `Reader::register` meets its contract.
-- Assumes nothing.
use Rattle.dump_rules.specs.Reader.{stage_at}
use Rattle.dump_reader.proofs.ReadLaws.{number_read, number_failed}
use Rattle.dump_reader.proofs.StageLaws.{register_fine}
use Rattle.dump_reader.proofs.reader.Reader.register.Goals as goal

pub returns-in_err-step : goal.returns-in_err-step
returns-in_err-step c =
    let p = c.args.self.now in
    let a = c.args.left in
    number_failed 16 (stage_at a.n a.from c.args.k) _ _ _
    (register_fine p.bytes.now p.at a.n a.from c.args.k _ _ _ _ p.within c.peek-r.ensures.0 c.left.ensures c.span_of-span.ensures.0 c.is_left.ensures) _ _ c.in_err-step.ensures c.from_residual.ensures.1

pub returns : goal.returns
returns c =
    let p = c.args.self.now in
    let a = c.args.left in
    number_read 16 (stage_at a.n a.from c.args.k) _ _ _
    (register_fine p.bytes.now p.at a.n a.from c.args.k _ _ _ _ p.within c.peek-r.ensures.0 c.left.ensures c.span_of-span.ensures.0 c.is_left.ensures) _ _ c.peek-r.ensures.0 c.in_ok-step.ensures

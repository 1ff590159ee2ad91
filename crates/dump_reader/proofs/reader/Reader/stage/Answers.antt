-- `Reader::stage` meets its contract.
-- Assumes nothing.
use Rattle.formats.specs.Format.{field, pair}
use Rattle.dump_rules.specs.Reader.{stage_at, stage_from, stage_to, stage_format, value_format}
use Rattle.dump_reader.proofs.ReadLaws.{typed, failed, then_failed, then_number, answers, answers_none}
use Rattle.dump_reader.proofs.reader.Reader.stage.Goals as goal

pub returns-in_err-r : goal.returns-in_err-r
returns-in_err-r c =
    let a = c.args.left in
    let f = field 16 (stage_at a.n a.from c.args.k) in
    answers_none (stage_format a.n a.from c.args.k) 16 _ _ _ _ c.from_residual.ensures.1
    (typed stage_from stage_to (pair f (value_format a.n)) _ _ _ (then_failed f (value_format a.n) _ _ _ _ c.in_err-r.ensures.reads c.from_residual.ensures.1))

pub returns-in_err-value : goal.returns-in_err-value
returns-in_err-value c =
    let a = c.args.left in
    let f = field 16 (stage_at a.n a.from c.args.k) in
    answers_none (stage_format a.n a.from c.args.k) 16 _ _ _ _ c.from_residual-in_err-value.ensures.1
    (typed stage_from stage_to (pair f (value_format a.n)) _ _ _
    (then_number 16 (stage_at a.n a.from c.args.k) (value_format a.n) _ _ _ _ _ c.in_ok-r.ensures (failed (value_format a.n c.in_ok-r.r) _ _ _ _ c.in_err-value.ensures.reads c.from_residual-in_err-value.ensures.1)))

pub returns : goal.returns
returns c =
    let a = c.args.left in
    let f = field 16 (stage_at a.n a.from c.args.k) in
    answers (stage_format a.n a.from c.args.k) 16 _ _ _ _ c.in_ok-r.ensures.value
    (typed stage_from stage_to (pair f (value_format a.n)) _ _ _ (then_number 16 (stage_at a.n a.from c.args.k) (value_format a.n) _ _ _ _ _ c.in_ok-r.ensures c.in_ok-value.ensures.reads))

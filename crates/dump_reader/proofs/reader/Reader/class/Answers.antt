-- `Reader::class` meets its contract.
-- Assumes nothing.
use Rattle.class_rules.specs.Class.{state_of, state_fits, count_fits}
use Rattle.formats.specs.Format.{field, pair}
use Rattle.dump_rules.specs.Reader.{any_number, count_format, class_from, class_to}
use Rattle.dump_reader.proofs.ReadLaws.{typed, then_failed, then_number}
use Rattle.dump_reader.proofs.reader.Reader.class.Goals as goal

pub returns-in_err-s : goal.returns-in_err-s
returns-in_err-s c =
    typed class_from class_to (pair (field 3 state_fits) count_format) _ _ _
    (then_failed (field 3 state_fits) count_format _ _ _ _ c.in_err-s.ensures.reads c.from_residual.ensures.1)

pub returns-in_err-count : goal.returns-in_err-count
returns-in_err-count c =
    typed class_from class_to (pair (field 3 state_fits) count_format) _ _ _
    (then_number 3 state_fits count_format _ _ _ _ _ c.in_ok-s.ensures
    (then_failed (field 32 (count_fits (state_of _))) (λ x. field 16 any_number) _ _ _ _ c.in_err-count.ensures.reads c.from_residual-in_err-count.ensures.1))

pub returns : goal.returns
returns c =
    typed class_from class_to (pair (field 3 state_fits) count_format) _ _ _
    (then_number 3 state_fits count_format _ _ _ _ _ c.in_ok-s.ensures
    (then_number 32 (count_fits (state_of _)) (λ x. field 16 any_number) _ _ _ _ _ c.in_ok-count.ensures c.any.ensures))

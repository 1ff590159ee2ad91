-- `Reader::any` meets its contract.
-- Assumes nothing.
use mathlib.Core.Bool.{true}
use Rattle.dump_rules.specs.Reader.{any_number}
use Rattle.dump_reader.proofs.FieldSteps.{any_fine}
use Rattle.dump_reader.proofs.ReadLaws.{field_read}
use Rattle.dump_reader.proofs.reader.Reader.any.Goals as goal

pub returns : goal.returns
returns c = field_read c.args.w any_number true _ _ (any_fine _ _ c.args.w c.args.self.now.within) _ c.step.ensures

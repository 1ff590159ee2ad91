-- `read::read_dump` meets its contract.
-- Assumes nothing.
use mathlib.Core.Path.{◌∙◌}
use Rattle.dump_content.proofs.ReadLaws.{a_dump, none_read}
use Rattle.dump_content.proofs.read.read_dump.Goals as goal

pub content_of-requires : goal.content_of-requires
content_of-requires c = a_dump _ c.in-Ok.ensures

pub returns-in-Err : goal.returns-in-Err
returns-in-Err c = c.nothing.ensures ∙ none_read _ _ c.in-Err.ensures

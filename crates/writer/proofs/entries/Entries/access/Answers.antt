-- `Entries::access` meets its contract.
-- Assumes nothing.
use mathlib.Core.Path.{ap, ◌∙◌}
use Rattle.writer.specs.Lent.{input_at}
use Rattle.writer.specs.declared.entries.Entries.{Entries}
use Rattle.writer.proofs.entries.Entries.access.Goals as goal

pub returns : goal.returns
returns c = c.access_of.ensures ∙ ap (λ (e : Entries). (input_at e.lists c.args.i).access) c.self.view_is

-- `list::put_entry` meets its contract.
-- Assumes nothing.
use mathlib.Core.Path.{◌∙◌}
use Rattle.register_file.proofs.Stores.{set_put}
use borrow.Author.Rules.{rules}
use Rattle.register_file.proofs.list.put_entry.Goals as goal

pub returns : goal.returns
returns g c = λ d. c.set_entry.ensures ∙ set_put g.row.N c.args.xs.now d c.args.i c.args.w (search rules)

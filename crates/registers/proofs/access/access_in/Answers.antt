-- `access::access_in` meets its contract: no access leaves the state as it is.
-- Assumes nothing.
use mathlib.Core.Path.{sym, ap, ◌∙◌}
use Rattle.rules.specs.Access.{accessed}
use Rattle.registers.proofs.Accesses.{nothing_done}
use Rattle.registers.proofs.access.access_in.Goals as goal

pub returns-in-Nothing : goal.returns-in-Nothing
returns-in-Nothing c = nothing_done c.args.h.now ∙ ap (accessed c.args.h.now) (sym c.in-Nothing.is)

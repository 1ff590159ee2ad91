-- `given_output` meets its contract.
-- Assumes nothing.
use mathlib.Core.Path.{◌∙◌}
use Rattle.calm.proofs.Walking.{given_by}
use Rattle.calm.proofs.ticking.given_output.Goals as goal

pub returns : goal.returns
returns c = given_by _ _ _ _ c.no_output.ensures (c.from.ensures ∙ c.interrupts_on.ensures) (c.from-2.ensures ∙ c.lines_on.ensures)

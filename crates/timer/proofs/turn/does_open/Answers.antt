-- `turn::does_open` meets its contract.
-- Assumes nothing.
use Rattle.link_rules.specs.Timer.{opens}
use Rattle.timer.proofs.turn.does_open.Goals as goal

pub returns : goal.returns
unfolding opens
returns c = simp (c.is_due.ensures, c.is_line.ensures)

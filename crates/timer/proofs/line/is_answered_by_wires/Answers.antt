-- `line::is_answered_by_wires` meets its contract.
-- Assumes nothing.
use Rattle.link_rules.specs.LinePing.{answered_by_wires}
use Rattle.timer.proofs.line.is_answered_by_wires.Goals as goal

pub returns : goal.returns
unfolding answered_by_wires
returns c = simp (c.is_open.ensures, c.was_right.ensures, c.age_of-age.ensures)

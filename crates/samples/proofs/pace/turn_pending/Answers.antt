-- `pace::turn_pending` meets its contract.
-- Assumes nothing.
use Rattle.samples.proofs.pace.turn_pending.Goals as goal

pub returns-then-is_line : goal.returns-then-is_line
returns-then-is_line c = simp (← c.is_line.ensures, c.if-is_line.true, c.is_line_set.ensures, c.line_of.ensures.0)

pub returns-else-is_line : goal.returns-else-is_line
returns-else-is_line c = simp (← c.is_line.ensures, c.if-is_line.false, c.is_at.ensures)

-- `pace::is_line_answered` meets its contract.
-- Assumes nothing.
use Rattle.samples.proofs.pace.is_line_answered.Goals as goal

pub returns-then-is_checked : goal.returns-then-is_checked
returns-then-is_checked c =
    let b = c in
    simp (← b.is_checked.ensures, c.if-is_checked.true, c.is_answered_by_wires.ensures, c.is_line_set.ensures, b.line_of-e.ensures.0)

pub returns-else-is_checked : goal.returns-else-is_checked
returns-else-is_checked c =
    let b = c in
    simp (← b.is_checked.ensures, c.if-is_checked.false, c.is_open.ensures, c.is_line_set-else-is_checked.ensures, c.said_answered.ensures, b.line_of-e.ensures.0)

-- `class_after` is steps 3 and 4 of class k, by what it meets.
-- Assumes nothing.
use Rattle.handler.proofs.classes.class_after.Goals as goal

pub returns : goal.returns
returns c = simp (c.step.ensures, c.meet.ensures)

-- `meet` is what class k meets, by its bit of each mask.
-- Assumes nothing.
use Rattle.handler.specs.Classes.{met_by}
use Rattle.handler.proofs.classes.meet.Goals as goal

pub returns : goal.returns
unfolding met_by
returns c = simp (c.is_set-2.ensures, c.interrupt.ensures, c.event.ensures, c.is_set.ensures)

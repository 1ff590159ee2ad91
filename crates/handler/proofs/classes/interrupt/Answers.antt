-- `interrupt` is the interrupt bit or the event of class k.
-- Assumes nothing.
use Rattle.handler.specs.Classes.{interrupt_by}
use Rattle.handler.proofs.classes.interrupt.Goals as goal

pub returns : goal.returns
unfolding interrupt_by
returns c = simp (c.event.ensures, c.is_set-2.ensures, c.is_set.ensures)

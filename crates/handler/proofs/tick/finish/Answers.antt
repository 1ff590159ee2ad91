-- `finish` is steps 2 to 5: the facts that its calls ensure, put together.
-- Assumes nothing.
use Rattle.handler.proofs.WholeTick.{finish_by}
use Rattle.handler.proofs.tick.finish.Goals as goal

pub returns : goal.returns
returns c =
    finish_by _ _ _ _ _ _ _ _ _ _
    c.hear-heard.ensures
    c.sample-assigned.ensures
    c.interrupts_after-interrupts.ensures
    c.classes_after-classes.ensures
    c.interrupts_on.ensures
    c.lines_on-lines.ensures
    c.link-next.ensures

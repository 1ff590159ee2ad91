-- `quiet::moved_by` meets its contract: the facts that its calls ensure, put together.
-- Assumes nothing.
use Rattle.handler.proofs.quiet.moved_by.Goals as goal

pub returns : goal.returns
returns c =
    rw (c.lines_on.ensures, c.interrupts_on.ensures, c.classes_after-classes.ensures, c.interrupts_after-state.ensures)

-- `is_still` is Terminal, or Idle and not due.
-- Assumes nothing.
use Rattle.class.proofs.still.is_still.Goals as goal

pub returns : goal.returns
returns c = simp c.due.ensures

-- `shown::classes_at` meets its contract.
-- Assumes nothing.
use Rattle.bits.specs.Index.{each_from}
use Rattle.dump_content.proofs.shown.classes_at.Goals as goal

pub returns : goal.returns
unfolding each_from
returns c = simp (c.class_at.ensures, c.class_at-2.ensures, c.class_at-3.ensures, c.class_at-4.ensures)

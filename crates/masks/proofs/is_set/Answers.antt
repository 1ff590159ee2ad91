-- `is_set` reads bit k of CTRL.
-- Assumes nothing.
use borrow.Author.Rules.{rules}
use Rattle.bits.specs.Bits.{bit}
use Rattle.masks.proofs.is_set.Goals as goal

pub returns : goal.returns
unfolding bit
returns c = search rules

-- `locals::does_occur` meets its contract.
-- Assumes nothing.
use Rattle.bits.specs.Bits.{bit}
use borrow.Author.Rules.{rules}
use Rattle.samples.proofs.locals.does_occur.Goals as goal

pub returns : goal.returns
unfolding bit
returns c = search rules

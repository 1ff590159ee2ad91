-- `pace::is_line_set` meets its contract.
-- Assumes nothing.
use Rattle.bits.specs.Bits.{bit}
use borrow.Author.Rules.{rules}
use Rattle.samples.proofs.pace.is_line_set.Goals as goal

pub returns : goal.returns
unfolding bit
returns c = search rules

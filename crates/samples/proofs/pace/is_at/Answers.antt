-- `pace::is_at` meets its contract.
-- Assumes nothing.
use Rattle.bits.specs.Bits.{bit}
use borrow.Author.Rules.{rules}
use Rattle.samples.proofs.pace.is_at.Goals as goal

pub returns : goal.returns
unfolding bit
returns c = search rules

-- `pings::line_owns` meets its contract.
-- Assumes nothing.
use Rattle.bits.specs.Bits.{bit}
use borrow.Author.Rules.{rules}
use Rattle.state.proofs.pings.line_owns.Goals as goal

pub returns : goal.returns
unfolding bit
returns c = search rules

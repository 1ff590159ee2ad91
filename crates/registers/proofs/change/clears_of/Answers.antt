-- `change::clears_of` meets its contract: only CLR clears, only its own class, and only by a 1.
-- Assumes nothing.
use Rattle.registers.proofs.Accesses.{no_clears}
use Rattle.registers.proofs.change.clears_of.Goals as goal

pub returns-in_default : goal.returns-in_default
returns-in_default c = no_clears c.args.q c.args.v c.in_default.not-Block

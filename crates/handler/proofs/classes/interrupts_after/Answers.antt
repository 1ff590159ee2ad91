-- `interrupts_after` has at bit k the interrupt bit of class k.
-- Assumes nothing.
use Rattle.bits.specs.Bits.{bits_of}
use Rattle.handler.specs.Classes.{interrupts_by}
use borrow.Author.Rules.{rules}
use Rattle.handler.proofs.classes.interrupts_after.Goals as goal

pub returns : goal.returns
unfolding interrupts_by bits_of
returns c = search rules

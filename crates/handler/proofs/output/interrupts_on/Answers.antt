-- `interrupts_on` is INTR_STATE and INTR_ENABLE, bit by bit.
-- Assumes nothing.
use Rattle.laws.specs.OutputMasks.{interrupts_on}
use Rattle.handler.proofs.ClassMasks.{and_four}
use Rattle.handler.proofs.output.interrupts_on.Goals as goal

pub returns : goal.returns
unfolding interrupts_on
returns c = and_four _ _

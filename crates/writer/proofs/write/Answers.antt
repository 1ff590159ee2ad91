-- `write` meets its contract: both ways between lists and bytes follow from what was written.
-- Assumes nothing.
use Rattle.writer.proofs.Back.{read_back, written_back}
use Rattle.writer.proofs.write.Goals as goal

pub returns-in-Ok-clause-readback : goal.returns-in-Ok-clause-readback
returns-in-Ok-clause-readback c =
    read_back _ _ _ _ c.in-Ok.ensures.1 (λ i. (c.type_inv.positive i).fits) (λ i. (c.type_inv.negative i).fits) (λ i. (c.type_inv.entropy i).fits)

pub returns-in-Ok-clause-writtenback : goal.returns-in-Ok-clause-writtenback
returns-in-Ok-clause-writtenback c = written_back _ _ _ _ c.in-Ok.ensures.1

pub returns-in-Err-clause-readback : goal.returns-in-Err-clause-readback
returns-in-Err-clause-readback c =
    read_back _ _ _ _ c.in-Err.ensures (λ i. (c.type_inv.positive i).fits) (λ i. (c.type_inv.negative i).fits) (λ i. (c.type_inv.entropy i).fits)

pub returns-in-Err-clause-writtenback : goal.returns-in-Err-clause-writtenback
returns-in-Err-clause-writtenback c = written_back _ _ _ _ c.in-Err.ensures

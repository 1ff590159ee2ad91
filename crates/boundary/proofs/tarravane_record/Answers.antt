-- `tarravane_record` meets its contract: it is that of `write`, on the lists that are handed in.
-- Assumes nothing.
use Rattle.boundary.proofs.tarravane_record.Goals as goal

pub returns-clause-readback : goal.returns-clause-readback
returns-clause-readback c = c.write.ensures.readback

pub returns-clause-writtenback : goal.returns-clause-writtenback
returns-clause-writtenback c = c.write.ensures.writtenback

-- `tarravane_batch_70` meets its contract: it is that of boundary's function.
-- Assumes nothing.
use Rattle.boundary_c.proofs.tarravane_batch_70.Goals as goal

pub returns-clause-batched_by : goal.returns-clause-batched_by
returns-clause-batched_by c = c.tarravane_batch_70.ensures.batched_by

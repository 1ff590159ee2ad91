-- `tarravane_batch_wires` meets its contract: it is that of `batch`, on the state that is handed in.
-- Assumes nothing.
use Rattle.boundary.proofs.tarravane_batch_wires.Goals as goal

pub returns : goal.returns
returns c = c.batch.ensures

-- `tarravane_tick` is the tick with the input that its arguments name.
-- Assumes nothing.
use Rattle.boundary.proofs.tarravane_tick.Goals as goal

pub returns : goal.returns
returns c = rw (← c.input_by.ensures) c.tick.ensures

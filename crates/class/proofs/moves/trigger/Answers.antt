-- `moves::trigger` meets its contract: ACCUM_CNT as it stands before counting.
-- Assumes nothing.
use mathlib.Core.Path.{refl}
use Rattle.class.proofs.moves.trigger.Goals as goal

pub returns : goal.returns
returns c = refl

-- `stages::class_fits` meets its contract.
-- Assumes nothing.
use Rattle.rules.specs.Valid.{class_stages_fit}
use Rattle.state.proofs.stages.class_fits.Goals as goal

pub returns : goal.returns
unfolding class_stages_fit
returns c = rw c.lengths_fit.ensures

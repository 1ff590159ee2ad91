-- `stages::fit` meets its contract.
-- Assumes nothing.
use mathlib.Core.Path.{ap, ap₂}
use mathlib.Core.Bool.{Bool, ◌&&◌}
use lib.Dec.{leb}
use Rattle.rules.specs.Valid.{stages_fit}
use Rattle.state.proofs.stages.fit.Goals as goal

pub returns : goal.returns
unfolding stages_fit
returns c =
    let s = c.args.s in
    ap₂ ◌&&◌ c.locals_fit.ensures
    (ap₂ ◌&&◌ c.alerts_fit.ensures (ap (λ (b : Bool). b && leb s.timeout 65536) c.classes_fit.ensures))

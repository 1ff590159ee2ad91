-- `tarravane_install` is the boot of the lifecycle that its number names.
-- Assumes nothing.
use mathlib.Core.Path.{ap, ◌∙◌}
use Rattle.policy.specs.Plan.{boot}
use Rattle.policy.specs.declared.Lifecycle.{Lifecycle}
use Rattle.boundary.proofs.tarravane_install.Goals as goal

pub returns : goal.returns
returns c = c.boot.ensures ∙ ap (λ (l : Lifecycle). boot l c.args.h) c.lifecycle_of.ensures

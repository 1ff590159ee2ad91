-- `install` gives each part of what `tarravane_install` promises.
-- Assumes nothing.
use mathlib.Core.Path.{ap, ap}
use Rattle.policy.specs.declared.Installed.{Installed}
use Rattle.everything.specs.Calling.{of_install}
use Rattle.everything.proofs.Said.{as_said}
use Rattle.surface.proofs.install.Goals as goal

pub returns : goal.returns
returns c =
    let e = c.tarravane_install.ensures in
    record {
      said = as_said _ _ _ (ap of_install e);
      handler_value = ap (λ (x : Installed). x.handler) e;
      answer = ap (λ (x : Installed). x.answer) e;
      register = ap (λ (x : Installed). x.register) e;
    }

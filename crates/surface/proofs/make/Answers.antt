-- `make` gives each part of what `tarravane_new` promises.
-- Assumes nothing.
use mathlib.Core.Path.{ap, ap}
use Rattle.rules.specs.declared.Made.{Made}
use Rattle.everything.specs.Calling.{of_new}
use Rattle.everything.proofs.Said.{as_said}
use Rattle.surface.proofs.make.Goals as goal

pub returns : goal.returns
returns c =
    let e = c.tarravane_new.ensures in record { said = λ h. as_said h _ _ (ap of_new e); handler_value = ap (λ (m : Made). m.handler) e; answer = ap (λ (m : Made). m.answer) e }

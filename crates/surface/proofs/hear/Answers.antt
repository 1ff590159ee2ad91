-- `hear` gives each part of what `tarravane_hear` promises.
-- Assumes nothing.
use Rattle.surface.proofs.HearParts.{hear_parts}
use mathlib.Core.Path.{ap}
use Rattle.everything.specs.Calling.{of_hear}
use Rattle.everything.proofs.Said.{as_said}
use Rattle.surface.proofs.hear.Goals as goal

pub returns : goal.returns
returns c =
    let e = hear_parts _ _ _ c.tarravane_hear.ensures in
    record {
      said = as_said _ _ _ (ap of_hear c.tarravane_hear.ensures);
      events_value = e.0;
      answers = e.1.0;
      locals = e.1.1.0;
      answer = e.1.1.1;
    }

-- `tick` gives each part of what `tarravane_tick` promises.
-- Assumes nothing.
use Rattle.surface.proofs.TickParts.{tick_parts}
use mathlib.Core.Path.{ap}
use Rattle.everything.specs.Calling.{of_tick}
use Rattle.everything.proofs.Said.{as_said}
use Rattle.surface.proofs.tick.Goals as goal

pub returns : goal.returns
returns c =
    let e = tick_parts _ _ c.tarravane_tick.ensures in
    record {
      said = as_said _ _ _ (ap of_tick c.tarravane_tick.ensures);
      handler_value = e.0;
      answer = e.1.0;
      outputs = e.1.1;
    }

-- `calm` gives each part of what `tarravane_calm` promises.
-- Assumes nothing.
use Rattle.surface.proofs.CalmParts.{calm_parts}
use Rattle.everything.proofs.Said.{calm_said}
use Rattle.surface.proofs.calm.Goals as goal

pub returns : goal.returns
returns c =
    let e = calm_parts _ _ _ _ _ _ c.tarravane_calm.ensures in
    record {
      said = calm_said _ _ _ _ _ _ c.tarravane_calm.ensures;
      handler_value = e.0;
      answer = e.1.0;
      outputs = e.1.1.0;
      words = e.1.1.1.0;
      later = e.1.1.1.1.0;
      demand3 = e.1.1.1.1.1;
    }

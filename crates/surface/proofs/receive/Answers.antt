-- `receive` gives each part of what `tarravane_receive` promises.
-- Assumes nothing.
use mathlib.Core.Path.{ap, ap}
use Rattle.link_rules.specs.declared.Listened.{Listened}
use Rattle.everything.specs.Calling.{of_receive}
use Rattle.everything.proofs.Said.{as_said}
use Rattle.surface.proofs.receive.Goals as goal

pub returns : goal.returns
returns c =
    let e = c.tarravane_receive.ensures in
    record {
      said = λ h. as_said h _ _ (ap of_receive e);
      receivers_value = ap (λ (x : Listened). x.receivers) e;
      positive = ap (λ (x : Listened). x.positive) e;
      negative = ap (λ (x : Listened). x.negative) e;
      seen = ap (λ (x : Listened). x.seen) e;
    }

-- `read_dump` gives each part of what `tarravane_read_dump` promises.
-- Assumes nothing.
use mathlib.Core.Path.{ap, ap}
use Rattle.dump_rules.specs.declared.Content.{Content}
use Rattle.everything.specs.Calling.{of_read}
use Rattle.everything.proofs.Said.{as_said}
use Rattle.surface.proofs.read_dump.Goals as goal

pub returns : goal.returns
returns c =
    let e = c.tarravane_read_dump.ensures in
    record {
      said = λ h. as_said h _ _ (ap of_read e);
      answer_value = ap (λ (x : Content). x.answer) e;
      alerts = ap (λ (x : Content). x.n) e;
      classes = ap (λ (x : Content). x.classes) e;
      stages = ap (λ (x : Content). x.stages) e;
      causes = ap (λ (x : Content). x.causes) e;
      locked = ap (λ (x : Content). x.locked) e;
    }

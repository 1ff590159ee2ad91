-- `batch_pings` gives each part of what `tarravane_batch_pings` promises.
-- Assumes nothing.
use Rattle.trace_rules.specs.declared.Edition.{Edition}
use Rattle.surface.proofs.BatchParts.{state_part, answer_part, words_part, later_part}
use Rattle.everything.proofs.Said.{batch_said}
use Rattle.surface.proofs.batch_pings.Goals as goal

pub returns : goal.returns
returns c =
    let e = c.tarravane_batch_pings.ensures in
    record {
      said = batch_said Edition.Pings _ _ _ _ _ e.batched_by;
      handler_value = state_part Edition.Pings _ _ _ _ _ e.batched_by;
      answer = answer_part Edition.Pings _ _ _ _ _ e.batched_by;
      words = words_part Edition.Pings _ _ _ _ _ e.batched_by;
      later = later_part Edition.Pings _ _ _ _ _ e.batched_by;
      demand3 = e.demand3;
    }

-- The arrays of the state have the lengths that their types say: 248 alerts, 7 local alerts, 4 classes, 4 phases. This is no sentence of document 01:
-- a proof sees an array as a list, which could have any length, and the program's arrays have these.
-- Assumes nothing.
use Rattle.std.specs.Prelude.{ℕ, ◌<◌, ◌≡◌, length}
use Rattle.rules.specs.declared.Field.{Field}
use Rattle.rules.specs.declared.Handler.{Handler}
use Rattle.sentences.specs.Raw.{class_of, stages_of, local_list, alert_list}

pub record Sized (h : Handler) : Type 0 where
  pub alerts : (f : Field) → length (alert_list h f) ≡ 248
  pub locals : (f : Field) → length (local_list h f) ≡ 7
  pub classes : length h.classes ≡ 4
  pub lengths : (k : ℕ) → k < 4 → length (class_of h k).lengths ≡ 4
  pub alert_en : length h.stages.alerts.en ≡ 248
  pub alert_class : length h.stages.alerts.class ≡ 248
  pub local_en : length h.stages.locals.en ≡ 7
  pub local_class : length h.stages.locals.class ≡ 7
  pub stages : length h.stages.classes ≡ 4
  pub stage_lengths : (k : ℕ) → k < 4 → length (stages_of h k).lengths ≡ 4

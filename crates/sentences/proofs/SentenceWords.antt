-- The words of the sentences and the tests of the rules.
-- Assumes nothing.
use mathlib.Core.Path.{◌≡◌}
use mathlib.Core.Logic.Iff
use mathlib.Core.Logic.{◌↔◌}
use mathlib.Core.Bool.{true, not}
use lib.Dec.{leb, ltb}
use Rattle.class_rules.proofs.ClassLaws.{enabled_is}
use Rattle.class_rules.specs.Class.{enabled}
use Rattle.class_rules.specs.Step.{class_event, trigger, due}
use Rattle.class_rules.specs.declared.Class.{Class}
use Rattle.class_rules.specs.declared.Signals.{Signals}
use Rattle.sentences.specs.ClassStep.{Trigger, Due, ClassEvent}
use Rattle.sentences.proofs.SentenceCases.{le_is, lt_is, not_is, and_is, and3_is}

pub trigger_is : (s : Signals) (c : Class) → (trigger s c ≡ true) ↔ Trigger s c
trigger_is s c = and3_is s.event (not s.clear) (leb c.thresh c.accum) Iff.rfl (not_is s.clear) (le_is c.thresh c.accum)

pub due_is : (s : Signals) (c : Class) → (due s c ≡ true) ↔ Due s c
due_is s c = and3_is (enabled c) s.interrupt (ltb 0 c.timeout) (enabled_is c) Iff.rfl (lt_is 0 c.timeout)

-- "Class k has an event if .. is assigned to it and EN is 1"
pub holds_event : ClassEvent class_event
holds_event t c = and_is t (enabled c) Iff.rfl (enabled_is c)

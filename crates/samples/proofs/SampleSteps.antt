-- The parts of step 2 put together, once it is heard: alerts, local alerts, classes.
-- Assumes nothing.
use Prim.Native.Nat.{ℕ, ◌<◌}
use mathlib.Core.Path.{◌≡◌, refl, sym, ap, ap₂, ◌∙◌}
use mathlib.Core.Bool.{Bool, ◌&&◌, and_self_left}
use mathlib.Core.List.{List}
use lib.Bits.{bit_or}
use lib.Dec.{eqb, ltb}
use borrow.Author.Tests.{lt-ltb}
use Rattle.bits.specs.Index.{each, any_to, place_in}
use Rattle.bits.proofs.IndexLaws.{each_ext}
use Rattle.bits.proofs.WordLaws.{or_bits_of}
use Rattle.rules.specs.State.{most, local_count, local, alert, with_locals, with_alerts, with_local_column, with_alert_column}
use Rattle.rules.specs.Samples.{alert_enabled, alert_event, occurs, marked, sampled, assigned}
use Rattle.rules.specs.declared.Field.{Field}
use Rattle.rules.specs.declared.Handler.{Handler}
use Rattle.rules.specs.declared.Heard.{Heard}
use Rattle.events.specs.Noted.{Noted, enabled_in}
use Rattle.events.specs.Gathered.{GatheredAll, among_words}
use Rattle.samples.specs.Occurred.{OccurredAll, among_bits}
use Rattle.samples.specs.Sampled.{SampledBy}
use Rattle.events.specs.declared.gather.Gathered.{Gathered}
use Rattle.samples.specs.declared.locals.Occurred.{Occurred}
use Rattle.events.proofs.Notes.{noted_by}

-- the handler with these causes
abbrev holding : Handler → List ℕ → List ℕ → Handler
holding g cause local_cause =
    with_alerts (with_alert_column Field.Cause cause g.alerts) (with_locals (with_local_column Field.Cause local_cause g.locals) g)

module _ (g : Handler) (v : Heard) (m : Gathered) (o : Occurred)
    (gathered : GatheredAll g.n v.events g.alerts.en g.alerts.class g.alerts.cause m)
    (occurred : OccurredAll v.raises g.locals.en g.locals.class g.locals.cause o) where
  -- the enabled alerts with an event are those of the rules
  events : (i : ℕ) → i < g.n → among_words v.events g.alerts.en i ≡ alert_event g v i
  unfolding alert_event
  events i h = ap (λ (t : Bool). t && (place_in v.events i && enabled_in g.alerts.en i)) (sym (lt-ltb i g.n h))

  -- and so are the local alerts that occur
  locals : (j : ℕ) → j < local_count → among_bits v.raises g.locals.en j ≡ occurs g v j
  unfolding occurs
  locals j h = refl

  -- so the loops noted the events of the rules
  alerts_noted : Noted (alert_event g v) g.alerts.class g.alerts.cause most g.n m.cause m.hits
  alerts_noted = noted_by (among_words v.events g.alerts.en) (alert_event g v) g.alerts.class g.alerts.cause most g.n m.cause m.hits events gathered

  locals_noted : Noted (occurs g v) g.locals.class g.locals.cause local_count local_count o.cause o.hits
  locals_noted = noted_by (among_bits v.raises g.locals.en) (occurs g v) g.locals.class g.locals.cause local_count local_count o.cause o.hits locals occurred

  -- an event sets its cause
  alerts_cause : m.cause ≡ each most (λ i. marked (alert_event g v i) (alert g Field.Cause i))
  unfolding alert_event
  alerts_cause =
      alerts_noted.causes
      ∙ each_ext most (λ i. marked (ltb i g.n && alert_event g v i) (alert g Field.Cause i)) (λ i. marked (alert_event g v i) (alert g Field.Cause i)) 0
      (λ i h. ap (λ (t : Bool). marked t (alert g Field.Cause i)) (and_self_left (ltb i g.n) (place_in v.events i && alert_enabled g i)))

  locals_cause : o.cause ≡ each local_count (λ j. marked (occurs g v j) (local g Field.Cause j))
  locals_cause =
      locals_noted.causes
      ∙ each_ext local_count (λ j. marked (ltb j local_count && occurs g v j) (local g Field.Cause j)) (λ j. marked (occurs g v j) (local g Field.Cause j)) 0
      (λ j h. ap (λ (t : Bool). marked (t && occurs g v j) (local g Field.Cause j)) (lt-ltb j local_count h))

  -- the state after step 2, and the classes that something is assigned to
  pub sampled_by : SampledBy g v (record { handler = holding g m.cause o.cause; assigned = bit_or m.hits o.hits })
  unfolding sampled assigned
  sampled_by =
      record {
        handler = λ t. holding g (alerts_cause t) (locals_cause t);
        assigns =
            ap₂ bit_or alerts_noted.classes locals_noted.classes
            ∙ or_bits_of 4 (λ k. any_to (λ i. alert_event g v i && eqb (alert g Field.Class i) k) g.n)
            (λ k. any_to (λ j. occurs g v j && eqb (local g Field.Class j) k) local_count);
      }

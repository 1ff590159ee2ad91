-- Step 2 where no alert has an event or equal wires, no ping fails, no receive pair is wrong and step 1 raises nothing: the links move, and nothing else.
-- Assumes nothing.
use Prim.Native.Nat.{ℕ, ◌≤◌, ◌<◌}
use mathlib.Core.Path.{◌≡◌, refl, sym, ap, ◌∙◌}
use mathlib.Core.Bool.{Bool, true, false, true≢false, not, ◌&&◌}
use native.Mathlib.Omega.{arith}
use lib.Dec.{ltb}
use lib.ListN.{length}
use Rattle.bits.specs.Index.{each, any_to}
use Rattle.bits.proofs.BitLaws.{bit_none, is_bits_of}
use Rattle.bits.proofs.IndexLaws.{is_each}
use Rattle.link_rules.specs.Pair.{equal}
use Rattle.link_rules.specs.Senders.{line_count}
use Rattle.link_rules.specs.Timer.{is_line, fails}
use Rattle.rules.specs.State.{most, local_count, local, alert, with_locals, with_alerts, with_local_column, with_alert_column}
use Rattle.rules.specs.Samples.{positive, negative, alert_enabled, happened, answered, receiver_after, alert_broken, pingable, timed, receiver_timed, line_wrong, heard, alert_event, occurs, marked, sampled, assigned}
use Rattle.rules.specs.declared.Effects.{Effects}
use Rattle.rules.specs.declared.Field.{Field}
use Rattle.rules.specs.declared.Handler.{Handler}
use Rattle.rules.specs.declared.Heard.{Heard}
use Rattle.rules.specs.declared.Sample.{Sample}
use Rattle.laws.specs.Quiet.{Silent}
use Rattle.laws.proofs.Samples.Heard.{unheard}
use Rattle.laws.proofs.Tick.Quiet.{none_assigned}
use Rattle.laws.proofs.Samples.Raises.{none_occurs}
use Rattle.samples.specs.Linked.{linked_by}
use Rattle.samples.specs.Quiet.{QuietBy}
use Rattle.samples.specs.Sampled.{SampledBy}
use Rattle.samples.specs.declared.pace.Met.{Met}

-- ── the state after step 2 ──

-- what is nothing without an enable is nothing with one
and_none : (a b c : Bool) → (a && b) ≡ false → (a && (b && c)) ≡ false
and_none true false c e = refl
and_none true true c e = absurd (true≢false e)
and_none false b c e = refl

-- neither kind of ping fails
unfailed : (f line : Bool) → (f && not line) ≡ false → (f && line) ≡ false → f ≡ false
unfailed true true a b = b
unfailed true false a b = a
unfailed false line a b = refl

-- in a tick that does not start the timer
abbrev pub still : Effects
still = record { clears = 0; raises = 0; begins = false }

module _ (g : Handler) (x : Sample) (r : Met) (small : g.n ≤ most) (s : QuietBy g.n g.links g.timer (pingable g) x r) where
  abbrev fx : Effects
  fx = still

  abbrev v : Heard
  v = heard g x fx

  none_broken : (i : ℕ) → i < most → alert_broken g x.alerts i ≡ false
  unfolding alert_broken
  none_broken i l = and_none (ltb i g.n) (equal (positive x.alerts i) (negative x.alerts i)) (alert_enabled g i) (s.none_equal i l)

  none_fails : fails (timed g x fx) g.links.turn ≡ false
  unfolding answered line_wrong
  none_fails = unfailed (fails (timed g x fx) g.links.turn) (is_line g.links.turn) s.no_alert_fails s.no_line_fails

  none_wrong : any_to (line_wrong g x) line_count ≡ false
  unfolding line_wrong
  none_wrong = s.none_wrong

  -- nothing comes of what step 2 hears
  silent : Silent g v
  unfolding happened
  silent = record { alerts = λ i l. unheard g x fx i l (s.no_event i l); locals = none_occurs g x fx small refl none_fails none_broken none_wrong }

  -- no cause is set
  alerts_same : length g.alerts.cause ≡ most → g.alerts.cause ≡ each most (λ i. marked (alert_event g v i) (alert g Field.Cause i))
  alerts_same m =
      is_each most g.alerts.cause _ 0 m (λ i l. sym (ap (λ (b : Bool). marked b (alert g Field.Cause i)) (silent.alerts i l)))

  locals_same : length g.locals.cause ≡ local_count → g.locals.cause ≡ each local_count (λ j. marked (occurs g v j) (local g Field.Cause j))
  locals_same m =
      is_each local_count g.locals.cause _ 0 m (λ j l. sym (ap (λ (b : Bool). marked b (local g Field.Cause j)) (silent.locals j l)))

  -- so the state is the sampled one, and nothing is assigned
  pub quiet_sampled : length g.alerts.cause ≡ most → length g.locals.cause ≡ local_count → SampledBy g v (record { handler = g; assigned = 0 })
  unfolding sampled
  quiet_sampled m k =
      record {
        handler = λ t. with_alerts (with_alert_column Field.Cause (alerts_same m t) g.alerts) (with_locals (with_local_column Field.Cause (locals_same k t) g.locals) g);
        assigns = is_bits_of 4 0 (assigned g v) (omega arith) (λ j l. bit_none j ∙ sym (none_assigned g v small silent j));
      }

  -- and what is left for the links is what was heard
  pub quiet_links : (lit : ℕ)
      → linked_by g.links r lit
      ≡ linked_by g.links (record { receivers = v.receivers; meets = v.meets; checked = v.checked; right = v.right }) lit
  unfolding heard answered receiver_after receiver_timed line_wrong
  quiet_links lit = ap (λ (m : Met). linked_by g.links m lit) s.leaves

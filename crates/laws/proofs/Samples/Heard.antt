-- What step 2 hears, alert by alert and local alert by local alert.
-- Assumes nothing.
use Prim.Native.Nat.{ℕ, ◌*◌, ◌≤◌, ◌<◌}
use mathlib.Core.Path.{◌≡◌, refl, sym, ap, ap₂, ◌∙◌}
use mathlib.Core.Bool.{Bool, false, and-true, and-false, ◌&&◌}
use native.Mathlib.Omega.{arith}
use borrow.Author.Tests.{le-ltb}
use lib.Dec.{ltb}
use Rattle.bits.specs.Bits.{bit}
use Rattle.bits.specs.Index.{place_in}
use Rattle.bits.proofs.BitLaws.{bit_bits_of}
use Rattle.bits.proofs.WordLaws.{place_in_each}
use Rattle.link_rules.proofs.CodeLaws.{code_back, pausing_back, busy_back}
use Rattle.link_rules.proofs.ReceiverLaws.{same_receiver}
use Rattle.link_rules.specs.Codes.{handshake_of, pausing_bit, busy_bit}
use Rattle.link_rules.specs.Pings.{asks}
use Rattle.link_rules.specs.Timer.{opens}
use Rattle.link_rules.specs.declared.Receiver.{Receiver}
use Rattle.rules.specs.Samples.{alert_enabled, happened, answered, receiver_after, before, asks_for, timed, receiver_timed, raised, heard, alert_event}
use Rattle.rules.specs.State.{most, words, local_count, receiver, receiver_in, receivers_by}
use Rattle.rules.specs.declared.Effects.{Effects}
use Rattle.rules.specs.declared.Handler.{Handler}
use Rattle.rules.specs.declared.Receivers.{Receivers}
use Rattle.rules.specs.declared.Sample.{Sample}

-- receivers made by their alerts, looked at one by one
pub receiver_by : (f : ℕ → Receiver) (i : ℕ) → i < words * 64 → receiver_in (receivers_by f) i ≡ f i
receiver_by f i l =
    same_receiver (receiver_in (receivers_by f) i) (f i)
    (ap₂ handshake_of (place_in_each words (λ j. pausing_bit (f j).stands) i l) (place_in_each words (λ j. busy_bit (f j).stands) i l) ∙ code_back (f i).stands)
    (place_in_each words (λ j. (f j).level) i l) (place_in_each words (λ j. (f j).pending) i l)

-- receivers that stand at one place have its two bits
pub stands_bits : (r q : Receivers) (i : ℕ) → (receiver_in r i).stands ≡ (receiver_in q i).stands
    → (place_in r.pausing i ≡ place_in q.pausing i) × (place_in r.busy i ≡ place_in q.busy i)
stands_bits r q i e = (
  sym (pausing_back (place_in r.pausing i) (place_in r.busy i)) ∙ ap pausing_bit e ∙ pausing_back (place_in q.pausing i) (place_in q.busy i),
  sym (busy_back (place_in r.pausing i) (place_in r.busy i)) ∙ ap busy_bit e ∙ busy_back (place_in q.pausing i) (place_in q.busy i),
)

-- equal receivers have equal bits
pub receiver_bits : (r q : Receivers) (i : ℕ) → receiver_in r i ≡ receiver_in q i
    → (place_in r.pausing i ≡ place_in q.pausing i) × (place_in r.busy i ≡ place_in q.busy i)
receiver_bits r q i e = stands_bits r q i (ap (λ (x : Receiver). x.stands) e)

module _ (g : Handler) (s : Sample) (fx : Effects) where
  -- request (ix): the alerts whose ping the timer asks for
  pub asked_at : (i : ℕ) → i < words * 64 → place_in (asks_for g s fx) i ≡ asks (timed g s fx) g.links.turn i
  unfolding opens
  asked_at i l = place_in_each words (asks (before g s fx) g.links.turn) i l

  pub heard_receiver : (i : ℕ) → i < words * 64 → receiver_in (heard g s fx).receivers i ≡ receiver_timed g s fx i
  unfolding heard
  heard_receiver i l = receiver_by (receiver_timed g s fx) i l

  pub heard_event_law : (i : ℕ) → i < words * 64 → place_in (heard g s fx).events i ≡ happened g (asks_for g s fx) s.alerts i
  unfolding heard
  heard_event_law i l = place_in_each words (happened g (asks_for g s fx) s.alerts) i l

  pub heard_answer_law : (i : ℕ) → i < words * 64 → place_in (heard g s fx).answers i ≡ answered g (asks_for g s fx) s.alerts i
  unfolding heard
  heard_answer_law i l = place_in_each words (answered g (asks_for g s fx) s.alerts) i l

  pub heard_raise : (j : ℕ) → j < local_count → bit (heard g s fx).raises j ≡ raised g s fx j
  unfolding heard
  heard_raise j l = bit_bits_of local_count (raised g s fx) j l

  -- samples at N and above count for nothing, and nothing there changes
  pub heard_above : (i : ℕ) → g.n ≤ i → i < words * 64 → receiver_in (heard g s fx).receivers i ≡ receiver g i
  unfolding receiver_after receiver_timed
  heard_above i l b =
      heard_receiver i b
      ∙ rw (le-ltb i g.n l)
      (same_receiver _ (receiver g i) refl refl (and-true (receiver g i).pending))

  -- an alert without an event has none that is enabled
  pub unheard : (i : ℕ) → i < most → happened g (asks_for g s fx) s.alerts i ≡ false → alert_event g (heard g s fx) i ≡ false
  unfolding alert_event
  unheard i l e = ap (λ (b : Bool). ltb i g.n && (b && alert_enabled g i)) (heard_event_law i (omega arith) ∙ e) ∙ and-false (ltb i g.n)

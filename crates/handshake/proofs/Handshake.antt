-- The claim of specs/Handshake.antt: one receiver by itself, its ticks in the handler's own terms.
-- Assumes nothing.
use Prim.Native.Nat.{ℕ, suc, ◌+◌, ◌≤◌, ◌<◌}
use mathlib.Core.Path.{◌≡◌, refl, sym, ap, ap₂, ◌∙◌}
use mathlib.Core.Bool.{Bool, true, false, cond, not, ◌&&◌, ◌||◌}
use mathlib.Core.List.{List}
use native.Mathlib.Omega.{arith}
use lib.ListN.{length}
use Rattle.escalation.proofs.ListTicks.{at, input, at_next}
use Rattle.laws.proofs.Samples.Receivers.{happens_in_law, answered_in_law, after_receiver}
use Rattle.laws.proofs.Tick.Causes.{after_cause}
use Rattle.link_rules.proofs.Handshakes.{handshakes}
use Rattle.link_rules.proofs.ReceiverLaws.{received_taken}
use Rattle.link_rules.proofs.Steps
use Rattle.link_rules.specs.Handshake.{received_at, taken_at, Handshakes}
use Rattle.link_rules.specs.Handshake
use Rattle.link_rules.specs.Receiver.{takes, asked_for, received}
use Rattle.link_rules.specs.declared.Given.{Given}
use Rattle.link_rules.specs.declared.Receiver.{Receiver}
use Rattle.rules.specs.Access.{value, acted}
use Rattle.rules.specs.Samples.{marked, alert_enabled}
use Rattle.rules.specs.State.{most, receiver}
use Rattle.rules.specs.Valid.{valid}
use Rattle.rules.specs.declared.Field.{Field}
use Rattle.rules.specs.declared.Handler.{Handler}
use Rattle.rules.specs.declared.Input.{Input}
use Rattle.rules.specs.declared.Register.TheVariants.{Alert}
use Rattle.handshake.specs.Alone.{before, given_in, fails_in, event_in, answer_in, receiver_at, gives_alone, Alone}
use Rattle.handshake.specs.Handshake.{rises_in, falls_in, asks_in, taken_in, open_before, open_in, acknowledges_in, pings_in, NoneTaken, OneAlert, Handshake}
use Rattle.handshake.proofs.Alone.{small, at_n, alone, above}
use Rattle.handshake.proofs.Closing.{same_stands, same_acknowledge, same_taken, stays, closed}
use Rattle.handshake.proofs.Pinged.{fresh, is_pingable, was_open, none_taken}

-- ── CAUSE ──

module _ (h : Handler) (xs : List Input) (v : valid h ≡ true) (i : ℕ) (l : i < h.n) where
  cause_at_law : (t : ℕ) → t < length xs
      → value (before h xs (suc t)) (Alert Field.Cause i)
      ≡ marked (event_in h xs i t && alert_enabled (acted (at h xs t) (input xs t).access) i) (value (acted (at h xs t) (input xs t).access) (Alert Field.Cause i))
  cause_at_law t m =
      ap (λ (g : Handler). value g (Alert Field.Cause i)) (at_next h xs v t m)
      ∙ after_cause (at h xs t) (input xs t) i (omega (arith, small h xs v, at_n h xs v t)) (omega (arith, l, at_n h xs v t))

  cause : (t : ℕ) → t < length xs → event_in h xs i t ≡ true → alert_enabled (acted (at h xs t) (input xs t).access) i ≡ true
      → value (before h xs (suc t)) (Alert Field.Cause i) ≡ 1
  cause t m e f = cause_at_law t m ∙ ap₂ (λ (a b : Bool). marked (a && b) (value (acted (at h xs t) (input xs t).access) (Alert Field.Cause i))) e f

  no_cause : (t : ℕ) → t < length xs → (event_in h xs i t && alert_enabled (acted (at h xs t) (input xs t).access) i) ≡ false
      → value (before h xs (suc t)) (Alert Field.Cause i) ≡ value (acted (at h xs t) (input xs t).access) (Alert Field.Cause i)
  no_cause t m e =
      cause_at_law t m
      ∙ ap (λ (a : Bool). marked a (value (acted (at h xs t) (input xs t).access) (Alert Field.Cause i))) e

  -- ── the receiver by itself ──

  abbrev r : Receiver
  r = receiver h i

  abbrev given : ℕ → Given
  given = given_in h xs i

  it : Alone h xs i
  it = alone h xs v i l

  claim : Handshakes r given
  claim = handshakes r given

  few : (t : ℕ) → (at h xs t).n ≤ most
  few t = omega (arith, small h xs v, at_n h xs v t)

  below : (t : ℕ) → i < (at h xs t).n
  below t = omega (arith, l, at_n h xs v t)

  -- what is said of it, in the handler's terms
  taken : (t : ℕ) → t < length xs → taken_in h xs i t ≡ taken_at r given t
  taken t m = ap₂ ◌||◌ (it.event t m) (it.answer t m) ∙ same_taken r given (fails_in h xs i) t

  acknowledges : (t : ℕ) → t < length xs → acknowledges_in h xs i t ≡ (received_at r given t).acknowledge
  acknowledges t m = (it.acknowledge t m).0 ∙ same_acknowledge r given (fails_in h xs i) t

  stands : (t : ℕ) → t ≤ length xs → (receiver (at h xs t) i).stands ≡ (Handshake.receiver_at r given t).stands
  stands t m = ap (λ (y : Receiver). y.stands) (it.stood t m) ∙ same_stands r given (fails_in h xs i) t

  pings : (t : ℕ) → t < length xs → pings_in h xs i t ≡ (gives_alone h xs i t).ping
  pings t m = (it.ping t m).0

  -- none taken in ticks of the list, both ways
  none_at : (a b : ℕ) → b ≤ length xs → NoneTaken h xs i a b → Handshake.NoneTaken r given a b
  none_at a b m n t p q = sym (taken t (omega (arith, m, q))) ∙ n t p q

  none_there : (a b : ℕ) → b ≤ length xs → Handshake.NoneTaken r given a b → NoneTaken h xs i a b
  none_there a b m n t p q = taken t (omega (arith, m, q)) ∙ n t p q

  soon : (t : ℕ) → t + 3 < length xs → falls_in xs i t ≡ true → ((u : ℕ) → t < u → u ≤ t + 3 → NoneTaken h xs i (suc t) u → rises_in xs i u ≡ true)
      → (taken_in h xs i (suc t) || (taken_in h xs i (suc (suc t)) || taken_in h xs i (suc (suc (suc t))))) ≡ true
  soon t m f g =
      ap₂ ◌||◌ (taken (suc t) (omega (arith, m)))
      (ap₂ ◌||◌ (taken (suc (suc t)) (omega (arith, m))) (taken (suc (suc (suc t))) (omega (arith, m))))
      ∙ claim.soon t f (λ u p q n. g u p q (none_there (suc t) u (omega (arith, m, q)) n))

  -- ── pings ──

  abbrev level_at : ℕ → Bool
  level_at u = (receiver_at r given (fails_in h xs i) u).level

  turned : (u : ℕ) → (gives_alone h xs i u).ping ≡ cond (asks_in h xs i u && not (receiver_at r given (fails_in h xs i) u).pending) (not (level_at u)) (level_at u)
  unfolding received asked_for
  turned u = refl

  left : (u : ℕ) → (gives_alone h xs i u).ping ≡ level_at (suc u)
  unfolding received asked_for receiver_at
  left u = refl

  level : (t : ℕ) → suc t < length xs → pings_in h xs i (suc t) ≡ cond (asks_in h xs i (suc t)) (not (pings_in h xs i t)) (pings_in h xs i t)
  level t m =
      pings (suc t) m ∙ turned (suc t) ∙ ap (λ (b : Bool). cond b (not (level_at (suc t))) (level_at (suc t))) (asked_fresh (asks_in h xs i (suc t)) refl)
      ∙ ap (λ (p : Bool). cond (asks_in h xs i (suc t)) (not p) p) (sym (pings t (omega (arith, m)) ∙ left t))
    where
      -- the timer asks where none is open
      asked_fresh : (b : Bool) → asks_in h xs i (suc t) ≡ b → (b && not (receiver_at r given (fails_in h xs i) (suc t)).pending) ≡ b
      asked_fresh true e =
          ap not (sym (ap (λ (q : Receiver). q.pending) (it.stood (suc t) (omega (arith, m)))) ∙ fresh (at h xs (suc t)) (input xs (suc t)) i (few (suc t)) (below (suc t)) e)
      asked_fresh false e = refl

  -- its ping after the tick
  next : (t : ℕ) → t < length xs → open_before h xs i (suc t) ≡ ((open_in h xs i t && not (taken_in h xs i t)) && not (fails_in h xs i t))
  unfolding received asked_for
  next t m =
      ap (λ (g : Handler). (receiver g i).pending) (at_next h xs v t m)
      ∙ ap (λ (q : Receiver). q.pending) (after_receiver (at h xs t) (input xs t) i (few t) (below t))
      ∙ ap (λ (b : Bool). (open_in h xs i t && not b) && not (fails_in h xs i t))
      (sym (received_taken (given t) (receiver (at h xs t) i))
      ∙ sym (ap₂ ◌||◌ (happens_in_law (at h xs t) (input xs t) i (few t) (below t)) (answered_in_law (at h xs t) (input xs t) i (few t) (below t))))

  -- which of the two a rise is that is taken
  module _ (t : ℕ) (m : t < length xs) (e : taken_in h xs i t ≡ true) where
    event_is : event_in h xs i t ≡ (received (given t) (receiver (at h xs t) i)).event
    event_is = happens_in_law (at h xs t) (input xs t) i (few t) (below t)

    answer_is : answer_in h xs i t ≡ (received (given t) (receiver (at h xs t) i)).answer
    answer_is = answered_in_law (at h xs t) (input xs t) i (few t) (below t)

    takes_it : takes (receiver (at h xs t) i).stands (given t).pos (given t).neg ≡ true
    takes_it = sym (received_taken (given t) (receiver (at h xs t) i)) ∙ sym (ap₂ ◌||◌ event_is answer_is) ∙ e

    by_ping : open_in h xs i t ≡ true → (answer_in h xs i t ≡ true) × (event_in h xs i t ≡ false)
    unfolding received asked_for
    by_ping f = (answer_is ∙ ap₂ ◌&&◌ takes_it f, event_is ∙ ap₂ (λ (a b : Bool). a && not b) takes_it f)

    by_event : open_in h xs i t ≡ false → (event_in h xs i t ≡ true) × (answer_in h xs i t ≡ false)
    unfolding received asked_for
    by_event f = (event_is ∙ ap₂ (λ (a b : Bool). a && not b) takes_it f, answer_is ∙ ap₂ ◌&&◌ takes_it f)

  pub one_alert : OneAlert h xs i
  one_alert =
      record {
        pairs = λ t m. ((it.acknowledge t m).1 ∙ ap not (sym (it.acknowledge t m).0), (it.ping t m).1 ∙ ap not (sym (pings t m)));
        rise = λ t m e. Steps.rise r given t (sym (taken t m) ∙ e);
        acknowledged = λ t m e. acknowledges (suc t) m ∙ claim.acknowledged t (sym (taken t (omega (arith, m))) ∙ e);
        held = λ t m e f. acknowledges (suc t) m ∙ Steps.held r given t (sym (acknowledges t (omega (arith, m))) ∙ e) f;
        dropped = λ t m e f. acknowledges (suc t) m ∙ Steps.dropped r given t (sym (acknowledges t (omega (arith, m))) ∙ e) f;
        unraised = λ t m e f. acknowledges (suc t) m
            ∙ Steps.unraised r given t (sym (acknowledges t (omega (arith, m))) ∙ e) (sym (taken t (omega (arith, m))) ∙ f);
        apart = λ t u m e f b. claim.apart t u (sym (taken t (omega (arith, m, b))) ∙ e) (sym (taken u m) ∙ f) b;
        soon = soon;
        holds = λ t m e.
            let c = claim.holds t e in
            (taken t m ∙ c.0, stands (suc t) m ∙ c.1 ∙ sym (stands t (omega (arith, m))));
        level = level;
        opened = λ t m e. fresh (at h xs t) (input xs t) i (few t) (below t) e;
        pingable = λ t m e. is_pingable (at h xs t) (input xs t) i (few t) (below t) e;
        answer = by_ping;
        event = by_event;
        failed = λ t m e. (
          was_open (at h xs t) (input xs t) i (few t) (below t) e,
          none_taken (at h xs t) (input xs t) i (few t) (below t) e,
        );
        stays = stays (length xs) (asks_in h xs i) (open_before h xs i) (taken_in h xs i) (fails_in h xs i) next;
        closed = closed (length xs) (asks_in h xs i) (open_before h xs i) (taken_in h xs i) (fails_in h xs i) next;
        cause = cause;
        no_cause = no_cause;
      }

-- requests (viii) and (ix), of every list of ticks from every accepted state
pub handshake : (h : Handler) (xs : List Input) → valid h ≡ true → Handshake h xs
handshake h xs v = record { alone = alone h xs v; above = above h xs v; alerts = one_alert h xs v }

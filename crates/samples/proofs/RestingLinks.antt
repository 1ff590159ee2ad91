-- A step 2 in which the links wait, and send what the lines say.
-- Assumes nothing.
use Prim.Native.Nat.{ℕ, ◌-◌, ◌*◌, ◌<◌}
use mathlib.Core.Path.{◌≡◌, refl, sym, ap, ap₂, ◌∙◌}
use mathlib.Core.Bool.{Bool, true, false, false≢true, and-true, and-false, cond, not, ◌&&◌, ◌||◌}
use native.Mathlib.Omega.{arith}
use borrow.Author.Tests.{eqb-true}
use lib.Dec.{eqb, ltb, leb}
use Rattle.bits.specs.Bits.{bit, bits_of, num}
use Rattle.bits.specs.Index.{place_in}
use Rattle.bits.proofs.BitLaws.{bit_none}
use Rattle.bits.proofs.IndexLaws.{and-true as both}
use Rattle.bits.proofs.WordLaws.{place_in_each}
use Rattle.link_rules.specs.Codes.{pausing_bit, busy_bit}
use Rattle.link_rules.specs.LinePing.{right_before, right_after}
use Rattle.link_rules.specs.Pings.{pending, asks, line_after}
use Rattle.link_rules.specs.Sender.{still_right}
use Rattle.link_rules.specs.Senders.{line_count, sent_all}
use Rattle.link_rules.specs.Timer.{is_line, line_of, is_due, opens, open_now, age, fails, ends, next_turn, turned}
use Rattle.link_rules.specs.declared.Meets.{Meets}
use Rattle.link_rules.specs.declared.Receiver.{Receiver}
use Rattle.link_rules.specs.declared.Turn.{Turn}
use Rattle.rules.specs.Samples.{positive, negative, checks}
use Rattle.rules.specs.State.{words, receiver_in, receivers_by}
use Rattle.rules.specs.declared.Links.{Links}
use Rattle.rules.specs.declared.Receivers.{Receivers}
use Rattle.rules.specs.declared.Sample.{Sample}
use Rattle.rules.specs.declared.Timer.{Timer}
use Rattle.samples.specs.Linked.{driven_by, whole_by, linked_by}
use Rattle.samples.specs.Paced.{meets_by, asks_by, wrong_by, was_right_by, answered_by, timed_by, receiver_by, right_by}
use Rattle.samples.specs.Quiet.{none_set, QuietBy}
use Rattle.samples.specs.Received.{receiver_at}
use Rattle.samples.specs.Rest.{AlertsRest, waited, with_sent, driven, left_by, SendsBy}
use Rattle.samples.proofs.ClosedPings.{words_ext}
use Rattle.samples.proofs.NewSenders.{zero_bits}
use Rattle.samples.proofs.Pacing.{mask_any}
use Rattle.samples.proofs.QuietLinks.{place_none}
use Rattle.samples.proofs.StillWords.{Still, still_at}

-- ── the timer: off, or its ping is not due yet; and no ping is open ──

-- on: the timer is on, over: the turn's count is 0
not_due : (on over pend : Bool) → (not on || not over) ≡ true → ((on && true) && (not pend && over)) ≡ false
not_due true true pend e = absurd (false≢true e)
not_due true false pend e = and-false (not pend)
not_due false over pend e = refl

module _ (m : Meets) (t : Turn) (due : is_due m t ≡ false) (none : m.pending ≡ false) where
  pub no_opening : opens m t ≡ false
  unfolding opens
  no_opening = ap (λ (b : Bool). b && (is_line t || m.pingable)) due

  pub none_open : open_now m t ≡ false
  unfolding open_now
  none_open = ap₂ (λ (a b : Bool). m.runs && (a || b)) none no_opening ∙ and-false m.runs

  pub none_fails : fails m t ≡ false
  unfolding fails
  none_fails = ap (λ (b : Bool). b && (not m.answered && (ltb 0 m.timeout && leb m.timeout (age m t)))) none_open

  pub no_end : ends m t ≡ false
  unfolding ends
  no_end = ap₂ (λ (a b : Bool). (a && not (opens m t)) || (b && (m.answered || (fails m t || m.closed)))) due none_open

-- ── truth tables ──

or_nothing : (a l : Bool) → ((a || false) && l) ≡ (a && l)
or_nothing true l = refl
or_nothing false l = refl

abbrev closing : Receiver → Bool → Receiver
closing y b = record { stands = y.stands; level = y.level; pending = y.pending && b }

stays_open : (y : Receiver) → closing y true ≡ y
stays_open y = ap (λ (p : Bool). record { stands = y.stands; level = y.level; pending = p }) (and-true y.pending)

unclosed : (l : Bool) (y : Receiver) → closing y (not (l && false)) ≡ y
unclosed l y = ap (λ (b : Bool). closing y (not b)) (and-false l) ∙ stays_open y

abbrev counting : Turn → ℕ → Turn
counting t count = record { number = t.number; alert = t.alert; count = count }

by_timer : (on : Bool) (t : Turn) → cond (not (on && true)) t (counting t (t.count - 1)) ≡ counting t (cond on (t.count - 1) t.count)
by_timer true t = refl
by_timer false t = refl

both_off : (a b : Bool) → cond a (cond b false false) false ≡ false
both_off true true = refl
both_off true false = refl
both_off false b = refl

no_right : (checked line : Bool) → (checked && (line && false)) ≡ false
no_right true true = refl
no_right true false = refl
no_right false line = refl

-- ── all of it ──

pub record Parts (n : ℕ) (k : Links) (c : Timer) (s : Sample) : Type 0 where
  pub alerts : AlertsRest n k.receivers s.alerts
  pub closed : place_in k.receivers.pending k.turn.alert ≡ false
  pub lines : k.lines ≡ 0
  pub right : k.right ≡ 0
  pub sound : bits_of line_count (wrong_by n k c false false s) ≡ 0
  pub waits : (not (eqb c.enable 1) || not (eqb k.turn.count 0)) ≡ true

module _ (n : ℕ) (k : Links) (c : Timer) (s : Sample) (x : Parts n k c s) (pingable : Bool) where
  abbrev r : Receivers
  r = k.receivers

  abbrev t : Turn
  t = k.turn

  -- the turn's ping is not open, and not due
  none_pending : pending n t (λ i. (receiver_in r i).pending) (bit k.lines) ≡ false
  none_pending = go (is_line t)
    where
      go : (l : Bool) → cond l (bit k.lines (line_of t)) (ltb t.alert n && place_in r.pending t.alert) ≡ false
      go true = ap (λ (y : ℕ). bit y (line_of t)) x.lines ∙ bit_none (line_of t)
      go false = ap (λ (b : Bool). ltb t.alert n && b) x.closed ∙ and-false (ltb t.alert n)

  no_due : (a : Bool) → is_due (meets_by n k c false pingable s a) t ≡ false
  no_due a = not_due (eqb c.enable 1) (eqb t.count 0) (pending n t (λ i. (receiver_in r i).pending) (bit k.lines)) x.waits

  timed_open : open_now (timed_by n k c false pingable s) t ≡ false
  timed_open = none_open (timed_by n k c false pingable s) t (no_due (answered_by n k c false pingable s)) none_pending

  timed_fails : fails (timed_by n k c false pingable s) t ≡ false
  timed_fails = none_fails (timed_by n k c false pingable s) t (no_due (answered_by n k c false pingable s)) none_pending

  none_asked : (i : ℕ) → i < words * 64 → place_in (asks_by n k c false pingable s) i ≡ false
  none_asked i h =
      place_in_each words (asks (meets_by n k c false pingable s false) t) i h
      ∙ ap (λ (b : Bool). b && (not (is_line t) && eqb i t.alert)) (no_opening (meets_by n k c false pingable s false) t (no_due false) none_pending)

  -- each receiver stays
  at_alert : (i : ℕ) → i < words * 64
      → Still (ltb i n) (place_in r.pausing i) (place_in r.busy i) (place_in r.level i) (place_in r.pending i)
      (place_in (asks_by n k c false pingable s) i) (positive s.alerts i) (negative s.alerts i)
  at_alert i h =
      still_at (ltb i n) (place_in r.pausing i) (place_in r.busy i) (place_in r.level i) (place_in r.pending i)
      (place_in (asks_by n k c false pingable s) i) (positive s.alerts i) (negative s.alerts i)
      (ap (λ (b : Bool). ((((positive s.alerts i || not (negative s.alerts i)) || place_in r.pausing i) || place_in r.busy i) || b) && ltb i n) (none_asked i h)
      ∙ or_nothing (((positive s.alerts i || not (negative s.alerts i)) || place_in r.pausing i) || place_in r.busy i) (ltb i n) ∙ x.alerts.none_stirs i h)

  receiver_stays : (i : ℕ) → i < words * 64 → receiver_by n k c false pingable s i ≡ receiver_in r i
  receiver_stays i h =
      ap (λ (f : Bool). closing (receiver_at n r (asks_by n k c false pingable s) s.alerts i) (not (ltb i n && ((f && not (is_line t)) && eqb i t.alert)))) timed_fails
      ∙ unclosed (ltb i n) (receiver_at n r (asks_by n k c false pingable s) s.alerts i)
      ∙ sym (at_alert i h).receiver

  receivers_stay : receivers_by (receiver_by n k c false pingable s) ≡ r
  receivers_stay =
      (λ u. record {
        pausing = words_ext words (λ i. pausing_bit (receiver_by n k c false pingable s i).stands) (λ i. pausing_bit (receiver_in r i).stands) (λ i h. ap (λ (y : Receiver). pausing_bit y.stands) (receiver_stays i h)) u;
        busy = words_ext words (λ i. busy_bit (receiver_by n k c false pingable s i).stands) (λ i. busy_bit (receiver_in r i).stands) (λ i h. ap (λ (y : Receiver). busy_bit y.stands) (receiver_stays i h)) u;
        level = words_ext words (λ i. (receiver_by n k c false pingable s i).level) (λ i. (receiver_in r i).level) (λ i h. ap (λ (y : Receiver). y.level) (receiver_stays i h)) u;
        pending = words_ext words (λ i. (receiver_by n k c false pingable s i).pending) (λ i. (receiver_in r i).pending) (λ i h. ap (λ (y : Receiver). y.pending) (receiver_stays i h)) u;
      })
      ∙ x.alerts.whole

  -- nothing comes of it but for the links
  quiet_by : QuietBy n k c pingable s (left_by n k c pingable s)
  quiet_by =
      record {
        leaves = refl;
        no_event = λ i l. sym (at_alert i (omega arith)).event;
        none_equal = λ i l. sym (at_alert i (omega arith)).equals;
        no_alert_fails = ap (λ (f : Bool). f && not (is_line t)) timed_fails;
        no_line_fails = ap (λ (f : Bool). f && is_line t) timed_fails;
        none_wrong = sym (mask_any (wrong_by n k c false pingable s)) ∙ ap (λ (w : ℕ). not (eqb w 0)) x.sound;
      }

  right_stays : num (right_by n k c false pingable s) ≡ k.right
  unfolding right_after
  right_stays =
      ap (λ (b : Bool). num (checks s.receive && (is_line t && (b && still_right (age (meets_by n k c false pingable s false) t) (right_before (meets_by n k c false pingable s false) t (was_right_by n k c false pingable s)) (wrong_by n k c false pingable s (line_of t))))))
      (none_open (meets_by n k c false pingable s false) t (no_due false) none_pending)
      ∙ ap num (no_right (checks s.receive) (is_line t)) ∙ sym x.right

  -- the links after it: with no ping open, a line that is on closes none
  module _ (lit : ℕ) where
    abbrev whole : Meets
    whole = whole_by k (left_by n k c pingable s) lit

    whole_due : is_due whole t ≡ false
    whole_due = no_due (answered_by n k c false pingable s)

    turn_waits : turned whole t ≡ counting t (waited c t.count)
    unfolding turned
    turn_waits =
        ap₂ (λ (a b : Bool). cond (not (eqb c.enable 1 && true)) t (cond a (next_turn t s.word) (record { number = t.number; alert = t.alert; count = cond b (age whole t) (t.count - 1) })))
        (no_end whole t whole_due none_pending) (none_open whole t whole_due none_pending)
        ∙ by_timer (eqb c.enable 1) t

    lines_stay : bits_of 32 (λ l. cond (ltb l line_count) (line_after whole t (bit k.lines l) l) (bit k.lines l)) ≡ k.lines
    lines_stay =
        sym (x.lines ∙ zero_bits 32 _ (omega arith) (λ l h.
        ap₂ (λ (a b : Bool). cond (ltb l line_count) (cond (is_line t && eqb l (line_of t)) (a && not (ends whole t)) b) b)
        (none_open whole t whole_due none_pending) (ap (λ (y : ℕ). bit y l) x.lines ∙ bit_none l)
        ∙ both_off (ltb l line_count) (is_line t && eqb l (line_of t))))

    no_ping : driven_by k (left_by n k c pingable s) lit ≡ driven lit
    no_ping = λ u e.
        record {
          line = bit lit e;
          ping = no_opening (timed_by n k c false pingable s) t (no_due (answered_by n k c false pingable s)) none_pending u && (is_line t && eqb e (line_of t));
        }

    links_send : linked_by k (left_by n k c pingable s) lit ≡ with_sent (sent_all k.senders (driven lit)) (waited c t.count) k
    links_send = λ u.
        record {
          receivers = receivers_stay u;
          turn = turn_waits u;
          lines = lines_stay u;
          senders = sent_all k.senders (no_ping u);
          right = right_stays u;
        }

pub sends_by : (n : ℕ) (k : Links) (c : Timer) (s : Sample) → Parts n k c s → SendsBy n k c s
sends_by n k c s x = record { quiet = quiet_by n k c s x; links = links_send n k c s x }

-- by the tests of the code
pub sends_from : (n : ℕ) (k : Links) (c : Timer) (s : Sample) (still none waits : Bool) (off : ℕ) → k.turn.alert < 256
    → (still ≡ true → AlertsRest n k.receivers s.alerts) → none ≡ none_set k.receivers.pending
    → off ≡ bits_of line_count (wrong_by n k c false false s) → waits ≡ (not (eqb c.enable 1) || not (eqb k.turn.count 0))
    → (still && ((none && (eqb k.lines 0 && eqb k.right 0)) && (eqb off 0 && waits))) ≡ true → SendsBy n k c s
sends_from n k c s still none waits off small a p o d e =
    let y = both still _ e in
    let z = both (none && (eqb k.lines 0 && eqb k.right 0)) _ y.1 in
    let q = both none _ z.0 in
    let l = both (eqb k.lines 0) (eqb k.right 0) q.1 in
    let u = both (eqb off 0) waits z.1 in
    sends_by n k c s
    (record {
      alerts = a y.0;
      closed = place_none k.receivers.pending (sym p ∙ q.0) k.turn.alert (omega arith);
      lines = eqb-true _ _ l.0;
      right = eqb-true _ _ l.1;
      sound = sym o ∙ eqb-true _ _ u.0;
      waits = sym d ∙ u.1;
    })

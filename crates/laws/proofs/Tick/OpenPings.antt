-- Requests (ix) and (xi), the open pings through a tick: what becomes of them is what the timer's rules say, and they stay the turn's.
-- Assumes nothing.
use Prim.Native.Nat.{ℕ, ◌≤◌, ◌<◌}
use mathlib.Core.Path.{◌≡◌, refl, sym, ap, ap₂, ◌∙◌}
use mathlib.Core.Bool
use mathlib.Core.Bool.{Bool, true, false, and-false, cond, not, ◌&&◌, ◌||◌}
use native.Mathlib.Omega.{arith}
use borrow.Author.Tests.{eq-eqb, ltb-true, lt-ltb}
use lib.Dec.{eqb, ltb}
use Rattle.bits.proofs.IndexLaws.{and-true}
use Rattle.bits.specs.Bits.{bit}
use Rattle.bits.specs.Index.{place_in}
use Rattle.link_rules.proofs.Closing.{closing_asks}
use Rattle.link_rules.proofs.Owned.{opens_runs, keeps_owned}
use Rattle.link_rules.proofs.Pending.{keeps_pending}
use Rattle.link_rules.specs.LinePing.{closed_by_line, closing}
use Rattle.link_rules.specs.Pings.{pending, asks, alert_after, Handed}
use Rattle.link_rules.specs.Receiver.{takes, asked_for, received}
use Rattle.link_rules.specs.Sender.{closes}
use Rattle.link_rules.specs.Timer.{is_line, line_of, is_due, opens, open_now, open_after, fails, fails_alert}
use Rattle.link_rules.specs.declared.Meets.{Meets}
use Rattle.link_rules.specs.declared.Receiver.{Receiver}
use Rattle.link_rules.specs.declared.Turn.{Turn}
use Rattle.rules.specs.Samples.{positive, negative, alert_enabled, received_by, answered, receiver_after, asks_for, line_answered, timed, receiver_timed, heard}
use Rattle.rules.specs.State.{most, alert, receiver, receiver_in, sender, is_on}
use Rattle.rules.specs.Tick.{driven, closed_now, links_after}
use Rattle.rules.specs.declared.Effects.{Effects}
use Rattle.rules.specs.declared.Field.{Field}
use Rattle.rules.specs.declared.Handler.{Handler}
use Rattle.rules.specs.declared.Sample.{Sample}
use Rattle.laws.specs.Facts.{PingsOwned}
use Rattle.laws.specs.Pinging.{links_pending}
use Rattle.laws.proofs.Samples.Heard.{asked_at, heard_receiver}
use Rattle.laws.proofs.Tick.Links.{linked_line}

-- ── tests ──

-- open or asked for, where either needs that the timer runs
open_runs : (o a r : Bool) → (o ≡ true → r ≡ true) → (a ≡ true → r ≡ true) → (o || a) ≡ (r && (a || o))
open_runs true true r f k = sym (ap (λ (b : Bool). b && true) (f refl))
open_runs true false r f k = sym (ap (λ (b : Bool). b && true) (f refl))
open_runs false true r f k = sym (ap (λ (b : Bool). b && true) (k refl))
open_runs false false r f k = sym (and-false r)

either_order : (a b : Bool) → (a || b) ≡ (b || a)
either_order true true = refl
either_order true false = refl
either_order false true = refl
either_order false false = refl

-- in an alert's turn the alert drawn is asked for its ping where that opens
own_asked : (m : Meets) (t : Turn) → is_line t ≡ false → asks m t t.alert ≡ opens m t
own_asked m t l =
    ap₂ (λ (b c : Bool). opens m t && (not b && c)) l (eq-eqb t.alert t.alert refl) ∙ mathlib.Core.Bool.and-true (opens m t)

-- whether the turn's ping is open goes by the alerts below N and the four lines
pending_same : (n : ℕ) (t : Turn) (alerts others lines rest : ℕ → Bool) → ((i : ℕ) → i < n → alerts i ≡ others i)
    → ((e : ℕ) → e < 4 → lines e ≡ rest e) → pending n t alerts lines ≡ pending n t others rest
pending_same n t alerts others lines rest f k = go (is_line t) (ltb t.alert n) refl
  where
    go : (b c : Bool) → ltb t.alert n ≡ c → cond b (lines (line_of t)) (c && alerts t.alert) ≡ cond b (rest (line_of t)) (c && others t.alert)
    go true c e = k (line_of t) (omega arith)
    go false true e = f t.alert (ltb-true t.alert n e)
    go false false e = refl

-- ── steps 2 to 5 of the state g after step 1, with these lines in step 5 ──

module _ (g : Handler) (s : Sample) (fx : Effects) (lit : ℕ) (n : g.n ≤ most) where
  abbrev m : Meets
  m = closing (closed_now g (heard g s fx) lit) (timed g s fx)

  abbrev t : Turn
  t = g.links.turn

  abbrev alerts : ℕ → Bool
  alerts i = (receiver g i).pending

  abbrev lines : ℕ → Bool
  lines e = bit g.links.lines e

  -- a rise of alert i is taken
  abbrev taken : ℕ → Bool
  taken i = takes (receiver g i).stands (positive s.alerts i) (negative s.alerts i)

  -- ── an alert's turn ──

  -- the alert drawn
  abbrev a : ℕ
  a = t.alert

  -- at N and above its ping does not open
  none_opens : is_line t ≡ false → ltb a g.n ≡ false → opens m t ≡ false
  unfolding opens
  none_opens l e =
      ap₂ (λ (b c : Bool). is_due m t && (b || (c && (eqb (alert g Field.Regwen a) 0 && alert_enabled g a)))) l e ∙ and-false (is_due m t)

  open_is : is_line t ≡ false → (b : Bool) → ltb a g.n ≡ b → open_now m t ≡ (m.runs && ((b && alerts a) || opens m t))
  unfolding open_now
  open_is l b e = ap₂ (λ (c d : Bool). m.runs && (cond c (lines (line_of t)) (d && alerts a) || opens m t)) l e

  -- its ping is answered by a rise that is taken while it is open
  answer_is : PingsOwned g.n m.runs g.links → is_line t ≡ false → m.answered ≡ (taken a && open_now m t)
  unfolding answered received asked_for
  answer_is o l =
      ap (λ (b : Bool). cond b (line_answered g s fx) (answered g (asks_for g s fx) s.alerts a)) l
      ∙ go (ltb a g.n) refl
    where
      go : (b : Bool) → ltb a g.n ≡ b → (b && (taken a && (place_in (asks_for g s fx) a || alerts a))) ≡ (taken a && open_now m t)
      go true e =
          let i : a < g.n = ltb-true a g.n e in
          ap (λ (b : Bool). taken a && b)
          (ap (λ (b : Bool). b || alerts a) (asked_at g s fx a (omega arith) ∙ sym (closing_asks (closed_now g (heard g s fx) lit) (timed g s fx) t a) ∙ own_asked m t l)
          ∙ open_runs (opens m t) (alerts a) m.runs (opens_runs m t) (λ k. (and-true _ _ (o.alert a i k)).0)
          ∙ sym (open_is l true e))
      go false e =
          sym (ap (λ (b : Bool). taken a && b) (open_is l false e ∙ ap (λ (b : Bool). m.runs && b) (none_opens l e) ∙ and-false m.runs) ∙ and-false (taken a))

  -- only a line's ping is closed by an escalation
  closed_line : closed_now g (heard g s fx) lit ≡ true → is_line t ≡ true
  unfolding closed_now closed_by_line
  closed_line e =
      let c = (heard g s fx).checked in
      let d = closes (sender g (line_of t)) (driven g (heard g s fx) lit (line_of t)) in
      let o = open_now (heard g s fx).meets t in
      (and-true (is_line t) (o && d) (and-true c (is_line t && (o && d)) e).1).0

  -- the timer is handed what its rules ask for
  handed : PingsOwned g.n m.runs g.links → Handed g.n m t alerts lines taken
  handed o =
      record {
        is_pending = refl;
        is_start = λ b. ap (λ (e : Bool). is_on g && not e) b ∙ and-false (is_on g);
        is_answer = answer_is o;
        is_closed = closed_line;
        is_alert = λ p. ltb-true t.alert g.n (and-true _ _ p).0;
      }

  -- what step 2 hears of the ping of alert i
  pub heard_pending : (i : ℕ) → i < g.n → (receiver_in (heard g s fx).receivers i).pending ≡ alert_after m t (alerts i) (taken i) i
  unfolding receiver_timed receiver_after received asked_for fails open_now opens
  heard_pending i l =
      ap (λ (r : Receiver). r.pending) (heard_receiver g s fx i (omega arith))
      ∙ ap (λ (b : Bool). (cond b (received_by g (asks_for g s fx) s.alerts i).receiver (receiver g i)).pending && not (b && (fails_alert m t && eqb i t.alert))) (lt-ltb i g.n l)
      ∙ ap (λ (b : Bool). (b && not (taken i)) && not (fails_alert m t && eqb i t.alert))
      (ap (λ (b : Bool). b || alerts i) (asked_at g s fx i (omega arith) ∙ sym (closing_asks (closed_now g (heard g s fx) lit) (timed g s fx) t i)) ∙ either_order (asks m t i) (alerts i))

  module _ (o : PingsOwned g.n m.runs g.links) where
    -- open pings are the turn's, before and after
    pub linked_owned : PingsOwned g.n (m.runs || m.begins) (links_after g (heard g s fx) lit)
    unfolding heard links_after
    linked_owned =
        let k = (keeps_owned g.n m t alerts lines taken).keeps o (handed o) in
        record {
          alert = λ i l e. k.alert i l (sym (heard_pending i l) ∙ e);
          line = λ e l b. k.line e l (sym (linked_line g (heard g s fx) lit e l) ∙ b);
        }

    -- and what the timer leaves open is what the next turn's ping is
    pub linked_open : links_pending g.n (links_after g (heard g s fx) lit) ≡ open_after m t
    unfolding heard links_after
    linked_open =
        pending_same g.n (links_after g (heard g s fx) lit).turn _ _ _ _ heard_pending (linked_line g (heard g s fx) lit)
        ∙ (keeps_pending g.n m t alerts lines taken).keeps o (handed o)

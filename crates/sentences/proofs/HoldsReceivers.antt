-- The rules of the receivers, request (viii), satisfy the sentences.
-- Assumes nothing.
use Prim.Native.Nat.{ℕ, ◌+◌, ◌*◌, ◌≤◌, ◌<◌}
use mathlib.Core.Path.{◌≡◌, refl, sym, ap, ap₂, ◌∙◌}
use mathlib.Core.Logic.Iff
use mathlib.Core.Logic.{◌↔◌, inl, ⊎_elim}
use mathlib.Core.Bool.{Bool, true, false, false≢true, and-true, cond, not, ◌&&◌, ◌||◌}
use native.Mathlib.Decide.{dec_lt}
use native.Mathlib.Omega.{arith}
use borrow.Author.Tests.{lt-ltb, le-ltb}
use lib.Dec.{eqb, leb, ltb}
use Rattle.bits.specs.Bits.{word_of}
use Rattle.bits.specs.Index.{place_in, words_by}
use Rattle.bits.proofs.BitLaws.{word_of_lt}
use Rattle.bits.proofs.IndexLaws.{at_each, length_each}
use Rattle.bits.proofs.WordLaws.{place_in_each}
use Rattle.link_rules.proofs.CodeLaws.{pausing_back, busy_back}
use Rattle.link_rules.specs.Codes.{handshake_of, pausing_bit, busy_bit}
use Rattle.link_rules.specs.Pair.{rises}
use Rattle.link_rules.specs.Receiver.{is_ready, takes, asked_for, stands_after, received}
use Rattle.link_rules.specs.Timer.{is_line, open_now, age, fails, fails_alert}
use Rattle.link_rules.specs.declared.Handshake.{Handshake}
use Rattle.link_rules.specs.declared.Receiver.{Receiver}
use Rattle.link_rules.specs.declared.Turn.{Turn}
use Rattle.rules.specs.Samples.{received_by, happened, answered, receiver_after, turn_pending, asks_for, line_answered, turn_answered, timed, receiver_timed, heard}
use Rattle.rules.specs.State.{words, receiver}
use Rattle.rules.specs.Tick.{links_after}
use Rattle.rules.specs.declared.Effects.{Effects}
use Rattle.rules.specs.declared.Handler.{Handler}
use Rattle.rules.specs.declared.Sample.{Sample}
use Rattle.sentences.specs.Pairs.{FourWords}
use Rattle.sentences.specs.Raw.{positive, negative, pausing, busy, level, pending}
use Rattle.sentences.specs.Receivers.{Taken, PingOpen, Answers, Event, TurnAnswered, Fails, AlertFails, Handshaken, Pinged, Received}
use Rattle.sentences.proofs.HoldsLinePings.{line_answered_is}
use Rattle.sentences.proofs.HoldsSenders.{linked}
use Rattle.sentences.proofs.HoldsTurns.{cond_is, age_is, line_is, alerts_is, turn_open_is, open_now_is, asked_is}
use Rattle.sentences.proofs.SentenceCases.{off, eq_is, lt_is, not_is, denied, and_is, and_then, or_is, then}

-- words that are made place by place
pub four_words : (f : ℕ → Bool) → FourWords (words_by 4 f)
four_words f =
    record {
      many = length_each 4 (λ v. word_of 64 (λ b. f (v * 64 + b)));
      fits = λ v l.
          let e = at_each 4 (λ v. word_of 64 (λ b. f (v * 64 + b))) v 0 l in
          let b = word_of_lt 64 (λ b. f (v * 64 + b)) in rw e (omega (arith, b));
    }

-- ── one receiver ──

ready_is : (p b : Bool) → (is_ready (handshake_of p b) ≡ true) ↔ ((p ≡ false) × (b ≡ false))
ready_is false false = (λ _. (refl, refl), λ _. refl)
ready_is false true = (λ t. absurd (false≢true t), λ d. absurd (false≢true (sym d.1)))
ready_is true false = (λ t. absurd (false≢true t), λ d. absurd (false≢true (sym d.0)))
ready_is true true = (λ t. absurd (false≢true t), λ d. absurd (false≢true (sym d.0)))

high_is : (p m : Bool) → (rises p m ≡ true) ↔ ((p ≡ true) × (m ≡ false))
high_is p m = and_is p (not m) Iff.rfl (not_is m)

equal_stands : (t : Handshake) (p m : Bool) → p ≡ m → stands_after t p m ≡ t
unfolding stands_after
equal_stands t true true e = refl
equal_stands t true false e = absurd (false≢true (sym e))
equal_stands t false true e = absurd (false≢true e)
equal_stands t false false e = refl

not_self : (b : Bool) → ¬ (not b ≡ b)
not_self true e = false≢true e
not_self false e = false≢true (sym e)

-- ── what alert i's receiver is given in a tick ──

-- the timer asks for its ping
abbrev asked : Handler → Sample → Effects → ℕ → Bool
asked g s f i = place_in (asks_for g s f) i

module _ (g : Handler) (s : Sample) (f : Effects) (i : ℕ) where
  taken_is : ((ltb i g.n && takes (receiver g i).stands (positive s.alerts i) (negative s.alerts i)) ≡ true) ↔ Taken g s i
  taken_is =
      let p = positive s.alerts i in
      let m = negative s.alerts i in
      let e = and_is (ltb i g.n) (takes (receiver g i).stands p m) (lt_is i g.n)
      (and_is (is_ready (receiver g i).stands) (rises p m) (ready_is (pausing g i) (busy g i)) (high_is p m)) in
      then e (λ d. (d.0, d.1.0, d.1.1), λ d. (d.0, (d.1, d.2)))

  open_is : i < 256 → ((asked g s f i || pending g i) ≡ true) ↔ PingOpen g f i
  open_is l = or_is (asked g s f i) (pending g i) (asked_is g s f i l) Iff.rfl

  -- (a && b) && c and a && (b && c)
  regroup : (a b c : Bool) → (a && (b && c)) ≡ ((a && b) && c)
  regroup true b c = refl
  regroup false b c = refl

  abbrev is_open : Bool
  is_open = asked g s f i || pending g i

  abbrev is_taken : Bool
  is_taken = takes (receiver g i).stands (positive s.alerts i) (negative s.alerts i)

  pub event_is : i < 256 → (happened g (asks_for g s f) s.alerts i ≡ true) ↔ Event g s f i
  unfolding happened received asked_for
  event_is l =
      let e = and_is (ltb i g.n && is_taken) (not is_open) taken_is (denied is_open (open_is l)) in
      (λ x. e.0 (sym (regroup (ltb i g.n) is_taken (not is_open)) ∙ x), λ d. regroup (ltb i g.n) is_taken (not is_open) ∙ e.1 d)

  pub answers_is : i < 256 → (answered g (asks_for g s f) s.alerts i ≡ true) ↔ Answers g s f i
  unfolding answered received asked_for
  answers_is l =
      let e = and_is (ltb i g.n && is_taken) is_open taken_is (open_is l) in
      (λ x. e.0 (sym (regroup (ltb i g.n) is_taken is_open) ∙ x), λ d. regroup (ltb i g.n) is_taken is_open ∙ e.1 d)

  -- of every number, since none at N and above is an alert
  answers_any : g.n ≤ 248 → (answered g (asks_for g s f) s.alerts i ≡ true) ↔ Answers g s f i
  unfolding answered
  answers_any m = go (dec_lt i g.n)
    where
      go : Dec (i < g.n) → (answered g (asks_for g s f) s.alerts i ≡ true) ↔ Answers g s f i
      go (yes l) = answers_is (omega arith)
      go (no n) =
          let z : g.n ≤ i = omega arith in (
            λ e. absurd (false≢true (sym (ap (λ (b : Bool). b && (received_by g (asks_for g s f) s.alerts i).answer) (le-ltb i g.n z)) ∙ e)),
            λ d. absurd (n d.0.0),
          )

-- ── the turn's ping is answered, or fails ──

module _ (g : Handler) (s : Sample) (f : Effects) (m : g.n ≤ 248) where
  abbrev t : Turn
  t = g.links.turn

  pub turn_answered_is : (turn_answered g s f ≡ true) ↔ TurnAnswered g s f
  turn_answered_is =
      cond_is (is_line t) (line_answered g s f) (answered g (asks_for g s f) s.alerts t.alert) (line_is g) (alerts_is g) (line_answered_is g s f)
      (answers_any g s f t.alert m)

  module _ (u : g.timer.timeout ≤ 65535) where
    pub fails_is : (fails (timed g s f) t ≡ true) ↔ Fails g s f
    unfolding fails
    fails_is =
        let w = g.timer.timeout in
        let e = and_is (open_now (timed g s f) t) (not (turn_answered g s f) && (ltb 0 w && leb w (age (timed g s f) t))) (open_now_is g s f (turn_answered g s f))
        (and_is (not (turn_answered g s f)) (ltb 0 w && leb w (age (timed g s f) t)) (denied (turn_answered g s f) turn_answered_is)
        (and_then (ltb 0 w) (leb w (age (timed g s f) t)) (lt_is 0 w) (λ z. age_is (turn_pending g) w t.count u z))) in
        then e (
          λ d. ((d.0.0, (turn_open_is g).0 d.1.1.1.0), (d.1.0, (d.1.1.0, d.1.1.1.1))),
          λ d. ((d.0.0, inl d.0.1), (d.1.0, (d.1.1.0, ((turn_open_is g).1 d.0.1, d.1.1.1)))),
        )

    pub alert_fails_is : (i : ℕ) → ((fails_alert (timed g s f) t && eqb i t.alert) ≡ true) ↔ AlertFails g s f i
    alert_fails_is i =
        let e = and_is (fails_alert (timed g s f) t) (eqb i t.alert) (and_is (fails (timed g s f) t) (not (is_line t)) fails_is (alerts_is g)) (eq_is i t.alert) in
        then e (λ d. (d.0.0, (d.0.1, d.1)), λ d. ((d.0, d.1.0), d.1.1))

-- ── the receivers after the tick, whatever the lines of step 5 and the state after step 4 are ──

module _ (g : Handler) (s : Sample) (f : Effects) (lit : ℕ) (z : Handler) (m : g.n ≤ 248) (u : g.timer.timeout ≤ 65535) where
  abbrev h : Handler
  h = linked g s f lit z

  abbrev next : ℕ → Receiver
  next i = receiver_after g (asks_for g s f) s.alerts i

  -- every bit of the four words
  pausing_at : (i : ℕ) → i < 256 → pausing h i ≡ pausing_bit (next i).stands
  unfolding heard links_after receiver_timed
  pausing_at i l = place_in_each words (λ j. pausing_bit (next j).stands) i l

  busy_at : (i : ℕ) → i < 256 → busy h i ≡ busy_bit (next i).stands
  unfolding heard links_after receiver_timed
  busy_at i l = place_in_each words (λ j. busy_bit (next j).stands) i l

  level_at : (i : ℕ) → i < 256 → level h i ≡ (next i).level
  unfolding heard links_after receiver_timed
  level_at i l = place_in_each words (λ j. (next j).level) i l

  -- its ping fails
  abbrev failing : ℕ → Bool
  failing i = fails_alert (timed g s f) g.links.turn && eqb i g.links.turn.alert

  pending_at : (i : ℕ) → i < 256 → pending h i ≡ ((next i).pending && not (ltb i g.n && failing i))
  unfolding heard links_after receiver_timed
  pending_at i l = place_in_each words (λ j. (next j).pending && not (ltb j g.n && failing j)) i l

  next_above : (i : ℕ) → g.n ≤ i → next i ≡ receiver g i
  unfolding receiver_after
  next_above i l = ap (λ (t : Bool). cond t (received_by g (asks_for g s f) s.alerts i).receiver (receiver g i)) (le-ltb i g.n l)

  next_below : (i : ℕ) → i < g.n → next i ≡ (received_by g (asks_for g s f) s.alerts i).receiver
  unfolding receiver_after
  next_below i l = ap (λ (t : Bool). cond t (received_by g (asks_for g s f) s.alerts i).receiver (receiver g i)) (lt-ltb i g.n l)

  -- where it stands below N, by where it stood and the wires
  stands_below : (i : ℕ) → i < g.n → (next i).stands ≡ stands_after (receiver g i).stands (positive s.alerts i) (negative s.alerts i)
  unfolding received asked_for
  stands_below i l = ap (λ (r : Receiver). r.stands) (next_below i l)

  moves : {p b x y : Bool} (i : ℕ) → i < g.n → (pausing g i ≡ p) × (busy g i ≡ b) → (positive s.alerts i ≡ x) × (negative s.alerts i ≡ y)
      → (pausing h i ≡ pausing_bit (stands_after (handshake_of p b) x y)) × (busy h i ≡ busy_bit (stands_after (handshake_of p b) x y))
  moves {p} {b} {x} {y} i l d w =
      let q : i < 256 = omega (arith, m) in
      let e : (next i).stands ≡ stands_after (handshake_of p b) x y =
      stands_below i l ∙ ap₂ (λ (c : Bool) (a : Bool). stands_after (handshake_of c a) (positive s.alerts i) (negative s.alerts i)) d.0 d.1
      ∙ ap₂ (λ (c : Bool) (a : Bool). stands_after (handshake_of p b) c a) w.0 w.1 in
      (pausing_at i q ∙ ap pausing_bit e, busy_at i q ∙ ap busy_bit e)

  handshakes : Handshaken g s h
  unfolding stands_after
  handshakes =
      record {
        raised = λ i t. moves i t.0 t.1 t.2;
        at_rest = λ i l d w. moves i l d w;
        held = λ i l d w. moves i l d w;
        dropped = λ i l d w. moves i l d w;
        first = λ i l d. ⊎_elim (λ w. moves i l d w) (λ w. moves i l d w);
        second = λ i l d. ⊎_elim (λ w. moves i l d w) (λ w. moves i l d w);
        equal_pausing = λ i l e.
            pausing_at i (omega (arith, m)) ∙ ap pausing_bit (stands_below i l ∙ equal_stands (receiver g i).stands (positive s.alerts i) (negative s.alerts i) e)
            ∙ pausing_back (pausing g i) (busy g i);
        equal_busy = λ i l e.
            busy_at i (omega (arith, m)) ∙ ap busy_bit (stands_below i l ∙ equal_stands (receiver g i).stands (positive s.alerts i) (negative s.alerts i) e)
            ∙ busy_back (pausing g i) (busy g i);
      }

  -- its ping below N
  level_below : (i : ℕ) → i < g.n → (a o : Bool) → asked g s f i ≡ a → pending g i ≡ o → level h i ≡ cond (a && not o) (not (level g i)) (level g i)
  unfolding received asked_for
  level_below i l a o x y =
      level_at i (omega (arith, m)) ∙ ap (λ (r : Receiver). r.level) (next_below i l)
      ∙ ap₂ (λ (a : Bool) (o : Bool). cond (a && not o) (not (level g i)) (level g i)) x y

  abbrev taken : ℕ → Bool
  taken i = takes (receiver g i).stands (positive s.alerts i) (negative s.alerts i)

  pending_below : (i : ℕ) → i < g.n → pending h i ≡ (((asked g s f i || pending g i) && not (ltb i g.n && taken i)) && not (failing i))
  unfolding received asked_for
  pending_below i l =
      pending_at i (omega (arith, m)) ∙ ap (λ (b : Bool). (next i).pending && not (b && failing i)) (lt-ltb i g.n l)
      ∙ ap (λ (r : Receiver). r.pending && not (failing i)) (next_below i l)
      ∙ ap (λ (t : Bool). ((asked g s f i || pending g i) && not (t && taken i)) && not (failing i)) (sym (lt-ltb i g.n l))

  -- by its three tests
  left_open : (i : ℕ) → i < g.n → (o t b : Bool) → (asked g s f i || pending g i) ≡ o → (ltb i g.n && taken i) ≡ t → failing i ≡ b
      → pending h i ≡ ((o && not t) && not b)
  left_open i l o t b x y z =
      pending_below i l ∙ ap₂ (λ (o : Bool) (t : Bool). (o && not t) && not (failing i)) x y ∙ ap (λ (b : Bool). (o && not t) && not b) z

  failed : (a : Bool) → (a && false) ≡ false
  failed true = refl
  failed false = refl

  pings : Pinged g s f h
  pings =
      record {
        changes = λ i l x y e. not_self (level g i) (sym (level_below i l true false ((asked_is g s f i (omega (arith, m))).1 x) y) ∙ e);
        while_open = λ i l y. while_open i l (asked g s f i) refl y;
        unasked = λ i l x. level_below i l false (pending g i) (off (asked g s f i) (asked_is g s f i (omega (arith, m))) x) refl;
        opens = λ i l o n k.
            left_open i l true false false ((open_is g s f i (omega (arith, m))).1 o) (off (ltb i g.n && taken i) (taken_is g s f i) n)
            (off (failing i) (alert_fails_is g s f m u i) k);
        closes = λ i d.
            let l : i < g.n = d.0.0 in
            left_open i l true true (failing i) ((open_is g s f i (omega (arith, m, l))).1 d.1) ((taken_is g s f i).1 d.0) refl;
        fails = λ i l k.
            left_open i l (asked g s f i || pending g i) (ltb i g.n && taken i) true refl refl ((alert_fails_is g s f m u i).1 k)
            ∙ failed ((asked g s f i || pending g i) && not (ltb i g.n && taken i));
        none_open = λ i l n.
            left_open i l false (ltb i g.n && taken i) (failing i) (off (asked g s f i || pending g i) (open_is g s f i (omega (arith, m))) n) refl refl;
      }
    where
      while_open : (i : ℕ) → i < g.n → (a : Bool) → asked g s f i ≡ a → pending g i ≡ true → level h i ≡ level g i
      while_open i l true x y = level_below i l true true x y
      while_open i l false x y = level_below i l false true x y

  pub holds_receivers : Received g s f h
  unfolding heard links_after receiver_timed
  holds_receivers =
      record {
        handshake = handshakes;
        pings = pings;
        pausing_above = λ i l b. pausing_at i b ∙ ap (λ (r : Receiver). pausing_bit r.stands) (next_above i l) ∙ pausing_back (pausing g i) (busy g i);
        busy_above = λ i l b. busy_at i b ∙ ap (λ (r : Receiver). busy_bit r.stands) (next_above i l) ∙ busy_back (pausing g i) (busy g i);
        level_above = λ i l b. level_at i b ∙ ap (λ (r : Receiver). r.level) (next_above i l);
        pending_above = λ i l b.
            pending_at i b ∙ ap (λ (c : Bool). (next i).pending && not (c && failing i)) (le-ltb i g.n l) ∙ and-true (next i).pending
            ∙ ap (λ (r : Receiver). r.pending) (next_above i l);
        pausing_words = four_words (λ i. pausing_bit (next i).stands);
        busy_words = four_words (λ i. busy_bit (next i).stands);
        level_words = four_words (λ i. (next i).level);
        pending_words = four_words (λ i. (next i).pending && not (ltb i g.n && failing i));
      }

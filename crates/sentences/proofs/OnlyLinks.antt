-- No sentence of the links is missing: whatever satisfies them gives one result. Nothing here knows the rules' definitions.
-- Assumes nothing.
use Prim.Native.Nat.{ℕ, ◌≤◌, ◌<◌}
use mathlib.Core.Path.{◌≡◌, refl, sym, ap, ◌∙◌}
use mathlib.Core.Logic.{◌↔◌, ◌≢◌, inl, inr, ⊎_elim}
use mathlib.Core.Bool.{Bool, true, false, Bool-discrete}
use native.Mathlib.Omega.{arith}
use native.Mathlib.Decide.{dec_lt, ℕ_discrete}
use Rattle.bits.proofs.BitLaws.{bit_ext}
use Rattle.link_rules.specs.declared.Turn.{Turn}
use Rattle.rules.specs.declared.Effects.{Effects}
use Rattle.rules.specs.declared.Handler.{Handler}
use Rattle.rules.specs.declared.Sample.{Sample}
use Rattle.sentences.specs.Links.{Linked, LinkStep}
use Rattle.sentences.specs.Raw.{positive, negative, pausing, busy, level, pending, line_pending, line_on, line_first, pair_last, pair_deep, right_answer}
use Rattle.sentences.specs.Receivers.{Taken, PingOpen, AlertFails, Received}
use Rattle.sentences.specs.Senders.{PairOn, ToAnswer, Sent}
use Rattle.sentences.specs.Timer.{Ends, Drawn, GoesOn, Timed}
use Rattle.sentences.specs.Turns.{LinesTurn, turn_line, Runs, TurnOpen, Opens, Asked, OpenNow}
use Rattle.sentences.specs.Valid.{Valid}
use Rattle.sentences.proofs.OnlySamples.{same_bits, same_four}
use Rattle.sentences.proofs.SentenceCases.{either, same_two, same_test}

-- ── receivers ──

-- two bits that both differ from a third
both_other : (a b c : Bool) → a ≢ c → b ≢ c → a ≡ b
both_other true true c x y = refl
both_other true false true x y = absurd (x refl)
both_other true false false x y = absurd (y refl)
both_other false true true x y = absurd (y refl)
both_other false true false x y = absurd (x refl)
both_other false false c x y = refl

module _ (g : Handler) (s : Sample) (f : Effects) (h k : Handler) (a : Received g s f h) (b : Received g s f k) where
  -- where alert i's receiver stands below N, by where it stood and the wires
  same_stands : (i : ℕ) → i < g.n → (pausing h i ≡ pausing k i) × (busy h i ≡ busy k i)
  same_stands i l = go (pausing g i) (busy g i) (positive s.alerts i) (negative s.alerts i) refl refl refl refl
    where
      equal : positive s.alerts i ≡ negative s.alerts i → (pausing h i ≡ pausing k i) × (busy h i ≡ busy k i)
      equal e = (
        a.handshake.equal_pausing i l e ∙ sym (b.handshake.equal_pausing i l e),
        a.handshake.equal_busy i l e ∙ sym (b.handshake.equal_busy i l e),
      )

      go : (p q x y : Bool) → pausing g i ≡ p → busy g i ≡ q → positive s.alerts i ≡ x → negative s.alerts i ≡ y → (pausing h i ≡ pausing k i) × (busy h i ≡ busy k i)
      go p q true true c d e f = equal (e ∙ sym f)
      go p q false false c d e f = equal (e ∙ sym f)
      go false false true false c d e f = same_two (a.handshake.raised i (l, (c, d), (e, f))) (b.handshake.raised i (l, (c, d), (e, f)))
      go false false false true c d e f = same_two (a.handshake.at_rest i l (c, d) (e, f)) (b.handshake.at_rest i l (c, d) (e, f))
      go false true true false c d e f = same_two (a.handshake.held i l (c, d) (e, f)) (b.handshake.held i l (c, d) (e, f))
      go false true false true c d e f = same_two (a.handshake.dropped i l (c, d) (e, f)) (b.handshake.dropped i l (c, d) (e, f))
      go true true true false c d e f = same_two (a.handshake.first i l (c, d) (inl (e, f))) (b.handshake.first i l (c, d) (inl (e, f)))
      go true true false true c d e f = same_two (a.handshake.first i l (c, d) (inr (e, f))) (b.handshake.first i l (c, d) (inr (e, f)))
      go true false true false c d e f = same_two (a.handshake.second i l (c, d) (inl (e, f))) (b.handshake.second i l (c, d) (inl (e, f)))
      go true false false true c d e f = same_two (a.handshake.second i l (c, d) (inr (e, f))) (b.handshake.second i l (c, d) (inr (e, f)))

  same_level : (i : ℕ) → i < g.n → level h i ≡ level k i
  same_level i l =
      either {A = Asked g f i} (Bool-discrete (level h i) (level k i)) (λ x. go x (pending g i) refl) (λ n. a.pings.unasked i l n ∙ sym (b.pings.unasked i l n))
    where
      go : Asked g f i → (y : Bool) → pending g i ≡ y → level h i ≡ level k i
      go x true e = a.pings.while_open i l e ∙ sym (b.pings.while_open i l e)
      go x false e = both_other (level h i) (level k i) (level g i) (a.pings.changes i l x e) (b.pings.changes i l x e)

  same_pending : (i : ℕ) → i < g.n → pending h i ≡ pending k i
  same_pending i l =
      let same = Bool-discrete (pending h i) (pending k i) in
      either {A = PingOpen g f i} same
      (λ o. either {A = Taken g s i} same (λ t. a.pings.closes i (t, o) ∙ sym (b.pings.closes i (t, o)))
      (λ n. either {A = AlertFails g s f i} same (λ x. a.pings.fails i l x ∙ sym (b.pings.fails i l x))
      (λ x. a.pings.opens i l o n x ∙ sym (b.pings.opens i l o n x))))
      (λ n. a.pings.none_open i l n ∙ sym (b.pings.none_open i l n))

  -- all 256 places, those at N and above too
  everywhere : (d : Handler → ℕ → Bool) → ((i : ℕ) → i < g.n → d h i ≡ d k i) → ((i : ℕ) → g.n ≤ i → i < 256 → d h i ≡ d g i)
      → ((i : ℕ) → g.n ≤ i → i < 256 → d k i ≡ d g i) → (i : ℕ) → i < 256 → d h i ≡ d k i
  everywhere d x y z i l = go (dec_lt i g.n)
    where
      go : Dec (i < g.n) → d h i ≡ d k i
      go (yes m) = x i m
      go (no m) = let u : g.n ≤ i = omega arith in y i u l ∙ sym (z i u l)

  pub same_receivers : h.links.receivers ≡ k.links.receivers
  same_receivers = λ j.
      record {
        pausing =
            same_four h.links.receivers.pausing k.links.receivers.pausing a.pausing_words b.pausing_words
            (everywhere pausing (λ i l. (same_stands i l).0) a.pausing_above b.pausing_above) j;
        busy =
            same_four h.links.receivers.busy k.links.receivers.busy a.busy_words b.busy_words
            (everywhere busy (λ i l. (same_stands i l).1) a.busy_above b.busy_above) j;
        level =
            same_four h.links.receivers.level k.links.receivers.level a.level_words b.level_words
            (everywhere level same_level a.level_above b.level_above) j;
        pending =
            same_four h.links.receivers.pending k.links.receivers.pending a.pending_words b.pending_words
            (everywhere pending same_pending a.pending_above b.pending_above) j;
      }

-- ── the ping timer ──

same_drawn : (s : Sample) (h k : Handler) → Drawn s h → Drawn s k → h.links.turn.number ≡ k.links.turn.number → h.links.turn ≡ k.links.turn
same_drawn s h k a b e = λ i.
    record { number = e i; alert = (a.alert ∙ sym b.alert) i; count = (a.count ∙ sym b.count) i }

module _ (g : Handler) (s : Sample) (f : Effects) (lit : ℕ) (h k : Handler) (a : Timed g s f lit h) (b : Timed g s f lit k) where
  same_count : Runs g f → GoesOn g f h → GoesOn g f k → h.links.turn.count ≡ k.links.turn.count
  same_count r x y =
      let same = ℕ_discrete h.links.turn.count k.links.turn.count in
      either {A = TurnOpen g} same (λ o. go o (dec_lt g.links.turn.count 65535))
      (λ n. either {A = Opens g f} same (λ o. x.opened o ∙ sym (y.opened o)) (λ m. closed (λ o. ⊎_elim n m o.1)))
    where
      go : TurnOpen g → Dec (g.links.turn.count < 65535) → h.links.turn.count ≡ k.links.turn.count
      go o (yes l) = x.older o l ∙ sym (y.older o l)
      go o (no l) = let m : 65535 ≤ g.links.turn.count = omega arith in x.oldest o m ∙ sym (y.oldest o m)

      closed : ¬ OpenNow g f → h.links.turn.count ≡ k.links.turn.count
      closed n = omega (arith, x.nearer n, y.nearer n)

  same_going : Runs g f → GoesOn g f h → GoesOn g f k → h.links.turn ≡ k.links.turn
  same_going r x y = λ i.
      record { number = (x.number ∙ sym y.number) i; alert = (x.alert ∙ sym y.alert) i; count = same_count r x y i }

  -- an end that is not decided, field by field
  same_running : Runs g f → h.links.turn ≡ k.links.turn
  same_running r = λ i. record { number = by (λ t. t.number) i; alert = by (λ t. t.alert) i; count = by (λ t. t.count) i }
    where
      by : (d : Turn → ℕ) → d h.links.turn ≡ d k.links.turn
      by d =
          either {A = Ends g s f lit} (ℕ_discrete (d h.links.turn) (d k.links.turn))
          (λ e. ap d (same_drawn s h k (a.next r e) (b.next r e) (a.following r e ∙ sym (b.following r e))))
          (λ e. ap d (same_going r (a.goes_on r e) (b.goes_on r e)))

  pub same_turn : h.links.turn ≡ k.links.turn
  same_turn = go f.begins (ℕ_discrete g.timer.enable 1) refl
    where
      go : (c : Bool) → Dec (g.timer.enable ≡ 1) → f.begins ≡ c → h.links.turn ≡ k.links.turn
      go true d e = same_drawn s h k (a.begins e) (b.begins e) (a.first e ∙ sym (b.first e))
      go false (yes d) e = same_running (d, e)
      go false (no d) e = a.off e (λ r. d r.0) ∙ sym (b.off e (λ r. d r.0))

  same_line : (e : ℕ) → e < 32 → line_pending h e ≡ line_pending k e
  same_line e l =
      either {A = LinesTurn g × (e ≡ turn_line g)} (Bool-discrete (line_pending h e) (line_pending k e))
      (λ o. ap (line_pending h) o.1 ∙ same_test (line_pending h (turn_line g)) (line_pending k (turn_line g)) (a.turn_line_law o.0) (b.turn_line_law o.0) ∙ ap (line_pending k) (sym o.1))
      (λ n. a.other_line e l n ∙ sym (b.other_line e l n))

  pub same_lines : h.links.lines ≡ k.links.lines
  same_lines = bit_ext 32 h.links.lines k.links.lines (omega (arith, a.line_bits)) (omega (arith, b.line_bits)) same_line

-- ── the senders ──

module _ (g : Handler) (f : Effects) (lit : ℕ) (h k : Handler) (a : Sent g f lit h) (b : Sent g f lit k) where
  -- where line e's sound receiver stands, by where it stood and the pair
  same_place : (e : ℕ) → e < 4 → pair_deep h e ≡ pair_deep k e
  same_place e l =
      either {A = PairOn g f lit e} (Bool-discrete (pair_deep h e) (pair_deep k e)) (λ p. on p (pair_last g e) (pair_deep g e) refl refl)
      (λ n. off n (pair_last g e) (pair_deep g e) refl refl)
    where
      on : PairOn g f lit e → (c d : Bool) → pair_last g e ≡ c → pair_deep g e ≡ d → pair_deep h e ≡ pair_deep k e
      on p true true x y = (same_two (a.longer e l (x, y) p) (b.longer e l (x, y) p)).1
      on p true false x y = (same_two (a.two_ticks e l (x, y) p) (b.two_ticks e l (x, y) p)).1
      on p false true x y = (same_two (a.in_ping e l (x, y) p) (b.in_ping e l (x, y) p)).1
      on p false false x y = (same_two (a.one_tick e l (x, y) p) (b.one_tick e l (x, y) p)).1

      off : ¬ PairOn g f lit e → (c d : Bool) → pair_last g e ≡ c → pair_deep g e ≡ d → pair_deep h e ≡ pair_deep k e
      off n true true x y = (same_two (a.off e l (x, y) n) (b.off e l (x, y) n)).1
      off n true false x y = (same_two (a.ping e l (x, y) n) (b.ping e l (x, y) n)).1
      off n false true x y = (same_two (a.ping_over e l (x, y) n) (b.ping_over e l (x, y) n)).1
      off n false false x y = (same_two (a.at_rest e l (x, y) n) (b.at_rest e l (x, y) n)).1

  same_answer : (e : ℕ) → e < 4 → right_answer h e ≡ right_answer k e
  same_answer e l =
      either {A = ToAnswer g f lit e} (Bool-discrete (right_answer h e) (right_answer k e))
      (λ o. both_other (right_answer h e) (right_answer k e) (right_answer g e) (a.toggles e l o) (b.toggles e l o))
      (λ n. a.silent e l n ∙ sym (b.silent e l n))

  pub same_senders : h.links.senders ≡ k.links.senders
  same_senders = λ i.
      record {
        on =
            same_bits h.links.senders.on k.links.senders.on a.on_bits b.on_bits
            (λ e l. same_test (line_on h e) (line_on k e) (a.on e l) (b.on e l)) i;
        first =
            same_bits h.links.senders.first k.links.senders.first a.first_bits b.first_bits
            (λ e l. same_test (line_first h e) (line_first k e) (a.first e l) (b.first e l)) i;
        last =
            same_bits h.links.senders.last k.links.senders.last a.last_bits b.last_bits
            (λ e l. same_test (pair_last h e) (pair_last k e) (a.pair e l) (b.pair e l)) i;
        deep = same_bits h.links.senders.deep k.links.senders.deep a.deep_bits b.deep_bits same_place i;
        answer = same_bits h.links.senders.answer k.links.senders.answer a.answer_bits b.answer_bits same_answer i;
      }

-- ── the state after the tick ──

-- two numbers up to 1 of which a word says when they are 1
same_flag : {P : Type 0} (x y : ℕ) → x ≤ 1 → y ≤ 1 → (x ≡ 1) ↔ P → (y ≡ 1) ↔ P → x ≡ y
same_flag {P} x y l m p q =
    either {A = P} (ℕ_discrete x y) (λ o. p.1 o ∙ sym (q.1 o))
    (λ n. let u : ¬ (x ≡ 1) = λ (e : x ≡ 1). n (p.0 e) in let v : ¬ (y ≡ 1) = λ (e : y ≡ 1). n (q.0 e) in omega (arith, u, v))

module _ (g : Handler) (s : Sample) (f : Effects) (lit : ℕ) (m h k : Handler) (a : Linked g s f lit m h) (b : Linked g s f lit m k) where
  pub same_linked : h ≡ k
  same_linked = λ i.
      record {
        n = (a.n ∙ sym b.n) i;
        links = record {
          receivers = same_receivers g s f h k a.receivers b.receivers i;
          turn = same_turn g s f lit h k a.timer_turn b.timer_turn i;
          lines = same_lines g s f lit h k a.timer_turn b.timer_turn i;
          senders = same_senders g f lit h k a.senders b.senders i;
          right = same_flag h.links.right k.links.right a.right_bit b.right_bit a.right b.right i;
        };
        classes = (a.classes ∙ sym b.classes) i;
        alerts = (a.alerts ∙ sym b.alerts) i;
        locals = (a.locals ∙ sym b.locals) i;
        interrupts = (a.interrupts ∙ sym b.interrupts) i;
        timer = (a.timer ∙ sym b.timer) i;
        stages = (a.stages ∙ sym b.stages) i;
      }

-- two functions that satisfy the sentences are one
pub only_links : (p q : Handler → Sample → Effects → ℕ → Handler → Handler) → LinkStep p → LinkStep q
    → (g : Handler) (s : Sample) (f : Effects) (lit : ℕ) (m : Handler) → Valid g → p g s f lit m ≡ q g s f lit m
only_links p q x y g s f lit m v = same_linked g s f lit m (p g s f lit m) (q g s f lit m) (x g s f lit m v) (y g s f lit m v)

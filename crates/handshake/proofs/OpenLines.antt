-- Requests (ix) and (xi): the ping of one line in a list of ticks, from its opening to its answer, its failing or an escalation.
-- Assumes nothing.
use Prim.Native.Nat.{ℕ, suc, ◌<◌}
use mathlib.Core.Path.{◌≡◌, refl, sym, ap, ap₂, ◌∙◌}
use mathlib.Core.Logic.{◌⊎◌, inl, inr}
use mathlib.Core.Bool.{Bool, true, false, false≢true, cond, not, or-true, ◌&&◌, ◌||◌}
use mathlib.Core.List.{List}
use borrow.Author.Tests.{eqb-true, not-true}
use lib.Dec.{eqb, ltb, leb}
use lib.ListN.{length}
use Rattle.bits.proofs.IndexLaws.{and-true}
use Rattle.bits.specs.Bits.{bit}
use Rattle.escalation.proofs.ListTicks.{at, input, at_next}
use Rattle.laws.proofs.Tick.Turns.{met_runs, met_pending, after_line}
use Rattle.laws.proofs.Valid.ValidLaws.{facts}
use Rattle.laws.specs.Pinging.{meets_in}
use Rattle.link_rules.proofs.Owned
use Rattle.link_rules.specs.Pings.{line_after}
use Rattle.link_rules.specs.Timer.{is_line, line_of, opens, open_now, age, fails, ends, owns_line}
use Rattle.link_rules.specs.declared.Meets.{Meets}
use Rattle.link_rules.specs.declared.Turn.{Turn}
use Rattle.rules.specs.Valid.{valid}
use Rattle.rules.specs.declared.Handler.{Handler}
use Rattle.rules.specs.declared.Input.{Input}
use Rattle.handshake.specs.Pings.{meets_at, turn_at, lines_turn, line_opens, line_fails, line_answered, line_closes, line_open_before, line_open_in, OneLine}
use Rattle.handshake.proofs.Closing
use Rattle.handshake.proofs.TimerTicks.{good, enable_fits}
use Rattle.handshake.proofs.TurnSteps.{was_shut}

-- ── one tick of the timer, and the ping of line e: it was open or not ──

-- r the timer runs, p the turn's ping is open before, z its count is 0, g it can be opened, a it is answered, f it fails, c an escalation closes it
table : (r p z g a f c : Bool) → (p ≡ true → r ≡ true)
    → ((r && (p || ((r && (not p && z)) && g)))
    && not (((r && (not p && z)) && not ((r && (not p && z)) && g)) || ((r && (p || ((r && (not p && z)) && g))) && (a || (f || c)))))
    ≡ ((((((r && (not p && z)) && g) && true) || p) && not (a && true)) && not ((f && true) || (c && true)))
table false true z g a f c k = absurd (false≢true (k refl))
table false false z g a f c k = refl
table true true z g true f c k = refl
table true true z g false true c k = refl
table true true z g false false true k = refl
table true true z g false false false k = refl
table true false true true true f c k = refl
table true false true true false true c k = refl
table true false true true false false true k = refl
table true false true true false false false k = refl
table true false true false a f c k = refl
table true false false g a f c k = refl

module _ (m : Meets) (t : Turn) (e : ℕ) (was : Bool) (owned : was ≡ true → owns_line m.runs t e ≡ true) where
  -- after the tick: it is open, or opens in its turn, and is not answered, does not fail and is not closed
  abbrev after : Bool → Bool → Bool
  after own open_before = (((opens m t && own) || open_before) && not (m.answered && own)) && not ((fails m t && own) || (m.closed && own))

  in_turn : (is_line t && eqb e (line_of t)) ≡ true → m.pending ≡ was → line_after m t was e ≡ after (is_line t && eqb e (line_of t)) was
  unfolding open_now opens ends
  in_turn c p =
      let runs : m.pending ≡ true → m.runs ≡ true = λ w. (and-true m.runs (is_line t && eqb e (line_of t)) (owned (sym p ∙ w))).0 in
      ap (λ (b : Bool). cond b (open_now m t && not (ends m t)) was) c
      ∙ table m.runs m.pending (eqb t.count 0) (is_line t || m.pingable) m.answered (fails m t) m.closed runs
      ∙ sym (ap (λ (x : Bool). after x was) c ∙ ap (after true) (sym p))

  -- another's: it is not open
  not_own : (is_line t && eqb e (line_of t)) ≡ false → line_after m t was e ≡ after (is_line t && eqb e (line_of t)) was
  not_own o = ap (λ (b : Bool). cond b (open_now m t && not (ends m t)) was) o ∙ shut ∙ sym none
    where
      shut : was ≡ false
      shut = Owned.is_false was (λ w. sym o ∙ (and-true m.runs (is_line t && eqb e (line_of t)) (owned w)).1)

      rest : (a b : Bool) → (((a && false) || false) && b) ≡ false
      rest true b = refl
      rest false b = refl

      none : after (is_line t && eqb e (line_of t)) was ≡ false
      none =
          ap₂ (λ (x y : Bool). (((opens m t && x) || y) && not (m.answered && x)) && not ((fails m t && x) || (m.closed && x))) o shut
          ∙ ap (λ (b : Bool). b && not ((fails m t && false) || (m.closed && false))) (rest (opens m t) (not (m.answered && false)))

-- ── one line in a list ──

-- in its turn the timer finds it open exactly if it is
pending_is : (h : Handler) (x : Input) (e : ℕ) → is_line h.links.turn ≡ true → e ≡ line_of h.links.turn → (meets_in h x).pending ≡ bit h.links.lines e
pending_is h x e c d = met_pending h x ∙ rw (c, ← d) refl

module _ (h : Handler) (xs : List Input) (v : valid h ≡ true) (e : ℕ) (l : e < 4) where
  -- it fails, or an escalation closes it
  abbrev shuts : ℕ → Bool
  shuts t = line_fails h xs e t || line_closes h xs e t

  -- its ping after the tick
  next : (t : ℕ) → t < length xs → line_open_before h xs e (suc t) ≡ ((line_open_in h xs e t && not (line_answered h xs e t)) && not (shuts t))
  next t m =
      ap (λ (g : Handler). bit g.links.lines e) (at_next h xs v t m) ∙ after_line (at h xs t) (input xs t) e l
      ∙ go (lines_turn h xs e t) refl
    where
      owned : line_open_before h xs e t ≡ true → owns_line (meets_at h xs t).runs (turn_at h xs t) e ≡ true
      owned w =
          ap (λ (b : Bool). owns_line b (turn_at h xs t) e) (met_runs (at h xs t) (input xs t) (enable_fits h xs v t))
          ∙ (facts (at h xs t) (good h xs v t)).pings.line e l w

      go : (c : Bool) → lines_turn h xs e t ≡ c
          → line_after (meets_at h xs t) (turn_at h xs t) (line_open_before h xs e t) e ≡ ((line_open_in h xs e t && not (line_answered h xs e t)) && not (shuts t))
      go true c =
          let k = and-true (is_line (turn_at h xs t)) (eqb e (line_of (turn_at h xs t))) c in
          in_turn (meets_at h xs t) (turn_at h xs t) e (line_open_before h xs e t) owned c
          (pending_is (at h xs t) (input xs t) e k.0 (eqb-true e (line_of (turn_at h xs t)) k.1))
      go false c = not_own (meets_at h xs t) (turn_at h xs t) e (line_open_before h xs e t) owned c

  -- it opens where it is not open
  opened : (t : ℕ) → line_opens h xs e t ≡ true → line_open_before h xs e t ≡ false
  opened t o =
      let q = and-true (opens (meets_at h xs t) (turn_at h xs t)) (is_line (turn_at h xs t) && eqb e (line_of (turn_at h xs t))) o in
      let r = and-true (is_line (turn_at h xs t)) (eqb e (line_of (turn_at h xs t))) q.1 in
      sym (pending_is (at h xs t) (input xs t) e r.0 (eqb-true e (line_of (turn_at h xs t)) r.1)) ∙ was_shut (meets_at h xs t) (turn_at h xs t) q.0

  -- what fails is open and not answered
  module _ (t : ℕ) (f : line_fails h xs e t ≡ true) where
    broken : (fails (meets_at h xs t) (turn_at h xs t) ≡ true) × (lines_turn h xs e t ≡ true)
    broken = and-true (fails (meets_at h xs t) (turn_at h xs t)) (lines_turn h xs e t) f

    own : (is_line (turn_at h xs t) ≡ true) × (eqb e (line_of (turn_at h xs t)) ≡ true)
    own = and-true (is_line (turn_at h xs t)) (eqb e (line_of (turn_at h xs t))) broken.1

    halves : (open_now (meets_at h xs t) (turn_at h xs t) ≡ true) × ((meets_at h xs t).answered ≡ false)
    unfolding fails
    halves =
        let late : Bool = ltb 0 (meets_at h xs t).timeout && leb (meets_at h xs t).timeout (age (meets_at h xs t) (turn_at h xs t)) in
        let p = and-true (open_now (meets_at h xs t) (turn_at h xs t)) (not (meets_at h xs t).answered && late) broken.0 in
        (p.0, not-true (meets_at h xs t).answered (and-true (not (meets_at h xs t).answered) late p.1).0)

    unanswered : line_answered h xs e t ≡ false
    unanswered = ap (λ (b : Bool). b && lines_turn h xs e t) halves.1

    was_open : line_open_in h xs e t ≡ true
    unfolding open_now
    was_open = go (Owned.or-true (meets_at h xs t).pending (opens (meets_at h xs t) (turn_at h xs t)) (and-true (meets_at h xs t).runs _ halves.0).1)
      where
        go : ((meets_at h xs t).pending ≡ true) ⊎ (opens (meets_at h xs t) (turn_at h xs t) ≡ true) → line_open_in h xs e t ≡ true
        go (inl p) =
            ap (λ (b : Bool). line_opens h xs e t || b)
            (sym (pending_is (at h xs t) (input xs t) e own.0 (eqb-true e (line_of (turn_at h xs t)) own.1)) ∙ p)
            ∙ or-true (line_opens h xs e t)
        go (inr o) = ap (λ (b : Bool). b || line_open_before h xs e t) (ap₂ ◌&&◌ o broken.1)

  pub one_line : OneLine h xs e
  one_line =
      record {
        opened = λ t m. opened t;
        failed = λ t m f. (was_open t f, unanswered t f);
        stays = λ t u m o b n f c.
            Closing.stays (length xs) (line_opens h xs e) (line_open_before h xs e) (line_answered h xs e) shuts next t u m o b n
            (λ w i j. ap₂ ◌||◌ (f w i j) (c w i j));
        closed = Closing.closed (length xs) (line_opens h xs e) (line_open_before h xs e) (line_answered h xs e) shuts next;
      }

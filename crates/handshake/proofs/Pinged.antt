-- Request (ix), what the ping timer does with one alert below N in one tick: whose ping it opens, and what it is that fails.
-- Assumes nothing.
use Prim.Native.Nat.{ℕ, ◌≤◌, ◌<◌}
use mathlib.Core.Path.{◌≡◌, refl, sym, ap, ap₂, ◌∙◌}
use mathlib.Core.Logic.{◌⊎◌, inl, inr}
use mathlib.Core.Bool.{Bool, true, false, true≢false, and-false, cond, not, or-true, ◌&&◌, ◌||◌}
use native.Mathlib.Omega.{arith}
use borrow.Author.Tests.{eqb-true, lt-ltb, not-true}
use lib.Dec.{eqb, ltb, leb}
use Rattle.bits.proofs.IndexLaws.{and-true}
use Rattle.laws.proofs.Samples.Heard.{heard_answer_law}
use Rattle.laws.proofs.Samples.Receivers.{acted_links, happens_in_law, answered_in_law}
use Rattle.laws.proofs.Tick.Turns.{met_pending}
use Rattle.laws.specs.Pinging.{meets_in, asks_in, fails_in}
use Rattle.link_rules.proofs.Owned
use Rattle.link_rules.specs.LinePing.{closed_by_line}
use Rattle.link_rules.specs.Receiver.{takes, asked_for, received}
use Rattle.link_rules.specs.Sender.{closes}
use Rattle.link_rules.specs.Timer.{is_line, line_of, is_due, opens, open_now, age, fails}
use Rattle.link_rules.specs.declared.Turn.{Turn}
use Rattle.rules.specs.Access.{value, acted, effects}
use Rattle.rules.specs.Samples.{positive, negative, answered, asks_for, line_answered, pingable, alert_enabled}
use Rattle.rules.specs.State.{most, alert, receiver, sender}
use Rattle.rules.specs.Tick.{lines, driven, closed_now, hears, happens_in, answered_in, reached}
use Rattle.rules.specs.declared.Field.{Field}
use Rattle.rules.specs.declared.Handler.{Handler}
use Rattle.rules.specs.declared.Heard.{Heard}
use Rattle.rules.specs.declared.Input.{Input}
use Rattle.rules.specs.declared.Links.{Links}
use Rattle.rules.specs.declared.Register.TheVariants.{Alert}

-- an answer that does not come while a ping is open: no rise is taken
not_taken : (t o : Bool) → o ≡ true → (t && o) ≡ false → ((t && not o) || (t && o)) ≡ false
not_taken true true e f = absurd (true≢false f)
not_taken true false e f = sym e
not_taken false o e f = refl

module _ (h : Handler) (x : Input) (i : ℕ) (m : h.n ≤ most) (l : i < h.n) where
  abbrev turn : Turn
  turn = h.links.turn

  abbrev g : Handler
  g = acted h x.access

  -- it is this alert's turn
  abbrev IsTurn : Type 0
  IsTurn = (is_line turn ≡ false) × (i ≡ turn.alert)

  is_turn : (not (is_line turn) && eqb i turn.alert) ≡ true → IsTurn
  is_turn e = let p = and-true (not (is_line turn)) (eqb i turn.alert) e in (not-true (is_line turn) p.0, eqb-true i turn.alert p.1)

  -- an answer to the turn's ping is one to its own
  pub answered_is : IsTurn → (meets_in h x).answered ≡ answered_in h x i
  unfolding hears
  answered_is t =
      ap
      (λ (b : Bool). cond b (line_answered g x.sample (effects h x.access))
      (answered g (asks_for g x.sample (effects h x.access)) x.sample.alerts g.links.turn.alert))
      (ap (λ (z : Links). is_line z.turn) (acted_links h x.access) ∙ t.0)
      ∙ ap (answered g (asks_for g x.sample (effects h x.access)) x.sample.alerts)
      (ap (λ (z : Links). z.turn.alert) (acted_links h x.access) ∙ sym t.1)
      ∙ sym (heard_answer_law g x.sample (effects h x.access) i (omega (arith, m, l)))

  -- no escalation closes it
  pub unclosed : is_line turn ≡ false → (meets_in h x).closed ≡ false
  unfolding closed_now closed_by_line
  unclosed t =
      let v : Heard = hears h x in
      let d : Bool = open_now v.meets g.links.turn && closes (sender g (line_of g.links.turn)) (driven g v (lines (reached h x)) (line_of g.links.turn)) in
      ap (λ (b : Bool). v.checked && (b && d)) (ap (λ (z : Links). is_line z.turn) (acted_links h x.access) ∙ t) ∙ and-false v.checked

  -- the timer finds its ping open exactly if it is
  pending_is : IsTurn → (meets_in h x).pending ≡ (receiver h i).pending
  pending_is t =
      met_pending h x ∙ rw (t.0, ← t.1) (ap (λ (b : Bool). b && (receiver h i).pending) (lt-ltb i h.n l))

  module _ (a : asks_in h x i ≡ true) where
    pub parts : (opens (meets_in h x) turn ≡ true) × IsTurn
    parts =
        let p = and-true (opens (meets_in h x) turn) (not (is_line turn) && eqb i turn.alert) a in
        (p.0, is_turn p.1)

    due : (is_due (meets_in h x) turn ≡ true) × ((is_line turn || (meets_in h x).pingable) ≡ true)
    unfolding opens
    due = and-true (is_due (meets_in h x) turn) (is_line turn || (meets_in h x).pingable) parts.0

    -- no ping of it is open
    pub fresh : (receiver h i).pending ≡ false
    fresh =
        let p = and-true (meets_in h x).runs (not (meets_in h x).pending && eqb turn.count 0) due.0 in
        let q = and-true (not (meets_in h x).pending) (eqb turn.count 0) p.1 in
        sym (pending_is parts.1) ∙ not-true (meets_in h x).pending q.0

    -- and it is "locked and enabled"
    pub is_pingable : (value g (Alert Field.Regwen i) ≡ 0) × (value g (Alert Field.En i) ≡ 1)
    unfolding value
    is_pingable =
        let p : pingable g ≡ true = ap (λ (b : Bool). b || pingable g) (sym parts.1.0) ∙ due.1 in
        let c : g.links.turn.alert ≡ i = ap (λ (z : Links). z.turn.alert) (acted_links h x.access) ∙ sym parts.1.1 in
        let q = and-true (ltb g.links.turn.alert g.n) (eqb (alert g Field.Regwen g.links.turn.alert) 0 && alert_enabled g g.links.turn.alert) p in
        let r = and-true (eqb (alert g Field.Regwen g.links.turn.alert) 0) (alert_enabled g g.links.turn.alert) q.1 in (
          ap (alert g Field.Regwen) (sym c) ∙ eqb-true (alert g Field.Regwen g.links.turn.alert) 0 r.0,
          ap (alert g Field.En) (sym c) ∙ eqb-true (alert g Field.En g.links.turn.alert) 1 r.1,
        )

  module _ (f : fails_in h x i ≡ true) where
    broken : (fails (meets_in h x) turn ≡ true) × IsTurn
    broken =
        let p = and-true (fails (meets_in h x) turn && not (is_line turn)) (eqb i turn.alert) f in
        let q = and-true (fails (meets_in h x) turn) (not (is_line turn)) p.0 in
        (q.0, (not-true (is_line turn) q.1, eqb-true i turn.alert p.1))

    halves : (open_now (meets_in h x) turn ≡ true) × ((meets_in h x).answered ≡ false)
    unfolding fails
    halves =
        let late : Bool = ltb 0 (meets_in h x).timeout && leb (meets_in h x).timeout (age (meets_in h x) turn) in
        let p = and-true (open_now (meets_in h x) turn) (not (meets_in h x).answered && late) broken.0 in
        (p.0, not-true (meets_in h x).answered (and-true (not (meets_in h x).answered) late p.1).0)

    -- its ping is open
    pub was_open : (asks_in h x i || (receiver h i).pending) ≡ true
    unfolding open_now
    was_open = go (Owned.or-true (meets_in h x).pending (opens (meets_in h x) turn) (and-true (meets_in h x).runs _ halves.0).1)
      where
        go : ((meets_in h x).pending ≡ true) ⊎ (opens (meets_in h x) turn ≡ true) → (asks_in h x i || (receiver h i).pending) ≡ true
        go (inl e) = ap (λ (b : Bool). asks_in h x i || b) (sym (pending_is broken.1) ∙ e) ∙ or-true (asks_in h x i)
        go (inr e) =
            ap (λ (b : Bool). (b && (not (is_line turn) && eqb i turn.alert)) || (receiver h i).pending) e
            ∙ ap (λ (b : Bool). b || (receiver h i).pending)
            (ap₂ (λ (b c : Bool). not b && c) broken.1.0 (and-true (fails (meets_in h x) turn && not (is_line turn)) (eqb i turn.alert) f).1)

    unanswered : answered_in h x i ≡ false
    unanswered = sym (answered_is broken.1) ∙ halves.1

    -- and no rise is taken
    pub none_taken : (happens_in h x i || answered_in h x i) ≡ false
    unfolding received asked_for
    none_taken =
        ap₂ ◌||◌ (happens_in_law h x i m l) (answered_in_law h x i m l)
        ∙ not_taken (takes (receiver h i).stands (positive x.sample.alerts i) (negative x.sample.alerts i))
        (asks_in h x i || (receiver h i).pending) was_open (sym (answered_in_law h x i m l) ∙ unanswered)

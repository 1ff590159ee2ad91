-- The rules of the ping of the turn's line on its wires, request (xi), say what the sentences say.
-- Assumes nothing.
use Prim.Native.Nat.{ℕ, ◌+◌, ◌<◌}
use mathlib.Core.Path.{◌≡◌, refl, sym, ap, ◌∙◌, subst}
use mathlib.Core.Logic.Iff
use mathlib.Core.Logic.{◌↔◌, ◌⊎◌, inl, inr, ⊎_elim}
use mathlib.Core.Bool.{Bool, true, false, false≢true, cond, not, ◌&&◌, ◌||◌}
use native.Mathlib.Decide.{dec_lt}
use native.Mathlib.Omega.{arith}
use borrow.Author.Tests.{lt-ltb, le-ltb}
use lib.Dec.{eqb, ltb}
use Rattle.bits.specs.Bits.{bit}
use Rattle.link_rules.proofs.CodeLaws.{last_back}
use Rattle.link_rules.specs.LinePing.{right_before, answered_by_wires, right_after, closed_by_line}
use Rattle.link_rules.specs.Sender.{closes, still_right, is_answered}
use Rattle.link_rules.specs.Timer.{is_line, line_of, opens, open_now, age}
use Rattle.link_rules.specs.declared.Meets.{Meets}
use Rattle.link_rules.specs.declared.Turn.{Turn}
use Rattle.rules.specs.Samples.{checks, says_answered, turn_pending, line_wrong, before, was_right, line_answered, turn_answered, timed, heard}
use Rattle.rules.specs.State.{sender}
use Rattle.rules.specs.Tick.{driven, closed_now}
use Rattle.rules.specs.declared.Effects.{Effects}
use Rattle.rules.specs.declared.Handler.{Handler}
use Rattle.rules.specs.declared.Receive.{Receive}
use Rattle.rules.specs.declared.Receive.TheVariants.{Pairs, Answers}
use Rattle.rules.specs.declared.Sample.{Sample}
use Rattle.sentences.specs.LinePings.{RightBefore, RightNow, LineAnswered, Escalated}
use Rattle.sentences.specs.Raw.{pair_last, pair_deep}
use Rattle.sentences.specs.Senders.{Wrong}
use Rattle.sentences.specs.Turns.{turn_line, Runs, TurnOpen, Opens, OpenNow}
use Rattle.sentences.proofs.HoldsSenders.{checked_is, wrong_is, ping_is}
use Rattle.sentences.proofs.HoldsTurns.{line_is, turn_open_is, opens_is, open_now_is}
use Rattle.sentences.proofs.SentenceCases.{same_word, eq_is, denied, and_then, and_is, or_is, then}

-- ── the ticks since the ping opened, which stay at 65,535: this is the fourth; it is the one in which it opens ──

abbrev since : Bool → ℕ → ℕ
since b c = cond b (cond (ltb c 65535) (c + 1) 65535) 0

fourth_is : (b : Bool) (c : ℕ) → (eqb (since b c) 4 ≡ true) ↔ ((b ≡ true) × (c + 1 ≡ 4))
fourth_is true c = go (dec_lt c 65535)
  where
    Is : Bool → Type 0
    Is e = (eqb (cond e (c + 1) 65535) 4 ≡ true) ↔ ((true ≡ true) × (c + 1 ≡ 4))

    go : Dec (c < 65535) → Is (ltb c 65535)
    go (yes l) = subst Is (sym (lt-ltb c 65535 l)) (then (eq_is (c + 1) 4) (λ d. (refl, d), λ d. d.1))
    go (no n) = subst Is (sym (le-ltb c 65535 (omega arith))) (λ e. absurd (false≢true e), λ d. absurd (omega (arith, d.1, n)))
fourth_is false c = (λ e. absurd (false≢true e), λ d. absurd (false≢true d.0))

opening_is : (b : Bool) (c : ℕ) → (eqb (since b c) 0 ≡ true) ↔ (¬ (b ≡ true))
opening_is true c = go (dec_lt c 65535)
  where
    Is : Bool → Type 0
    Is e = (eqb (cond e (c + 1) 65535) 0 ≡ true) ↔ (¬ (true ≡ true))

    go : Dec (c < 65535) → Is (ltb c 65535)
    go (yes l) = subst Is (sym (lt-ltb c 65535 l)) (then (eq_is (c + 1) 0) (λ d _. omega (arith, d), λ n. absurd (n refl)))
    go (no n) = subst Is (sym (le-ltb c 65535 (omega arith))) (λ e _. false≢true e, λ n. absurd (n refl))
opening_is false c = (λ _ e. false≢true e, λ _. refl)

-- ── in a tick ──

module _ (g : Handler) (s : Sample) (f : Effects) where
  abbrev t : Turn
  t = g.links.turn

  abbrev m : Meets
  m = before g s f

  abbrev is_wrong : Bool
  is_wrong = line_wrong g s (line_of t)

  wrong_line_is : (is_wrong ≡ true) ↔ Wrong g s.receive (turn_line g)
  unfolding line_wrong
  wrong_line_is = wrong_is g s.receive (turn_line g)

  -- the answers were right and this one is, or none is due yet
  abbrev Still : Type 0
  Still = (Opens g f ⊎ RightBefore g) × ((¬ TurnOpen g) ⊎ (¬ Wrong g s.receive (turn_line g)))

  still_is : (still_right (age m t) (right_before m t (was_right g)) is_wrong ≡ true) ↔ Still
  still_is =
      and_is (opens m t || was_right g) (eqb (age m t) 0 || not is_wrong) (or_is (opens m t) (was_right g) (opens_is g s f false) Iff.rfl)
      (or_is (eqb (age m t) 0) (not is_wrong)
      (then (opening_is (turn_pending g) t.count) (λ n o. n ((turn_open_is g).1 o), λ n o. n ((turn_open_is g).0 o)))
      (denied is_wrong wrong_line_is))

  -- where the ping was open before the tick
  older : TurnOpen g → Still → RightBefore g × ¬ Wrong g s.receive (turn_line g)
  older o d = (
    ⊎_elim (λ (p : Opens g f). absurd (p.0.1.0 o)) (λ (r : RightBefore g). r) d.0,
    ⊎_elim (λ (n : ¬ TurnOpen g). absurd (n o)) (λ (w : ¬ Wrong g s.receive (turn_line g)). w) d.1,
  )

  by_wires_is : (answered_by_wires m t (was_right g) is_wrong ≡ true)
      ↔ ((Runs g f × TurnOpen g) × ((t.count + 1 ≡ 4) × (RightBefore g × ¬ Wrong g s.receive (turn_line g))))
  unfolding answered_by_wires
  by_wires_is =
      let e = and_is (open_now m t) (is_answered (age m t) (right_before m t (was_right g)) is_wrong) (open_now_is g s f false)
      (and_is (eqb (age m t) 4) (still_right (age m t) (right_before m t (was_right g)) is_wrong) (fourth_is (turn_pending g) t.count) still_is) in
      then e (
        λ d. let o = (turn_open_is g).0 d.1.0.0 in ((d.0.0, o), (d.1.0.1, older o d.1.1)),
        λ d. ((d.0.0, inl d.0.1), (((turn_open_is g).1 d.0.1, d.1.0), (inr d.1.1.0, inr d.1.1.1))),
      )

  pub line_answered_is : (line_answered g s f ≡ true) ↔ LineAnswered g f s.receive
  line_answered_is = go s.receive refl
    where
      go : (r : Receive) → s.receive ≡ r
          → (cond (checks r) (answered_by_wires m t (was_right g) is_wrong) (open_now m t && says_answered r (line_of t)) ≡ true) ↔ LineAnswered g f r
      go (Pairs p n) e =
          subst (λ (r : Receive). (answered_by_wires m t (was_right g) is_wrong ≡ true) ↔ ((Runs g f × TurnOpen g) × ((t.count + 1 ≡ 4) × (RightBefore g × ¬ Wrong g r (turn_line g))))) e by_wires_is
      go (Answers a) e = and_is (open_now m t) (bit a (line_of t)) (open_now_is g s f false) Iff.rfl

  -- the ping was open before the tick and its answers are right
  abbrev Going : Type 0
  Going = (Runs g f × TurnOpen g) × (RightBefore g × ¬ Wrong g s.receive (turn_line g))

  pub right_is : ((heard g s f).right ≡ true) ↔ RightNow g f s.receive
  unfolding heard right_after
  right_is =
      and_is (checks s.receive) _ (checked_is s.receive)
      (and_is (is_line t) _ (line_is g)
      (then (and_is (open_now m t) (still_right (age m t) (right_before m t (was_right g)) is_wrong) (open_now_is g s f false) still_is)
      (to, ⊎_elim from_opens from_open)))
    where
      to : OpenNow g f × Still → Opens g f ⊎ Going
      to d = ⊎_elim (λ (o : TurnOpen g). inr ((d.0.0, o), older o d.1)) inl d.0.1

      from_opens : Opens g f → OpenNow g f × Still
      from_opens o = ((o.0.0, inr o), (inl o, inl o.0.1.0))

      from_open : Going → OpenNow g f × Still
      from_open d = ((d.0.0, inl d.0.1), (inr d.1.0, inr d.1.1))

  -- ── by the lines of step 5 ──

  closes_by : (line ping last : Bool) → (line || (ping && not (ping && (not line && not last)))) ≡ (line || (ping && last))
  closes_by true ping last = refl
  closes_by false true true = refl
  closes_by false true false = refl
  closes_by false false last = refl

  pub closed_is : (lit : ℕ) → (closed_now g (heard g s f) lit ≡ true) ↔ Escalated g f s.receive lit
  unfolding heard closed_now closed_by_line driven
  closed_is lit =
      let e = line_of t in
      let d = driven g (heard g s f) lit e in
      and_is (checks s.receive) _ (checked_is s.receive)
      (and_then (is_line t) _ (line_is g) (λ u.
      and_is (open_now (timed g s f) t) (closes (sender g e) d) (open_now_is g s f (turn_answered g s f))
      (same_word
      (ap (λ (b : Bool). bit lit e || (d.ping && not (d.ping && (not (bit lit e) && not b)))) (last_back (pair_last g e) (pair_deep g e))
      ∙ closes_by (bit lit e) d.ping (pair_last g e))
      (or_is (bit lit e) (d.ping && pair_last g e) Iff.rfl
      (and_is d.ping (pair_last g e) (then (ping_is g s f lit e) (λ p. p.0, λ p. (p, (u, refl)))) Iff.rfl)))))

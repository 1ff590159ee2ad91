-- The rules of the ping timer before the wires are read, request (ix), say what the sentences say.
-- Assumes nothing.
use Prim.Native.Nat.{ℕ, ◌+◌, ◌%◌, ◌≤◌, ◌<◌}
use mathlib.Core.Path.{◌≡◌, refl, sym, subst}
use mathlib.Core.Logic.Iff
use mathlib.Core.Logic.{◌↔◌, ◌⊎◌, inl, inr, ⊎_elim}
use mathlib.Core.Bool.{Bool, true, false, false≢true, cond, not, ◌&&◌}
use native.Mathlib.Decide.{dec_lt}
use native.Mathlib.Omega.{arith}
use borrow.Author.Tests.{leb-true, le-leb, lt-ltb, le-ltb}
use lib.Dec.{eqb, leb, ltb}
use Rattle.bits.specs.Bits.{bit}
use Rattle.bits.specs.Index.{place_in}
use Rattle.bits.proofs.WordLaws.{place_in_each}
use Rattle.link_rules.specs.Pings.{asks}
use Rattle.link_rules.specs.Timer.{is_line, line_of, is_due, opens, open_now}
use Rattle.link_rules.specs.declared.Turn.{Turn}
use Rattle.rules.specs.Samples.{alert_enabled, pingable, turn_pending, meets, before, asks_for}
use Rattle.rules.specs.State.{words, alert, receiver, is_on}
use Rattle.rules.specs.declared.Effects.{Effects}
use Rattle.rules.specs.declared.Field.{Field}
use Rattle.rules.specs.declared.Handler.{Handler}
use Rattle.rules.specs.declared.Sample.{Sample}
use Rattle.sentences.specs.Turns.{AlertsTurn, LinesTurn, Runs, TurnOpen, Due, LockedEnabled, Opens, Asked, OpenNow}
use Rattle.sentences.proofs.SentenceCases.{eq_is, le_is, lt_is, not_is, denied, and_is, or_is, then}

-- one of two tests, by a third
pub cond_is : {P Q A B : Type 0} (c a b : Bool) → (c ≡ true) ↔ P → (not c ≡ true) ↔ Q → (a ≡ true) ↔ A → (b ≡ true) ↔ B
    → (cond c a b ≡ true) ↔ ((P × A) ⊎ (Q × B))
cond_is true a b p q x y = (λ e. inl (p.0 refl, x.0 e), ⊎_elim (λ d. x.1 d.1) (λ d. absurd (false≢true (q.1 d.0))))
cond_is false a b p q x y = (λ e. inr (q.0 refl, y.0 e), ⊎_elim (λ d. absurd (false≢true (p.1 d.0))) (λ d. y.1 d.1))

-- the ticks since a ping opened, which stay at 65,535, have reached the timeout t
pub age_is : (b : Bool) (t c : ℕ) → t ≤ 65535 → 0 < t → (leb t (cond b (cond (ltb c 65535) (c + 1) 65535) 0) ≡ true) ↔ ((b ≡ true) × (t ≤ c + 1))
age_is true t c u z = go (dec_lt c 65535)
  where
    Is : Bool → Type 0
    Is e = (leb t (cond e (c + 1) 65535) ≡ true) ↔ ((true ≡ true) × (t ≤ c + 1))

    go : Dec (c < 65535) → Is (ltb c 65535)
    go (yes l) = subst Is (sym (lt-ltb c 65535 l)) (then (le_is t (c + 1)) (λ d. (refl, d), λ d. d.1))
    go (no n) =
        let l : 65535 ≤ c = omega arith in
        subst Is (sym (le-ltb c 65535 l)) (λ e. (refl, omega arith), λ d. le-leb t 65535 u)
age_is false t c u z = (λ e. absurd (omega (arith, leb-true t 0 e)), λ d. absurd (false≢true d.0))

-- ── the turn of the state g after step 1 ──

module _ (g : Handler) where
  abbrev t : Turn
  t = g.links.turn

  pub line_is : (is_line t ≡ true) ↔ LinesTurn g
  line_is = eq_is (t.number % 2) 1

  pub alerts_is : (not (is_line t) ≡ true) ↔ AlertsTurn g
  alerts_is =
      then (denied (is_line t) line_is) (
        λ (n : ¬ (t.number % 2 ≡ 1)). omega arith,
        λ (e : t.number % 2 ≡ 0) (d : t.number % 2 ≡ 1). omega arith,
      )

  pub turn_open_is : (turn_pending g ≡ true) ↔ TurnOpen g
  turn_open_is =
      cond_is (is_line t) (bit g.links.lines (line_of t)) (ltb t.alert g.n && (receiver g t.alert).pending) line_is alerts_is Iff.rfl
      (and_is (ltb t.alert g.n) (receiver g t.alert).pending (lt_is t.alert g.n) Iff.rfl)

  pingable_is : (pingable g ≡ true) ↔ LockedEnabled g
  pingable_is =
      and_is (ltb t.alert g.n) (eqb (alert g Field.Regwen t.alert) 0 && alert_enabled g t.alert) (lt_is t.alert g.n)
      (and_is (eqb (alert g Field.Regwen t.alert) 0) (alert_enabled g t.alert) (eq_is (alert g Field.Regwen t.alert) 0) (eq_is (alert g Field.En t.alert) 1))

-- ── with the sample s and what step 1 hands on; x says whether the turn's ping is answered, which nothing here reads ──

module _ (g : Handler) (s : Sample) (f : Effects) where
  pub runs_is : ((is_on g && not f.begins) ≡ true) ↔ Runs g f
  runs_is = and_is (is_on g) (not f.begins) (eq_is g.timer.enable 1) (not_is f.begins)

  module _ (x : Bool) where
    pub due_is : (is_due (meets g s f x) g.links.turn ≡ true) ↔ Due g f
    due_is =
        and_is (is_on g && not f.begins) (not (turn_pending g) && eqb g.links.turn.count 0) runs_is
        (and_is (not (turn_pending g)) (eqb g.links.turn.count 0) (denied (turn_pending g) (turn_open_is g)) (eq_is g.links.turn.count 0))

    pub opens_is : (opens (meets g s f x) g.links.turn ≡ true) ↔ Opens g f
    unfolding opens
    opens_is = and_is (is_due (meets g s f x) g.links.turn) _ due_is (or_is (is_line g.links.turn) (pingable g) (line_is g) (pingable_is g))

    pub open_now_is : (open_now (meets g s f x) g.links.turn ≡ true) ↔ OpenNow g f
    unfolding open_now
    open_now_is =
        and_is (is_on g && not f.begins) _ runs_is (or_is (turn_pending g) (opens (meets g s f x) g.links.turn) (turn_open_is g) opens_is)

  -- the alert that is asked for its ping
  pub asked_is : (i : ℕ) → i < 256 → (place_in (asks_for g s f) i ≡ true) ↔ Asked g f i
  asked_is i l =
      subst (λ (b : Bool). (b ≡ true) ↔ Asked g f i) (sym (place_in_each words (asks (before g s f) g.links.turn) i l))
      (and_is (opens (before g s f) g.links.turn) (not (is_line g.links.turn) && eqb i g.links.turn.alert) (opens_is false)
      (and_is (not (is_line g.links.turn)) (eqb i g.links.turn.alert) (alerts_is g) (eq_is i g.links.turn.alert)))

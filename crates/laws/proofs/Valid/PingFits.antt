-- The part of refusal 7's test that speaks of the ping timer, and the facts that it stands for.
-- Assumes nothing.
use Prim.Native.Nat.{ℕ}
use mathlib.Core.Path.{◌≡◌, refl}
use mathlib.Core.Bool.{Bool, true, false, false≢true, not, ◌||◌}
use borrow.Author.Tests.{lt-ltb, ltb-true}
use Rattle.bits.proofs.IndexLaws.{and-true, true_and, all_at, all_of}
use Rattle.bits.specs.Bits.{bit}
use Rattle.link_rules.specs.Pings.{Owned}
use Rattle.link_rules.specs.Timer.{owns_alert, owns_line}
use Rattle.link_rules.specs.declared.Turn.{Turn}
use Rattle.rules.specs.State.{receiver, is_on}
use Rattle.rules.specs.Valid.{timer_fits, pings_fit}
use Rattle.rules.specs.declared.Handler.{Handler}
use Rattle.rules.specs.declared.Timer.{Timer}
use Rattle.laws.specs.Facts.{TimerValid, PingsOwned}

-- ── its registers ──

pub timer_at : (t : Timer) → timer_fits t ≡ true → TimerValid t
timer_at t e =
    let a = and-true _ _ e in
    let b = and-true _ _ a.1 in
    record { regwen = ltb-true _ _ a.0; timeout = ltb-true _ _ b.0; enable = ltb-true _ _ b.1 }

pub timer_of : (t : Timer) → TimerValid t → timer_fits t ≡ true
timer_of t v = true_and (lt-ltb _ _ v.regwen) (true_and (lt-ltb _ _ v.timeout) (lt-ltb _ _ v.enable))

-- ── the open pings ──

-- a ping that is not open, or is the turn's
then_owned : (a b : Bool) → (not a || b) ≡ true → a ≡ true → b ≡ true
then_owned true b e o = e
then_owned false b e o = absurd (false≢true o)

is_owned : (a b : Bool) → (a ≡ true → b ≡ true) → (not a || b) ≡ true
is_owned true b f = f refl
is_owned false b f = refl

module _ (h : Handler) where
  abbrev alert : ℕ → Bool
  alert i = not (receiver h i).pending || owns_alert (is_on h) h.links.turn i

  abbrev line : ℕ → Bool
  line e = not (bit h.links.lines e) || owns_line (is_on h) h.links.turn e

  pub pings_at : pings_fit h ≡ true → PingsOwned h.n (is_on h) h.links
  unfolding pings_fit
  pings_at e =
      let a = and-true _ _ e in
      record {
        alert = λ i l o. then_owned _ _ (all_at alert h.n a.0 i l) o;
        line = λ k l o. then_owned _ _ (all_at line 4 a.1 k l) o;
      }

  pub pings_of : PingsOwned h.n (is_on h) h.links → pings_fit h ≡ true
  unfolding pings_fit
  pings_of p =
      true_and (all_of alert h.n (λ i l. is_owned _ _ (p.alert i l))) (all_of line 4 (λ k l. is_owned _ _ (p.line k l)))

-- what a timer may have open, it may while it is on
pub owned_on : (n : ℕ) (a b : Bool) (t : Turn) (alerts lines : ℕ → Bool) → (a ≡ true → b ≡ true) → Owned n a t alerts lines → Owned n b t alerts lines
owned_on n a b t alerts lines f o =
    record {
      alert = λ i l e. let c = and-true _ _ (o.alert i l e) in true_and (f c.0) c.1;
      line = λ k l e. let c = and-true _ _ (o.line k l e) in true_and (f c.0) c.1;
    }

-- An enabled alert's event starts its class's escalation: from Idle, with a threshold of 0 and no accepted clear.
-- Assumes nothing.
use Prim.Native.Nat.{ℕ, ◌<◌}
use mathlib.Core.Path.{◌≡◌, sym, ap, ◌∙◌, subst}
use mathlib.Core.Bool.{Bool, true, false, not, ◌&&◌, ◌||◌}
use native.Mathlib.Omega.{arith}
use borrow.Author.Tests.{eq-eqb, lt-ltb, le-leb}
use lib.Dec.{eqb, leb}
use Rattle.bits.proofs.IndexLaws.{true_and, any_at}
use Rattle.bits.specs.Index.{any_to, place_in}
use Rattle.class_rules.specs.Class.{enabled, state_of}
use Rattle.class_rules.specs.Step.{starts_from, starts}
use Rattle.class_rules.specs.declared.ClassState.{ClassState}
use Rattle.class_rules.specs.declared.ClassState.TheVariants.{Idle}
use Rattle.class_rules.specs.declared.Class.{Class}
use Rattle.class_rules.specs.declared.Signals.{Signals}
use Rattle.rules.specs.Access.{acted, clears}
use Rattle.rules.specs.Samples.{alert_event, occurs, assigned}
use Rattle.rules.specs.State.{local_count, class_count, local, alert, class_at}
use Rattle.rules.specs.Tick.{event, signals, hears, happens_in, signals_in}
use Rattle.rules.specs.declared.Field.{Field}
use Rattle.rules.specs.declared.Handler.{Handler}
use Rattle.rules.specs.declared.Heard.{Heard}
use Rattle.rules.specs.declared.Input.{Input}
use Rattle.laws.proofs.Tick.Content.{signal_clear, acted_place}
use Rattle.laws.proofs.Access.RegisterFile.{acted_n}

-- an event of an alert that is enabled in class k is an event of that class, if it is enabled
event_of : (g : Handler) (v : Heard) (i k : ℕ) → i < g.n → place_in v.events i ≡ true
    → alert g Field.En i ≡ 1 → alert g Field.Class i ≡ k → enabled (class_at g k) ≡ true → event g v k ≡ true
unfolding event assigned alert_event
event_of g v i k l r e c n =
    true_and
    (ap (λ (b : Bool). b || any_to (λ j. occurs g v j && eqb (local g Field.Class j) k) local_count)
    (any_at (λ j. alert_event g v j && eqb (alert g Field.Class j) k) g.n i l
    (true_and (true_and (lt-ltb i g.n l) (true_and r (eq-eqb (alert g Field.En i) 1 e))) (eq-eqb (alert g Field.Class i) k c))))
    n

-- and from Idle a start, at a threshold of 0 and with no clear
starts_by : (s : Signals) (c : Class) → state_of c.state ≡ Idle → s.event ≡ true → s.clear ≡ false → c.thresh ≡ 0 → starts s c ≡ true
unfolding starts_from
starts_by s c d e f t =
    ap (λ (m : ClassState). starts_from m s c) d
    ∙ true_and e (true_and (ap not f) (ap (λ (x : ℕ). leb x c.accum) t ∙ le-leb 0 c.accum (omega arith)))

module _ (h : Handler) (x : Input) (i k : ℕ) where
  abbrev g : Handler
  g = acted h x.access

  -- the alert and the class as read after step 1
  pub alert_starts : k < class_count → i < h.n → state_of (class_at h k).state ≡ Idle → happens_in h x i ≡ true → clears h x.access k ≡ false
      → alert g Field.En i ≡ 1 → alert g Field.Class i ≡ k → enabled (class_at g k) ≡ true → (class_at g k).thresh ≡ 0
      → starts (signals_in h x k) (class_at g k) ≡ true
  unfolding signals
  alert_starts l b d r f e c n t =
      starts_by (signals_in h x k) (class_at g k) (ap state_of (acted_place h x.access k l).0 ∙ d)
      (event_of g (hears h x) i k (subst (λ (m : ℕ). i < m) (sym (acted_n h x.access)) b) r e c n) (signal_clear h x k ∙ f) t

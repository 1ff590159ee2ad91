-- The start of a class's escalation: the step from Idle or Timeout to Phase 0.
-- Assumes nothing.
use Prim.Native.Nat.{ℕ, ◌+◌, ◌≤◌, ◌<◌}
use mathlib.Core.Path.{◌≡◌, refl, sym, ap, ◌∙◌}
use mathlib.Core.Logic.{◌⊎◌, inl, inr, ⊎_elim}
use mathlib.Core.Bool.{Bool, true, false, false≢true, cond, ◌&&◌, ◌||◌}
use native.Mathlib.Omega.{arith}
use borrow.Author.Tests.{leb-true}
use lib.Dec.{leb}
use Rattle.bits.specs.Index.{any_to}
use Rattle.bits.proofs.IndexLaws.{and-true, any_some}
use Rattle.class_rules.specs.Class.{en, enabled, line_enable}
use Rattle.class_rules.specs.Step.{trigger, due, at, starts_from, moved_from}
use Rattle.class_rules.specs.declared.Class.{Class}
use Rattle.class_rules.specs.declared.ClassState.{ClassState}
use Rattle.class_rules.specs.declared.ClassState.TheVariants.{Idle, Timeout, Phase0, Phase1, Phase2, Phase3, Terminal}
use Rattle.class_rules.specs.declared.Place.{Place}
use Rattle.class_rules.specs.declared.Signals.{Signals}

-- a class that has not started
abbrev pub Unstarted : ClassState → Type 0
Unstarted m = (m ≡ Idle) ⊎ (m ≡ Timeout)

or-true : (a b : Bool) → (a || b) ≡ true → (a ≡ true) ⊎ (b ≡ true)
or-true true b e = inl refl
or-true false b e = inr e

module _ (q : Signals) (c : Class) where
  -- "from Idle or Timeout"
  pub unstarted : (m : ClassState) → starts_from m q c ≡ true → Unstarted m
  unfolding starts_from
  unstarted Idle e = inl refl
  unstarted Timeout e = inr refl
  unstarted Phase0 e = absurd (false≢true e)
  unstarted Phase1 e = absurd (false≢true e)
  unstarted Phase2 e = absurd (false≢true e)
  unstarted Phase3 e = absurd (false≢true e)
  unstarted Terminal e = absurd (false≢true e)

  -- where it does not start, an unstarted class goes to Timeout or Idle
  elsewhere : (n o : ℕ) → (b : Bool) → (cond b (at Timeout n) (at Idle o)).state ≡ Phase0 → ⊥
  elsewhere n o true e = let z : ◌≡◌ {A = ℕ} 0 1 = cc in omega arith
  elsewhere n o false e = let z : ◌≡◌ {A = ℕ} 0 1 = cc in omega arith

  moves : (m : ClassState) → Unstarted m
      → (w : Place) × (moved_from m q c ≡ cond (starts_from m q c) (at Phase0 1) w) × (w.state ≡ Phase0 → ⊥)
  unfolding starts_from moved_from
  moves m u =
      ⊎_elim (λ (e : m ≡ Idle). rw e (cond (due q c) (at Timeout 1) (at Idle c.count), refl, elsewhere 1 c.count (due q c)))
      (λ (e : m ≡ Timeout). rw e (cond (due q c) (at Timeout (c.count + 1)) (at Idle 0), refl, elsewhere (c.count + 1) 0 (due q c))) u

  -- "to Phase 0"
  pub to_phase : (m : ClassState) → starts_from m q c ≡ true → moved_from m q c ≡ at Phase0 1
  to_phase m e = let r = moves m (unstarted m e) in r.1 ∙ ap (λ (b : Bool). cond b (at Phase0 1) r.0) e

  -- and nothing else takes it there
  pub is_start : (m : ClassState) → Unstarted m → (moved_from m q c).state ≡ Phase0 → starts_from m q c ≡ true
  is_start m u e = go (starts_from m q c) (ap (λ (w : Place). w.state) (sym r.1) ∙ e)
    where
      r : (w : Place) × (moved_from m q c ≡ cond (starts_from m q c) (at Phase0 1) w) × (w.state ≡ Phase0 → ⊥)
      r = moves m u

      go : (b : Bool) → (cond b (at Phase0 1) r.0).state ≡ Phase0 → b ≡ true
      go true d = refl
      go false d = absurd (r.2 d)

  -- "by a trigger, or by being due with a Timeout count at or above TIMEOUT_CYC"
  pub reason : (m : ClassState) → starts_from m q c ≡ true
      → (trigger q c ≡ true) ⊎ ((m ≡ Timeout) × (due q c ≡ true) × (c.timeout ≤ c.count))
  unfolding starts_from
  reason m e =
      ⊎_elim (λ (i : m ≡ Idle). inl (rw i at e))
      (λ (i : m ≡ Timeout).
      ⊎_elim (λ t. inl t) (λ d. let b = and-true (due q c) (leb c.timeout c.count) d in inr (i, b.0, leb-true c.timeout c.count b.1))
      (or-true (trigger q c) (due q c && leb c.timeout c.count) (rw i at e))) (unstarted m e)

  -- an event is of a class that is enabled, and so is being due; such a class has an enabled line
  pub has_line : (m : ClassState) → (q.event ≡ true → enabled c ≡ true) → starts_from m q c ≡ true → (e : ℕ) × (e < 4) × (line_enable c e ≡ true)
  has_line m of e =
      let on : enabled c ≡ true =
      ⊎_elim (λ t. of (and-true q.event _ t).0) (λ d. (and-true (enabled c) _ d.1).0) (reason m e) in
      any_some (line_enable c) 4 (and-true (en c) (any_to (line_enable c) 4) on).1

-- A class that a tick without an event and without a clear leaves as it is.
-- Assumes nothing.
use Prim.Native.Nat.{ℕ}
use mathlib.Core.Path.{◌≡◌, refl, ap, sym, ◌∙◌}
use mathlib.Core.Logic.{◌⊎◌, inl, inr, ⊎_elim}
use mathlib.Core.Bool.{Bool, true, false, false≢true, not, cond, and-false, ◌&&◌, ◌||◌}
use borrow.Author.Tests.{eqb-true}
use lib.Dec.{eqb}
use Rattle.class_rules.specs.Class.{lock, state_of, state_number, is_phase, line_enable, line_map, drives}
use Rattle.class_rules.specs.Step.{at, due, counted, starts_from, moved_from, class_step}
use Rattle.class_rules.specs.declared.Class.{Class}
use Rattle.class_rules.specs.declared.ClassState.{ClassState}
use Rattle.class_rules.specs.declared.ClassState.TheVariants.{Idle, Timeout, Terminal}
use Rattle.class_rules.specs.declared.Place.{Place}
use Rattle.class.specs.Still.{only, still}

-- with b for due
choice : (b : Bool) → not b ≡ true → b ≡ false
choice true e = absurd (false≢true e)
choice false e = refl

either : (a b c : Bool) → (a || (b && not c)) ≡ true → (a ≡ true) ⊎ ((b ≡ true) × (c ≡ false))
either true b c e = inl refl
either false true c e = inr (refl, choice c e)
either false false c e = absurd (false≢true e)

module _ (c : Class) (i : Bool) where
  terminal : c.state ≡ 3 → class_step (only i) c ≡ c
  unfolding state_of starts_from moved_from counted class_step
  terminal e =
      let m : state_of c.state ≡ Terminal = ap state_of e in
      λ t. record {
        lengths = c.lengths;
        timeout = c.timeout;
        count = (moved_from (m t) (only i) c).count;
        ctrl = c.ctrl;
        accum = c.accum;
        thresh = c.thresh;
        regwen = c.regwen;
        clrwen = cond (starts_from (m t) (only i) c && lock c) 0 c.clrwen;
        state = (ap (λ (x : ClassState). state_number (moved_from x (only i) c).state) m ∙ sym e) t;
      }

  idle : c.state ≡ 0 → due (only i) c ≡ false → class_step (only i) c ≡ c
  unfolding state_of starts_from moved_from counted class_step
  idle e d =
      let m : state_of c.state ≡ Idle = ap state_of e in
      let p : moved_from (state_of c.state) (only i) c ≡ at Idle c.count =
      ap (λ (x : ClassState). moved_from x (only i) c) m ∙ ap (λ (b : Bool). cond b (at Timeout 1) (at Idle c.count)) d in
      λ t. record {
        lengths = c.lengths;
        timeout = c.timeout;
        count = (p t).count;
        ctrl = c.ctrl;
        accum = c.accum;
        thresh = c.thresh;
        regwen = c.regwen;
        clrwen = cond (starts_from (m t) (only i) c && lock c) 0 c.clrwen;
        state = (ap (λ (x : Place). state_number x.state) p ∙ sym e) t;
      }

  -- it stays as it is
  pub still_step : still c i ≡ true → class_step (only i) c ≡ c
  still_step e = ⊎_elim (λ a. terminal (eqb-true _ _ a)) (λ b. idle (eqb-true _ _ b.0) b.1) (either (eqb c.state 3) (eqb c.state 0) (due (only i) c) e)

  no_phase : (m : ClassState) (e : ℕ) → state_of c.state ≡ m → is_phase m (line_map c e) ≡ false → drives c e ≡ false
  unfolding drives
  no_phase m e p q = ap (λ (x : ClassState). line_enable c e && is_phase x (line_map c e)) p ∙ ap (λ (b : Bool). line_enable c e && b) q ∙ and-false (line_enable c e)

  -- and drives no line
  pub still_lines : still c i ≡ true → (e : ℕ) → drives c e ≡ false
  unfolding state_of
  still_lines h e =
      ⊎_elim (λ a. no_phase Terminal e (ap state_of (eqb-true c.state 3 a)) refl) (λ b. no_phase Idle e (ap state_of (eqb-true c.state 0 b.0)) refl)
      (either (eqb c.state 3) (eqb c.state 0) (due (only i) c) h)

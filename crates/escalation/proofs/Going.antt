-- The invariant of a started escalation, of one class: c is the class as read in the tick of the start, b the class d ticks later.
-- Assumes nothing.
use Prim.Native.Nat.{ℕ, zero, suc, ◌+◌, ◌*◌, ◌<◌}
use mathlib.Core.Path.{◌≡◌, refl, sym, ap, ◌∙◌, subst}
use mathlib.Core.Logic.{◌↔◌}
use mathlib.Core.Bool.{Bool, true, false, false≢true, cond, ◌&&◌}
use native.Mathlib.Omega.{arith}
use borrow.Author.Tests.{eqb-true}
use Rattle.bits.specs.Bits.{bit, field}
use Rattle.bits.proofs.IndexLaws.{and-true, true_and}
use Rattle.class_rules.proofs.ClassLaws.{state_number_law}
use Rattle.class_rules.specs.Class.{lock, line_enable, line_map, phase_cyc, phase, is_phase, state_of, drives}
use Rattle.class_rules.specs.Step.{at, moved, starts, class_step}
use Rattle.class_rules.specs.declared.Class.{Class}
use Rattle.class_rules.specs.declared.ClassState.{ClassState}
use Rattle.class_rules.specs.declared.ClassState.TheVariants.{Idle, Timeout, Phase0, Phase1, Phase2, Phase3, Terminal}
use Rattle.class_rules.specs.declared.Signals.{Signals}
use Rattle.laws.proofs.Map.Cases.{cond_same}
use Rattle.escalation.specs.Escalation.{OfPhase}
use Rattle.escalation.proofs.Phases.{place_of, At, entered_at, next_at, in_phase_law}
use Rattle.escalation.proofs.StartLaws.{to_phase}

-- locked with CLR_REGWEN 0, the settings as they were read, and in the phase that the lengths say
pub record Going (c : Class) (d : ℕ) (b : Class) : Type 0 where
  pub regwen : b.regwen ≡ 0
  pub clrwen : b.clrwen ≡ 0
  pub ctrl : b.ctrl ≡ c.ctrl
  pub lengths : (p : ℕ) → p < 4 → phase_cyc b p ≡ phase_cyc c p
  pub place : At c d (place_of b)

-- a step's state and count
pub step_place : (q : Signals) (b : Class) → place_of (class_step q b) ≡ moved q b
unfolding class_step
step_place q b = ap (λ (m : ClassState). at m (moved q b).count) (state_number_law (moved q b).state)

-- the tick of the start, with the class locked and LOCK set
pub going_starts : (q : Signals) (c : Class) → starts q c ≡ true → c.regwen ≡ 0 → lock c ≡ true → Going c 0 (class_step q c)
unfolding class_step
going_starts q c s z l =
    record {
      regwen = z;
      clrwen = ap (λ (b : Bool). cond b 0 c.clrwen) (true_and s l);
      ctrl = refl;
      lengths = λ p h. refl;
      place = subst (At c 0) (sym (step_place q c ∙ to_phase q c (state_of c.state) s)) (entered_at c 0 0 (omega arith) refl);
    }

-- one tick more without an accepted clear, b being the class after step 1
pub going_steps : (c b : Class) (d : ℕ) (q : Signals) → q.clear ≡ false → Going c d b → Going c (suc d) (class_step q b)
unfolding class_step
going_steps c b d q e g =
    record {
      regwen = g.regwen;
      clrwen = ap (λ (n : ℕ). cond (starts q b && lock b) 0 n) g.clrwen ∙ sym (cond_same (starts q b && lock b) 0);
      ctrl = g.ctrl;
      lengths = g.lengths;
      place = subst (At c (suc d)) (sym (step_place q b)) (next_at c d q b e g.lengths g.place);
    }

-- ── what it drives ──

is_phase_law : (m : ClassState) (r : ℕ) → is_phase m r ≡ true → m ≡ phase r
is_phase_law Idle r e = absurd (false≢true e)
is_phase_law Timeout r e = absurd (false≢true e)
is_phase_law Phase0 r e = ap phase (sym (eqb-true r 0 e))
is_phase_law Phase1 r e = ap phase (sym (eqb-true r 1 e))
is_phase_law Phase2 r e = ap phase (sym (eqb-true r 2 e))
is_phase_law Phase3 r e = ap phase (sym (eqb-true r 3 e))
is_phase_law Terminal r e = absurd (false≢true e)

phase_is : (r : ℕ) → r < 4 → is_phase (phase r) r ≡ true
phase_is zero h = refl
phase_is (suc zero) h = refl
phase_is (suc (suc zero)) h = refl
phase_is (suc (suc (suc zero))) h = refl
phase_is (suc (suc (suc (suc r)))) h = absurd (omega arith)

module _ (c b : Class) (s d : ℕ) (g : Going c d b) where
  -- in phase p exactly in its ticks
  pub of_phase : (p : ℕ) → p < 4 → (state_of b.state ≡ phase p) ↔ OfPhase c s p (s + d)
  of_phase p h =
      let i = in_phase_law c d p (place_of b) h g.place in
      (λ e. let r = i.0 e in record { from = omega arith; to = omega arith }, λ (o : OfPhase c s p (s + d)). i.1 (omega (arith, o), omega (arith, o)))

  -- line e exactly where it is enabled for it and in the ticks of its mapped phase
  pub going_drives : (e : ℕ) → (drives b e ≡ true) ↔ ((line_enable c e ≡ true) × OfPhase c s (line_map c e) (s + d))
  unfolding drives
  going_drives e = (there, back)
    where
      by_ctrl : (line_enable b e && is_phase (state_of b.state) (line_map b e)) ≡ (line_enable c e && is_phase (state_of b.state) (line_map c e))
      by_ctrl = ap (λ (n : ℕ). bit n (2 + e) && is_phase (state_of b.state) (field (6 + 2 * e) 2 n)) g.ctrl

      there : (line_enable b e && is_phase (state_of b.state) (line_map b e)) ≡ true → (line_enable c e ≡ true) × OfPhase c s (line_map c e) (s + d)
      there t =
          let a = and-true (line_enable c e) (is_phase (state_of b.state) (line_map c e)) (sym by_ctrl ∙ t) in
          (a.0, (of_phase (line_map c e) (omega arith)).0 (is_phase_law (state_of b.state) (line_map c e) a.1))

      back : (line_enable c e ≡ true) × OfPhase c s (line_map c e) (s + d) → (line_enable b e && is_phase (state_of b.state) (line_map b e)) ≡ true
      back t =
          by_ctrl
          ∙ true_and t.0
          (ap (λ (m : ClassState). is_phase m (line_map c e)) ((of_phase (line_map c e) (omega arith)).1 t.1) ∙ phase_is (line_map c e) (omega arith))

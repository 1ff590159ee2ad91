-- Demand 3, "A started escalation", of every list of ticks from every state that refusal 7 does not meet.
-- It rests on these laws of the tick, and does not open it: of crate laws, Content (after_class, event_enabled, acted_place, line_is), Locks (acted_locked,
-- after_locked, after_left), Clears (no_clear), Frame (after_n), MapLaws (decode_number, decode_in_map), KeepsValid (run_valid), ValidLaws (facts),
-- Refusal7 (ticked_handler, ticked_lines), Runs (run_next, ticks_at).
-- Assumes nothing.
use Prim.Native.Nat.{ℕ, ◌-◌, ◌<◌}
use mathlib.Core.Path.{◌≡◌, sym, ap, ◌∙◌}
use mathlib.Core.Logic.{inl, inr, ⊎_elim}
use mathlib.Core.Bool.{true}
use mathlib.Core.List.{List}
use native.Mathlib.Omega.{arith}
use lib.ListN.{length}
use Rattle.class_rules.specs.Class.{state_of}
use Rattle.class_rules.specs.Step.{starts, moved}
use Rattle.class_rules.specs.declared.Class.{Class}
use Rattle.class_rules.specs.declared.ClassState.TheVariants.{Phase0}
use Rattle.class_rules.specs.declared.Place.{Place}
use Rattle.laws.proofs.Tick.Content.{after_class, event_enabled, acted_place}
use Rattle.rules.specs.State.{class_count}
use Rattle.rules.specs.Tick.{after, signals_in}
use Rattle.rules.specs.Valid.{valid}
use Rattle.rules.specs.declared.Handler.{Handler}
use Rattle.rules.specs.declared.Input.{Input}
use Rattle.escalation.specs.Escalation.{state_in, StartIs, Demand3}
use Rattle.escalation.specs.List.{IsTick, before, input_at, given_at, class_read}
use Rattle.escalation.proofs.Escalation.{escalates}
use Rattle.escalation.proofs.Going.{step_place}
use Rattle.escalation.proofs.LockLaws.{locks, stages, no_clear}
use Rattle.escalation.proofs.StartLaws.{Unstarted, unstarted, to_phase, is_start, reason, has_line}
use Rattle.escalation.proofs.ListTicks.{at_next, given_handler}

-- a start in one tick: step 1 does not move the class, and its step is what it comes to
module _ (g : Handler) (x : Input) (k : ℕ) (small : k < class_count) where
  read_state : state_of (class_read g x k).state ≡ state_in g k
  read_state = ap state_of (acted_place g x.access k small).0

  reached : state_in (after g x) k ≡ (moved (signals_in g x k) (class_read g x k)).state
  reached =
      ap (λ (c : Class). state_of c.state) (after_class g x k small)
      ∙ ap (λ (w : Place). w.state) (step_place (signals_in g x k) (class_read g x k))

  start_is : StartIs g x k (after g x)
  start_is = record {
    move = (there, back);
    line = λ e. has_line (signals_in g x k) (class_read g x k) _ (event_enabled g x k) e;
    reason = λ e. ⊎_elim (λ t. inl t) (λ r. inr (sym read_state ∙ r.0, r.1, r.2)) (reason (signals_in g x k) (class_read g x k) _ e);
  }
    where
      there : starts (signals_in g x k) (class_read g x k) ≡ true → Unstarted (state_in g k) × (state_in (after g x) k ≡ Phase0)
      there e = (
        rw read_state at (unstarted (signals_in g x k) (class_read g x k) _ e),
        reached ∙ ap (λ (w : Place). w.state) (to_phase (signals_in g x k) (class_read g x k) _ e),
      )

      back : Unstarted (state_in g k) × (state_in (after g x) k ≡ Phase0) → starts (signals_in g x k) (class_read g x k) ≡ true
      back b = is_start (signals_in g x k) (class_read g x k) _ (rw read_state b.0) (sym reached ∙ b.1)

pub demand3 : (h : Handler) (xs : List Input) → valid h ≡ true → Demand3 h xs
demand3 h xs v = record { start = start; escalation = escalates h xs v; locks = locks h xs v; stages = stages h xs v; no_clear = no_clear h xs v }
  where
    start : (first k t : ℕ) → k < class_count → IsTick first xs t → StartIs (before first h xs t) (input_at first xs t) k (given_at first h xs t).handler
    start first k t l a =
        let i : ℕ = t - first in
        let m : i < length xs = omega (arith, a.from, a.to) in
        rw (given_handler h xs v i m, at_next h xs v i m) (start_is (before first h xs t) (input_at first xs t) k l)

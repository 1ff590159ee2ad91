-- After the boot class A is Idle until it starts: TIMEOUT_CYC is 0 and locked. So the first event of an alert marked A starts it, however late it comes.
-- Assumes nothing.
use Prim.Native.Nat.{ℕ, zero, suc, ◌-◌, ◌≤◌, ◌<◌}
use mathlib.Core.Path.{◌≡◌, refl, ap, ◌∙◌}
use mathlib.Core.Bool.{Bool, true, false, cond, ◌&&◌}
use mathlib.Core.List.{List}
use native.Mathlib.Omega.{arith}
use lib.Dec.{ltb}
use lib.ListN.{length, take}
use Rattle.class_rules.specs.Class.{enabled, state_of}
use Rattle.class_rules.specs.Step.{at, starts_from, starts, moved_from}
use Rattle.class_rules.specs.declared.Class.{Class}
use Rattle.class_rules.specs.declared.ClassState.{ClassState}
use Rattle.class_rules.specs.declared.ClassState.TheVariants.{Idle, Timeout}
use Rattle.class_rules.specs.declared.Place.{Place}
use Rattle.class_rules.specs.declared.Signals.{Signals}
use Rattle.escalation.proofs.Going.{step_place}
use Rattle.escalation.proofs.ListTicks.{input, at_next}
use Rattle.escalation.proofs.ListTicks
use Rattle.escalation.specs.Escalation.{state_in}
use Rattle.escalation.specs.List.{before, input_at, class_read}
use Rattle.laws.proofs.Tick.Content.{after_class, acted_place}
use Rattle.rules.specs.Run.{run}
use Rattle.rules.specs.State.{most, new_handler}
use Rattle.rules.specs.Tick.{after, signals_in}
use Rattle.rules.specs.Valid.{valid}
use Rattle.rules.specs.declared.Handler.{Handler}
use Rattle.rules.specs.declared.Input.{Input}
use Rattle.boot_laws.specs.FromBoot.{FirstEvent, starts_in, FirstInList, UntilFirst}
use Rattle.policy.specs.Plan.{locks, boot}
use Rattle.boot_laws.specs.Stands.{Success}
use Rattle.policy.specs.Table.{alert_count}
use Rattle.policy.specs.declared.Installed.{Installed}
use Rattle.policy.specs.declared.Lifecycle.{Lifecycle}
use Rattle.boot_laws.proofs.AnyBoot.{boot_valid}
use Rattle.boot_laws.proofs.Boot.{went, new_succeeds}
use Rattle.boot_laws.proofs.After.{boot_stands}
use Rattle.boot_laws.proofs.Course.{timeout_is}
use Rattle.boot_laws.proofs.FromBoot.{from_boot}

-- one class: Idle, with no timeout, it does not start
idles : (q : Signals) (b : Class) (m : ClassState) → m ≡ Idle → b.timeout ≡ 0 → starts_from m q b ≡ false → (moved_from m q b).state ≡ Idle
unfolding moved_from
idles q b m i t e = rw i (rw (rw i at e) (late (enabled b) q.interrupt))
  where
    late : (x y : Bool) → (cond (x && (y && ltb 0 b.timeout)) (at Timeout 1) (at Idle b.count)).state ≡ Idle
    late true true = ap (λ (n : ℕ). (cond (ltb 0 n) (at Timeout 1) (at Idle b.count)).state) t
    late true false = refl
    late false y = refl

-- one tick
tick_idles : (g : Handler) (x : Input) → state_in g 0 ≡ Idle → (class_read g x 0).timeout ≡ 0 → starts (signals_in g x 0) (class_read g x 0) ≡ false
    → state_in (after g x) 0 ≡ Idle
tick_idles g x i t e =
    ap (λ (c : Class). state_of c.state) (after_class g x 0 (omega arith))
    ∙ ap (λ (p : Place). p.state) (step_place (signals_in g x 0) (class_read g x 0))
    ∙ idles (signals_in g x 0) (class_read g x 0) (state_of (class_read g x 0).state) (ap state_of (acted_place g x.access 0 (omega arith)).0 ∙ i) t e

-- ── after the boot of a new handler, along any list ──

module _ (l : Lifecycle) (n : ℕ) (c : locks l ≡ true) (a : alert_count ≤ n) (b : n ≤ most) (xs : List Input) where
  abbrev h : Handler
  h = (boot l (new_handler n)).handler

  ok : Success l (new_handler n)
  ok =
      record { register = ap (λ (r : Installed). r.register) (new_succeeds l n a b); answer = ap (λ (r : Installed). r.answer) (new_succeeds l n a b) }

  good : valid h ≡ true
  good = boot_valid l (new_handler n) (went l (new_handler n) ok).good

  idle_to : (i : ℕ) → i ≤ length xs → ((j : ℕ) → j < i → starts_in h xs j ≡ false) → state_in (ListTicks.at h xs i) 0 ≡ Idle
  unfolding run
  idle_to zero m e = (from_boot l n xs c a b).idle
  idle_to (suc i) m e =
      ap (λ (g : Handler). state_in g 0) (at_next h xs good i m)
      ∙ tick_idles (ListTicks.at h xs i) (input xs i) (idle_to i (omega arith) (λ j (k : j < i). e j (omega arith)))
      (timeout_is l c h good (boot_stands l (new_handler n) ok) (take i xs) (input xs i)) (e i (omega arith))

  is_first_law : (first s i : ℕ) → FirstInList l h xs first s i → FirstEvent l (before first h xs s) (input_at first xs s) i
  is_first_law first s i f =
      let r : s - first ≤ length xs = let t = f.is_tick.from in let u = f.is_tick.to in omega arith in
      record { idle = idle_to (s - first) r f.unstarted; is_alert = f.is_alert; marked = f.marked; occurs = f.occurs; unclear = f.unclear }

  pub until_first : UntilFirst l h xs
  until_first =
      record {
        stays_idle = idle_to;
        first_starts = λ first s i f. (from_boot l n xs c a b).start first s i f.is_tick (is_first_law first s i f);
        first_escalates = λ first s i f. (from_boot l n xs c a b).escalation first s i f.is_tick (is_first_law first s i f);
      }

-- Request (vii): a locked class whose ACCUM_THRESH is below 65535 waits for at most 65,534 events.
-- Assumes nothing.
use Prim.Native.Nat.{ℕ, zero, suc, ◌+◌, ◌≤◌, ◌<◌}
use mathlib.Core.Path.{◌≡◌, refl, sym, ap, ◌∙◌, subst}
use mathlib.Core.Logic.{◌⊎◌, inl, inr, ⊎_elim}
use mathlib.Core.Bool.{Bool, true, false, cond, not, ◌&&◌, ◌||◌}
use mathlib.Core.List.{List}
use native.Mathlib.Omega.{arith}
use native.Mathlib.Nat.{add-zero, add-suc}
use borrow.Author.Tests.{eq-eqb, lt-ltb, leb-false}
use lib.Dec.{eqb, leb, ltb}
use lib.ListN.{length}
use Rattle.bits.proofs.IndexLaws.{and-true}
use Rattle.bits.specs.Bits.{bit}
use Rattle.bits.specs.Index.{any_to}
use Rattle.class_rules.specs.Class.{en, enabled, line_enable, state_of}
use Rattle.class_rules.specs.Step.{trigger, due, at, starts_from, starts, moved_from, counted, class_step}
use Rattle.class_rules.specs.declared.Class.{Class}
use Rattle.class_rules.specs.declared.ClassState.{ClassState}
use Rattle.class_rules.specs.declared.ClassState.TheVariants.{Idle, Timeout}
use Rattle.class_rules.specs.declared.Place.{Place}
use Rattle.class_rules.specs.declared.Signals.{Signals}
use Rattle.laws.proofs.Tick.Content.{after_class, signal_clear, event_enabled, acted_place}
use Rattle.rules.specs.Access.{value, locked}
use Rattle.rules.specs.Map.{guard}
use Rattle.rules.specs.State.{class_count, class_at}
use Rattle.rules.specs.Tick.{after, signals_in}
use Rattle.rules.specs.Valid.{valid}
use Rattle.rules.specs.declared.Handler.{Handler}
use Rattle.rules.specs.declared.Input.{Input}
use Rattle.rules.specs.declared.Setting.{Setting}
use Rattle.rules.specs.declared.Setting.TheVariants.{Ctrl, AccumThresh}
use Rattle.escalation.specs.List.{class_read}
use Rattle.escalation.specs.Threshold.{events_in, StartsAt, Waiting, NoClear}
use Rattle.escalation.proofs.Escalation.{keeps}
use Rattle.escalation.proofs.Going.{step_place}
use Rattle.escalation.proofs.StartLaws.{Unstarted}
use Rattle.escalation.proofs.ListTicks
use Rattle.escalation.proofs.ListTicks.{input, at_valid, at_next}

-- ── one class: c when the counting began, b now, with m events between and no start ──

record Waits (c : Class) (m : ℕ) (b : Class) : Type 0 where
  pub regwen : b.regwen ≡ 0
  pub ctrl : b.ctrl ≡ c.ctrl
  pub thresh : b.thresh ≡ c.thresh
  pub unstarted : Unstarted (state_of b.state)
  pub counts : m ≤ b.accum
  pub below : (m ≡ 0) ⊎ ((m ≤ c.thresh) × (c.thresh < 65535))

module _ (q : Signals) (b : Class) where
  two : (n o : ℕ) (t : Bool) → Unstarted (cond t (at Timeout n) (at Idle o)).state
  two n o true = inr refl
  two n o false = inl refl

  -- where it does not start, it stays in Idle or Timeout
  stays : (m : ClassState) → Unstarted m → starts_from m q b ≡ false → Unstarted (moved_from m q b).state
  unfolding moved_from
  stays m u e =
      ⊎_elim (λ (i : m ≡ Idle). rw i (rw (rw i at e) (two 1 b.count (due q b))))
      (λ (i : m ≡ Timeout). rw i (rw (rw i at e) (two (b.count + 1) 0 (due q b)))) u

  or_left : (s t : Bool) → (s || t) ≡ false → s ≡ false
  or_left true t e = e
  or_left false t e = refl

  -- and had no trigger
  untriggered : (m : ClassState) → Unstarted m → starts_from m q b ≡ false → trigger q b ≡ false
  unfolding starts_from
  untriggered m u e =
      ⊎_elim (λ (i : m ≡ Idle). rw i at e) (λ (i : m ≡ Timeout). or_left (trigger q b) (due q b && leb b.timeout b.count) (rw i at e)) u

-- EN of a class that is enabled
en_of : (b : Class) → enabled b ≡ true → en b ≡ true
en_of b e = (and-true (en b) (any_to (line_enable b) 4) e).0

-- one tick more without clear and start, b being the class after step 1; an event is counted, and came below ACCUM_THRESH
module _ (c b : Class) (m : ℕ) (q : Signals) (safe : en c ≡ true → c.thresh < 65535) where
  waits_step : q.clear ≡ false → (q.event ≡ true → enabled b ≡ true) → starts q b ≡ false → Waits c m b
      → Waits c (cond q.event (suc m) m) (class_step q b)
  unfolding class_step counted
  waits_step nc of ns w = go q.event refl
    where
      state : Unstarted (state_of (class_step q b).state)
      state = subst Unstarted (sym (ap (λ (p : Place). p.state) (step_place q b))) (stays q b (state_of b.state) w.unstarted ns)

      quiet : (q.event && (not q.clear && leb b.thresh b.accum)) ≡ false
      quiet = untriggered q b (state_of b.state) w.unstarted ns

      go : (t : Bool) → q.event ≡ t → Waits c (cond t (suc m) m) (class_step q b)
      go false e = record {
        regwen = w.regwen;
        ctrl = w.ctrl;
        thresh = w.thresh;
        unstarted = state;
        counts = rw (nc, e) w.counts;
        below = w.below;
      }
      go true e =
          let low : b.accum < b.thresh = leb-false b.thresh b.accum (rw (e, nc) at quiet) in
          let top : c.thresh < 65535 = safe (ap (λ (n : ℕ). bit n 0) (sym w.ctrl) ∙ en_of b (of e)) in
          let z = w.thresh in
          let n = w.counts in
          let room : ltb b.accum 65535 ≡ true = lt-ltb b.accum 65535 (omega arith) in
          record {
            regwen = w.regwen;
            ctrl = w.ctrl;
            thresh = w.thresh;
            unstarted = state;
            counts = rw (nc, e, room) (let r : suc m ≤ b.accum + 1 = omega arith in r);
            below = inr (omega arith, top);
          }

-- ── one tick of the valid state g ──

module _ (g : Handler) (v : valid g ≡ true) (k : ℕ) (small : k < class_count) (x : Input) where
  -- step 1 leaves it: what it reads is locked, and an access moves neither state nor accumulator
  waits_access : (c : Class) (m : ℕ) → Waits c m (class_at g k) → Waits c m (class_read g x k)
  unfolding locked guard value
  waits_access c m w =
      let shut : eqb (class_at g k).regwen 0 ≡ true = eq-eqb (class_at g k).regwen 0 w.regwen in
      let u = acted_place g x.access k small in
      record {
        regwen = keeps g v k small x.access Setting.Regwen refl shut ∙ w.regwen;
        ctrl = keeps g v k small x.access Ctrl refl shut ∙ w.ctrl;
        thresh = keeps g v k small x.access AccumThresh refl shut ∙ w.thresh;
        unstarted = subst Unstarted (ap state_of (sym u.0)) w.unstarted;
        counts = subst (λ (n : ℕ). m ≤ n) (sym u.2) w.counts;
        below = w.below;
      }

  waits_tick : (c : Class) (m : ℕ) → (en c ≡ true → c.thresh < 65535) → (signals_in g x k).clear ≡ false → starts (signals_in g x k) (class_read g x k) ≡ false
      → Waits c m (class_at g k) → Waits c (cond (signals_in g x k).event (suc m) m) (class_at (after g x) k)
  waits_tick c m safe nc ns w =
      subst (Waits c (cond (signals_in g x k).event (suc m) m)) (sym (after_class g x k small))
      (waits_step c (class_read g x k) m (signals_in g x k) safe nc
      (event_enabled g x k) ns (waits_access c m w))

-- ── the list ──

-- a start in one of the d ticks that follow the first i
abbrev Found : Handler → List Input → ℕ → ℕ → ℕ → Type 0
Found h xs k i d = (j : ℕ) × (i ≤ j) × (j < i + d) × StartsAt h xs k j

module _ (h : Handler) (xs : List Input) (v : valid h ≡ true) (k : ℕ) (small : k < class_count) where
  waits_next : (c : Class) (m j : ℕ) → (en c ≡ true → c.thresh < 65535) → j < length xs
      → (signals_in (ListTicks.at h xs j) (input xs j) k).clear ≡ false
      → starts (signals_in (ListTicks.at h xs j) (input xs j) k) (class_read (ListTicks.at h xs j) (input xs j) k) ≡ false
      → Waits c m (class_at (ListTicks.at h xs j) k)
      → Waits c (cond (signals_in (ListTicks.at h xs j) (input xs j) k).event (suc m) m) (class_at (ListTicks.at h xs (suc j)) k)
  waits_next c m j safe l nc ns w =
      subst (λ (f : Handler). Waits c (cond (signals_in (ListTicks.at h xs j) (input xs j) k).event (suc m) m) (class_at f k)) (sym (at_next h xs v j l))
      (waits_tick (ListTicks.at h xs j) (at_valid h xs v j) k small (input xs j) c m safe nc ns w)

  -- by d ticks after the first i it has started, or it still waits, every event counted
  waits : (c : Class) (i d : ℕ) → (en c ≡ true → c.thresh < 65535) → i + d ≤ length xs → NoClear h xs k i d
      → Waits c 0 (class_at (ListTicks.at h xs i) k) → Found h xs k i d ⊎ Waits c (events_in h xs k i d) (class_at (ListTicks.at h xs (i + d)) k)
  waits c i zero safe l nc w = inr (subst (λ (n : ℕ). Waits c 0 (class_at (ListTicks.at h xs n) k)) (sym (add-zero i)) w)
  waits c i (suc d) safe l nc w =
      ⊎_elim (λ (f : Found h xs k i d). inl (f.0, f.1, (let z = f.2 in omega arith), f.3)) (λ y. now y (starts (signals_in g x k) (class_read g x k)) refl)
      (waits c i d safe (omega arith) (λ j a b. nc j a (omega arith)) w)
    where
      g : Handler
      g = ListTicks.at h xs (i + d)

      x : Input
      x = input xs (i + d)

      clear : (signals_in g x k).clear ≡ false
      clear = signal_clear g x k ∙ nc (i + d) (omega arith) (omega arith)

      now : Waits c (events_in h xs k i d) (class_at g k) → (t : Bool) → starts (signals_in g x k) (class_read g x k) ≡ t
          → Found h xs k i (suc d) ⊎ Waits c (events_in h xs k i (suc d)) (class_at (ListTicks.at h xs (i + suc d)) k)
      now y true e = inl (i + d, omega arith, omega arith, e)
      now y false e =
          inr (subst (λ (n : ℕ). Waits c (events_in h xs k i (suc d)) (class_at (ListTicks.at h xs n) k)) (sym (add-suc i d))
          (waits_next c (events_in h xs k i d) (i + d) safe (omega arith) clear e y))

  -- with 65,535 events it has started
  pub in_time : (i d : ℕ) → (en (class_at (ListTicks.at h xs i) k) ≡ true → (class_at (ListTicks.at h xs i) k).thresh < 65535) → Waiting h xs k i
      → i + d ≤ length xs → NoClear h xs k i d → 65535 ≤ events_in h xs k i d → Found h xs k i d
  in_time i d safe w l nc many =
      let c : Class = class_at (ListTicks.at h xs i) k in
      ⊎_elim (λ f. f)
      (λ (y : Waits c (events_in h xs k i d) (class_at (ListTicks.at h xs (i + d)) k)).
      absurd (⊎_elim (λ z. omega arith) (λ (z : (events_in h xs k i d ≤ c.thresh) × (c.thresh < 65535)). let a = z.0 in let b = z.1 in omega arith) y.below))
      (waits c i d safe l nc
      (record { regwen = w.locked; ctrl = refl; thresh = refl; unstarted = w.unstarted; counts = omega arith; below = inl refl }))

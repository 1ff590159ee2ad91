-- Request (vi) and demand 3: from the boot to the last tick of any list that follows.
-- Assumes nothing.
use Rattle.std.specs.Prelude.{ℕ, ◌-◌, ◌≤◌, ◌<◌, ◌≡◌, Bool, true, false, List, get_or, length, take}
use Rattle.class_rules.specs.Step.{starts}
use Rattle.class_rules.specs.declared.ClassState.TheVariants.{Idle}
use Rattle.escalation.specs.Escalation.{state_in, Starts, Escalated, Demand3}
use Rattle.escalation.specs.List.{IsTick, before, input_at, given_at, no_input, class_read}
use Rattle.rules.specs.Access.{clears}
use Rattle.rules.specs.Run.{run}
use Rattle.rules.specs.Tick.{happens_in, signals_in}
use Rattle.rules.specs.declared.Handler.{Handler}
use Rattle.rules.specs.declared.Input.{Input}
use Rattle.policy.specs.Plan.{is_a}
use Rattle.policy.specs.Table.{alert_count, mark_at}
use Rattle.policy.specs.declared.Lifecycle.{Lifecycle}

-- in the tick of state g and input x, while class A is Idle, an alert marked A has an event, and no clear of class A is accepted
pub record FirstEvent (l : Lifecycle) (g : Handler) (x : Input) (i : ℕ) : Type 0 where
  pub idle : state_in g 0 ≡ Idle
  pub is_alert : i < alert_count
  pub marked : is_a (mark_at l i) ≡ true
  pub occurs : happens_in g x i ≡ true
  pub unclear : clears g x.access 0 ≡ false

-- h is the state after the boot, xs are the inputs of the ticks that follow, numbered from any first number
pub record FromBoot (l : Lifecycle) (h : Handler) (xs : List Input) : Type 0 where
  -- class A is Idle after the boot
  pub idle : state_in h 0 ≡ Idle
  -- the first event of an alert marked A starts it, locked with EN and LOCK
  pub start :
      (first s i : ℕ) → IsTick first xs s → FirstEvent l (before first h xs s) (input_at first xs s) i
      → Starts (before first h xs s) (input_at first xs s) 0
  -- and demand 3 holds of it to the end of the list
  pub escalation :
      (first s i : ℕ) → IsTick first xs s → FirstEvent l (before first h xs s) (input_at first xs s) i → (t : ℕ) → s ≤ t → IsTick first xs t
      → Escalated (class_read (before first h xs s) (input_at first xs s) 0) s t (given_at first h xs t) 0
  pub demand3 : Demand3 h xs

-- ── class A stays Idle until it starts, so that the event may come in any tick ──

-- class A starts to escalate in tick j of the list, counted from 0
abbrev pub starts_in : Handler → List Input → ℕ → Bool
starts_in h xs j = starts (signals_in (run h (take j xs)) (get_or xs j no_input) 0) (class_read (run h (take j xs)) (get_or xs j no_input) 0)

-- in tick s of the list an alert marked A has an event, no clear of class A is accepted, and class A did not start before
pub record FirstInList (l : Lifecycle) (h : Handler) (xs : List Input) (first s i : ℕ) : Type 0 where
  pub is_tick : IsTick first xs s
  pub unstarted : (j : ℕ) → j < s - first → starts_in h xs j ≡ false
  pub is_alert : i < alert_count
  pub marked : is_a (mark_at l i) ≡ true
  pub occurs : happens_in (before first h xs s) (input_at first xs s) i ≡ true
  pub unclear : clears (before first h xs s) (input_at first xs s).access 0 ≡ false

-- h is the state after the boot, xs are the inputs of the ticks that follow
pub record UntilFirst (l : Lifecycle) (h : Handler) (xs : List Input) : Type 0 where
  pub stays_idle : (i : ℕ) → i ≤ length xs → ((j : ℕ) → j < i → starts_in h xs j ≡ false) → state_in (run h (take i xs)) 0 ≡ Idle
  -- the first event of an alert marked A starts it, locked with EN and LOCK
  pub first_starts : (first s i : ℕ) → FirstInList l h xs first s i → Starts (before first h xs s) (input_at first xs s) 0
  -- and demand 3 holds of it from that tick on
  pub first_escalates :
      (first s i : ℕ) → FirstInList l h xs first s i → (t : ℕ) → s ≤ t → IsTick first xs t
      → Escalated (class_read (before first h xs s) (input_at first xs s) 0) s t (given_at first h xs t) 0

-- Request (vii), "Refuse the silly threshold": what the lock of a class is worth, over a whole list of ticks. proofs/Threshold.antt proves it.
-- Assumes nothing.
use Rattle.std.specs.Prelude.{ℕ, zero, suc, ◌+◌, ◌≤◌, ◌<◌, ◌≡◌, ◌≢◌, ◌⊎◌, true, false, cond, List, get_or, length, take}
use Rattle.class_rules.specs.Class.{en}
use Rattle.class_rules.specs.Step.{starts}
use Rattle.class_rules.specs.declared.ClassState.TheVariants.{Idle, Timeout}
use Rattle.escalation.specs.Escalation.{state_in}
use Rattle.escalation.specs.List.{no_input, class_read}
use Rattle.rules.specs.Access.{clears}
use Rattle.rules.specs.Run.{run}
use Rattle.rules.specs.State.{class_count, class_at, made}
use Rattle.rules.specs.Tick.{signals_in}
use Rattle.rules.specs.declared.Handler.{Handler}
use Rattle.rules.specs.declared.Input.{Input}

-- the events of class k in the d ticks that follow the first i
abbrev pub events_in : Handler → List Input → ℕ → ℕ → ℕ → ℕ
events_in h xs k i zero = 0
events_in h xs k i (suc d) =
    cond (signals_in (run h (take (i + d) xs)) (get_or xs (i + d) no_input) k).event (suc (events_in h xs k i d)) (events_in h xs k i d)

-- class k starts to escalate in the tick that follows the first j
abbrev pub StartsAt : Handler → List Input → ℕ → ℕ → Type 0
StartsAt h xs k j = starts (signals_in (run h (take j xs)) (get_or xs j no_input) k) (class_read (run h (take j xs)) (get_or xs j no_input) k) ≡ true

-- class k is locked, and Idle or in Timeout after a tick: i ticks have run
pub record Waiting (h : Handler) (xs : List Input) (k i : ℕ) : Type 0 where
  pub is_class : k < class_count
  pub locked : (class_at (run h (take i xs)) k).regwen ≡ 0
  pub unstarted : (state_in (run h (take i xs)) k ≡ Idle) ⊎ (state_in (run h (take i xs)) k ≡ Timeout)

-- and no later tick of the list has an accepted clear of it: none of the d that follow
abbrev pub NoClear : Handler → List Input → ℕ → ℕ → ℕ → Type 0
NoClear h xs k i d = (j : ℕ) → i ≤ j → j < i + d → clears (run h (take j xs)) (get_or xs j no_input).access k ≡ false

-- ── of the list of ticks with inputs xs from a new handler of n alerts ──

pub record Threshold (n : ℕ) (xs : List Input) : Type 0 where
  -- no locked class has EN 1 and ACCUM_THRESH 65535, so P6 is reached only by an unlocked class
  pub never :
      (k : ℕ) → k < class_count → (class_at (run (made n).handler xs) k).regwen ≡ 0 → en (class_at (run (made n).handler xs) k) ≡ true
      → (class_at (run (made n).handler xs) k).thresh ≢ 65535
  -- a class that waits so starts to escalate at the latest in the tick of its 65,535th event from there; an event has EN 1 and a line enabled
  pub start :
      (k i d : ℕ) → Waiting (made n).handler xs k i → i + d ≤ length xs → NoClear (made n).handler xs k i d
      → 65535 ≤ events_in (made n).handler xs k i d
      → (j : ℕ) × (i ≤ j) × (j < i + d) × StartsAt (made n).handler xs k j

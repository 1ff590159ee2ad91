-- Request (vii)'s two laws once more, taken from the theorem over every N, class and list, in raw numbers: a claim that says less, or asks for more, does
-- not give them.
-- Assumes nothing.
use Prim.Native.Nat.{ℕ, zero, suc, ◌+◌, ◌≤◌, ◌<◌}
use mathlib.Core.Path.{◌≡◌, refl}
use mathlib.Core.Logic.{◌≢◌, ◌⊎◌}
use mathlib.Core.Bool.{true, false, cond}
use mathlib.Core.List.{List}
use native.Mathlib.Omega.{arith}
use lib.ListN.{get_or, length, take}
use Rattle.class_rules.specs.Class.{en}
use Rattle.class_rules.specs.Step.{starts}
use Rattle.class_rules.specs.declared.ClassState.TheVariants.{Idle, Timeout}
use Rattle.rules.specs.Access.{clears}
use Rattle.rules.specs.Run.{run}
use Rattle.rules.specs.State.{class_at, made}
use Rattle.rules.specs.Tick.{signals_in}
use Rattle.rules.specs.declared.Handler.{Handler}
use Rattle.rules.specs.declared.Input.{Input}
use Rattle.escalation.specs.Escalation.{state_in}
use Rattle.escalation.specs.List.{no_input, class_read}
use Rattle.escalation.specs.Threshold.{events_in}
use Rattle.escalation.proofs.Threshold.{threshold}

-- any class of any handler, after any list
never_locked : (n k : ℕ) (xs : List Input) → k < 4
    → (class_at (run (made n).handler xs) k).regwen ≡ 0 → en (class_at (run (made n).handler xs) k) ≡ true
    → (class_at (run (made n).handler xs) k).thresh ≢ 65535
never_locked n k xs l = (threshold n xs).never k l

-- the events of class k one after the other, as the claim counts them, once i ticks have run
module _ (n k i : ℕ) (small : k < 4) (xs : List Input) where
  abbrev at : ℕ → Handler
  at j = run (made n).handler (take j xs)

  abbrev input : ℕ → Input
  input j = get_or xs j no_input

  -- in the d ticks that follow it has `events d`
  abbrev events : ℕ → ℕ
  events zero = 0
  events (suc d) = cond (signals_in (at (i + d)) (input (i + d)) k).event (suc (events d)) (events d)

  -- from Idle as from Timeout
  starts_in_time : (d : ℕ) → (class_at (at i) k).regwen ≡ 0 → (state_in (at i) k ≡ Idle) ⊎ (state_in (at i) k ≡ Timeout) → i + d ≤ length xs
      → ((j : ℕ) → i ≤ j → j < i + d → clears (at j) (input j).access k ≡ false) → 65535 ≤ events d
      → (j : ℕ) × (i ≤ j) × (j < i + d) × (starts (signals_in (at j) (input j) k) (class_read (at j) (input j) k) ≡ true)
  starts_in_time d shut unstarted l none many =
      (threshold n xs).start k i d (record { is_class = small; locked = shut; unstarted = unstarted }) l none (omega (arith, counted d, many))
    where
      counted : (d : ℕ) → events_in (made n).handler xs k i d ≡ events d
      counted zero = refl
      counted (suc d) = rw (counted d)

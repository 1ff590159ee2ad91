-- "A started escalation": a list of ticks, numbered one after another from any first number.
-- Assumes nothing.
use Rattle.std.specs.Prelude.{ℕ, ◌+◌, ◌-◌, ◌≤◌, ◌<◌, List, get_or, length, take}
use Rattle.class_rules.specs.declared.Class.{Class}
use Rattle.rules.specs.Access.{acted}
use Rattle.rules.specs.Run.{run, ticks}
use Rattle.rules.specs.Samples.{at_rest}
use Rattle.rules.specs.State.{class_at, new_handler}
use Rattle.rules.specs.Tick.{no_output}
use Rattle.rules.specs.declared.Access.{Access}
use Rattle.rules.specs.declared.Answer.{Answer}
use Rattle.rules.specs.declared.Handler.{Handler}
use Rattle.rules.specs.declared.Input.{Input}
use Rattle.rules.specs.declared.Ticked.{Ticked}

-- ── the list: h is the state before its first tick, xs are its inputs, and its ticks are first, first + 1, .. ──

pub record IsTick (first : ℕ) (xs : List Input) (t : ℕ) : Type 0 where
  pub from : first ≤ t
  pub to : t < first + length xs

-- what stands past the ends of the lists, and is never read of a tick of the list
abbrev pub no_input : Input
no_input = record { access = Access.Nothing; sample = at_rest }

abbrev pub no_tick : Ticked
no_tick = record { handler = new_handler 0; answer = Answer.Done; output = no_output }

-- tick t: the state before it, its input, and what it gives (state, answer and outputs)
abbrev pub before : ℕ → Handler → List Input → ℕ → Handler
before first h xs t = run h (take (t - first) xs)

abbrev pub input_at : ℕ → List Input → ℕ → Input
input_at first xs t = get_or xs (t - first) no_input

abbrev pub given_at : ℕ → Handler → List Input → ℕ → Ticked
given_at first h xs t = get_or (ticks h xs) (t - first) no_tick

-- ── in the tick of state g and input x ──

-- class k as read after step 1; what it meets in steps 3 and 4 is `signals_in` of the rules
abbrev pub class_read : Handler → Input → ℕ → Class
class_read g x k = class_at (acted g x.access) k

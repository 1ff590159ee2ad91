-- "One tick, in order", whole: step 1 by the sentences of Access.antt, the steps after it by those of Tick.antt, and the number that comes back.
-- Assumes nothing.
use Rattle.std.specs.Prelude.{ℤ}
use Rattle.rules.specs.declared.Access.{Access}
use Rattle.rules.specs.declared.Accessed.{Accessed}
use Rattle.rules.specs.declared.Answer.{Answer}
use Rattle.rules.specs.declared.Handler.{Handler}
use Rattle.rules.specs.declared.Input.{Input}
use Rattle.rules.specs.declared.Ticked.{Ticked}
use Rattle.sentences.specs.Access.{AccessStep}
use Rattle.sentences.specs.Numbers.{Numbers}
use Rattle.sentences.specs.Tick.{Tick, Step1}

pub record Whole (tick : Handler → Input → Ticked) (number : Answer → ℤ) : Type 0 where
  -- "1. The access, on the state before any event of this tick."
  pub step1 : Handler → Access → Accessed
  pub accesses : AccessStep (λ h x. (step1 h x).handler) (λ h x. number (step1 h x).answer) (λ h x. (step1 h x).effects)
  -- "2. Samples." to "5. Outputs from the state now reached", and refusal 7 before all
  pub given : Step1 step1
  pub ticks : Tick step1 tick
  -- "Every access .. answers one signed 64-bit number"
  pub numbers : Numbers number

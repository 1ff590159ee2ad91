-- The parts of what a tick gives.
-- Assumes nothing.
use mathlib.Core.Path.{◌≡◌, ap}
use Rattle.handler.specs.Answered.{answered}
use Rattle.handler.specs.declared.tick.Answered.{Answered}
use Rattle.rules.specs.Answer.{number}
use Rattle.rules.specs.declared.Ticked.{Ticked}

pub tick_parts : (r : Answered) (t : Ticked) → r ≡ answered t → (r.handler ≡ t.handler) × ((r.answer ≡ number t.answer) × (r.output ≡ t.output))
unfolding answered
tick_parts r t e = (ap (λ (a : Answered). a.handler) e, (ap (λ (a : Answered). a.answer) e, ap (λ (a : Answered). a.output) e))

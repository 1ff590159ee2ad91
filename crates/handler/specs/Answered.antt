-- What a tick gives, its answer as one signed number.
-- Assumes nothing.
use Rattle.rules.specs.Answer.{number}
use Rattle.rules.specs.declared.Ticked.{Ticked}
use Rattle.handler.specs.declared.tick.Answered.{Answered}

unfoldable pub answered : Ticked → Answered
answered t = record { handler = t.handler; answer = number t.answer; output = t.output }

-- `effects::are_none` meets its contract by the law of its three parts.
-- Assumes nothing.
use Rattle.handler.proofs.QuietTicks.{none_are}
use Rattle.handler.proofs.effects.are_none.Goals as goal

pub returns : goal.returns
returns c = none_are _

-- `new::new` meets its contract.
-- Assumes nothing.
use Rattle.rules.specs.State.{made}
use Rattle.rules.specs.Answer.{number}
use Rattle.state.proofs.new.new.Goals as goal

pub returns-then-n : goal.returns-then-n
unfolding made number
returns-then-n c = simp (c.if-n.true, c.reset.ensures, c.signed.ensures.value)

pub returns-else-n : goal.returns-else-n
unfolding made number
returns-else-n c = simp (c.if-n.false, c.reset-else-n.ensures, c.signed-else-n.ensures.value)

-- `ask` meets its contract.
-- Assumes nothing.
use borrow.Author.Rules.{rules}
use Rattle.installer.proofs.AskSteps.{asked_same, asked_other}
use Rattle.installer.proofs.ask.ask.Goals as goal

pub returns-then-t-v : goal.returns-then-t-v
returns-then-t-v c = asked_same _ _ _ _ (search rules) c.rest.ensures c.tick-t.ensures c.if-t-v.true (search rules)

pub returns-else-t-v : goal.returns-else-t-v
returns-else-t-v c = asked_other _ _ _ _ (search rules) c.rest.ensures c.tick-t.ensures c.if-t-v.false

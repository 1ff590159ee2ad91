-- `wait` meets its contract, on and off.
-- Assumes nothing.
use borrow.Author.Tests.{eq-eqb, ne_eqb}
use Rattle.samples.proofs.rest.wait.Goals as goal

pub returns-then-c-eq1 : goal.returns-then-c-eq1
returns-then-c-eq1 c = simp (eq-eqb _ _ c.if-c-eq1.true, c.next_count.ensures)

pub returns-else-c-eq1 : goal.returns-else-c-eq1
returns-else-c-eq1 c = simp (ne_eqb _ _ c.if-c-eq1.false)

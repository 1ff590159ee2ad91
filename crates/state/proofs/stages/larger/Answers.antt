-- `stages::larger` meets its contract: what bounds the larger bounds both.
-- Assumes nothing.
use native.Mathlib.Omega.{arith}
use Rattle.state.proofs.Widths.{larger_first, larger_second}
use Rattle.state.proofs.stages.larger.Goals as goal

pub returns-then-a-b : goal.returns-then-a-b
returns-then-a-b c = λ b. larger_second c.args.a c.args.b b (omega arith)

pub returns-else-a-b : goal.returns-else-a-b
returns-else-a-b c = λ b. larger_first c.args.a c.args.b b (omega arith)

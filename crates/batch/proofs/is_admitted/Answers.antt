-- `is_admitted` meets its contract.
-- Assumes nothing.
use Rattle.trace_rules.specs.Batch.{admits}
use Rattle.batch.proofs.is_admitted.Goals as goal

pub returns : goal.returns
unfolding admits
returns c = simp (c.is_valid.ensures, c.has_timer.ensures, c.alerts.ensures)

-- `access::judge_and_act` meets its contract by the verdict.
-- Assumes nothing.
use mathlib.Core.Path.{sym, ◌∙◌}
use Rattle.registers.proofs.Accesses.{accepted_fits}
use Rattle.registers.proofs.access.judge_and_act.Goals as goal

pub act-requires : goal.act-requires
act-requires c = (c.name-q.ensures, accepted_fits c.args.h.now c.args.x (sym c.verdict_of.ensures ∙ c.in-Ok.is))

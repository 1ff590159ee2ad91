-- `links::hear_quiet` meets its contract.
-- Assumes nothing.
use Rattle.samples.proofs.QuietLinks.{quiet_by}
use Rattle.samples.proofs.links.hear_quiet.Goals as goal

pub returns-then-none_set-fails-clause-quiet : goal.returns-then-none_set-fails-clause-quiet
returns-then-none_set-fails-clause-quiet c =
    let a = c.args in
    quiet_by a.n a.links a.timer a.pingable a.s _ _ _ c.pace-paced.ensures c.none_set.ensures c.none_set-2.ensures c.if-none_set-fails.true

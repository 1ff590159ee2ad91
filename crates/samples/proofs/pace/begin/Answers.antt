-- `pace::begin` meets its contract.
-- Assumes nothing.
use Rattle.samples.proofs.Pacing.{begun_by}
use Rattle.samples.proofs.pace.begin.Goals as goal

pub returns : goal.returns
returns c =
    let p = c in
    let a = p.args in
    begun_by a.n a.k a.c a.begins a.pingable a.word _ _ _ _ _
    p.turn_pending-pends.ensures c.meet-meets.ensures c.does_open.ensures c.is_line.ensures c.asks_for.ensures

-- `places::only` meets its contract.
-- Assumes nothing.
use Rattle.masks.proofs.Only.{only_at}
use Rattle.masks.proofs.places.only.Goals as goal

pub returns : goal.returns
returns c =
    let a = c.args in
    only_at a.i a.b c.live.result c.live-2.result c.live.ensures c.live-2.ensures

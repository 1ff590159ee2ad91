-- `hear::hear` meets its contract.
-- Assumes nothing.
use Rattle.samples.proofs.Hearing.{heard_by}
use Rattle.samples.proofs.hear.hear.Goals as goal

pub returns : goal.returns
returns c =
    let a = c.args in
    heard_by a.g a.s a.fx _ _ _ _ c.requires c.is_pingable-pingable.ensures c.pace-wrong.ensures c.any_broken-broken.ensures c.raise.ensures

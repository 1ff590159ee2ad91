-- `replay::rest::keep_rest` meets its contract: what is moved is the rest.
-- Assumes nothing.
use Rattle.replay.proofs.RestLaws.{kept_front}
use Rattle.replay.proofs.rest.keep_rest.Goals as goal

pub returns : goal.returns
returns c = rw c.copy_within.ensures.after (kept_front _ _ _ _ c.record_bytes.ensures c.requires)

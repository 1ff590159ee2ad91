-- `records::put_last` meets its contract: four bytes, and one.
-- Assumes nothing.
use Rattle.writer.proofs.StoreLaws.{put_last}
use Rattle.writer.proofs.records.put_last.Goals as goal

pub returns : goal.returns
returns c = put_last _ _ _ _ _ _ _ c.put_half.ensures c.pair_bits.ensures

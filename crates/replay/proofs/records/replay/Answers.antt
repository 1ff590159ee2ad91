-- `replay::records::replay` meets its contract: the batch of the whole records is not refused, and the text has a line for each word.
-- Assumes nothing.
use Rattle.std.proofs.Common.{replicate}
use Rattle.replay.proofs.WholeRecords.{given_sized}
use Rattle.replay.proofs.records.replay.Goals as goal

pub returns : goal.returns
returns c =
    given_sized _ _ _ _ (replicate 2048 0) c.requires.0 c.requires.1 c.requires.2 _ c.record_bytes-size.ensures _ _ c.batch-done.ensures.batched_by _ _ c.hex_lines.ensures

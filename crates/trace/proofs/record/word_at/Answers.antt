-- `record::word_at` meets its contract: two halves.
-- Assumes nothing.
use native.Mathlib.Omega.{arith}
use Rattle.trace.proofs.Records.{part_bytes}
use Rattle.trace.proofs.record.word_at.Goals as goal

pub returns : goal.returns
returns c = omega (arith, part_bytes 4 4 c.args.at c.args.bytes.now c.requires)

-- `record::half_at` meets its contract.
-- Assumes nothing.
use native.Mathlib.Omega.{arith}
use Rattle.trace.proofs.Records.{four_bytes}
use Rattle.trace.proofs.record.half_at.Goals as goal

pub returns : goal.returns
returns c = omega (arith, four_bytes c.args.at c.args.bytes.now c.requires)

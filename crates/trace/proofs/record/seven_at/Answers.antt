-- `record::seven_at` meets its contract: four bytes, and three.
-- Assumes nothing.
use native.Mathlib.Omega.{arith}
use Rattle.trace.proofs.WireBytes.{seven_bytes}
use Rattle.trace.proofs.record.seven_at.Goals as goal

pub returns : goal.returns
returns c = omega (arith, seven_bytes c.args.bytes.now (λ i. (c.type_inv.bytes i).fits) c.args.at c.requires)

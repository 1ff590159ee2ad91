-- `record::wires_64` meets its contract: one word of each, and none for alerts from 64 up.
-- Assumes nothing.
use Prim.Native.Nat.{◌+◌}
use native.Mathlib.Omega.{arith}
use Rattle.trace.proofs.WireBytes.{wires_64_law}
use Rattle.trace.proofs.record.wires_64.Goals as goal

pub returns : goal.returns
returns c =
    let x = c.args.bytes.now in
    let at = c.args.at in
    λ t. record { pos = wires_64_law x (λ i. (c.type_inv.bytes i).fits) at _ (omega arith) c.word_at.ensures t; neg = wires_64_law x (λ i. (c.type_inv.bytes i).fits) (at + 8) _ (omega arith) c.word_at-2.ensures t }

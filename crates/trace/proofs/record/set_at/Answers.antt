-- `record::set_at` meets its contract: three words and seven bytes.
-- Assumes nothing.
use Rattle.trace.proofs.WireBytes.{wires_248_law}
use Rattle.trace.proofs.record.set_at.Goals as goal

pub returns : goal.returns
returns c =
    wires_248_law c.args.bytes.now (λ i. (c.type_inv.bytes i).fits) c.args.at _ _ _ _ c.requires c.word_at.ensures c.word_at-2.ensures c.word_at-3.ensures c.seven_at.ensures

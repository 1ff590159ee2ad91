-- `record::input_at` meets its contract: the first eight bytes, the tail, the positive wires and the negative wires.
-- Assumes nothing.
use Rattle.trace.proofs.Records.{record_input}
use Rattle.trace.proofs.record.input_at.Goals as goal

pub returns : goal.returns
returns c =
    record_input c.args.edition c.args.at c.args.bytes.now (λ i. (c.type_inv.bytes i).fits) c.requires _ _ _ _ _ _ _ _
    c.word_at.ensures c.head_of-head.ensures c.alerts-wires.ensures c.tail_at-tail.ensures c.access_in.ensures c.carried.ensures c.wires_at.ensures c.receive_of.ensures

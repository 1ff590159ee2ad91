-- `Entries::put_record` meets its contract: eight bytes of access, two wire sets, the word and the receive pairs.
-- Assumes nothing.
use Prim.Native.Nat.{◌<◌, ◌^◌}
use mathlib.Core.Path.{ap, ◌∙◌}
use lib.ListN.{get_or}
use lib.Seq.{sets}
use borrow.Author.Rules.{rules}
use Rattle.trace_rules.specs.Edition.{newest}
use Rattle.trace_rules.specs.Record.{record_of}
use Rattle.writer.specs.Lent.{word_at, input_at}
use Rattle.writer.specs.declared.entries.Entries.{Entries}
use Rattle.writer.proofs.StoreLaws.{put_parts}
use Rattle.writer.proofs.entries.Entries.put_record.Goals as goal

pub returns : goal.returns
returns c =
    let i = c.args.i in
    let l = c.self.inside.0.0 in
    let word : get_or l.entropy.now i 0 < 2 ^ 32 = search rules in
    let first : c.first_word.result < 2 ^ 64 = search rules in
    put_parts (get_or l.kinds.now i 0) (get_or l.registers.now i 0) (get_or l.values.now i 0) (word_at l.positive.now i) (word_at l.negative.now i)
    (get_or l.entropy.now i 0) (get_or l.receive_positive.now i 0) (get_or l.receive_negative.now i 0)
    c.put_wires.ensures.words c.put_wires-2.ensures.words word _ _ _ _ _ c.args.at c.first_word.result first c.first_word.ensures
    c.put_word.ensures c.put_wires.ensures.wrote c.put_wires-2.ensures.wrote c.put_last.ensures
    ∙ ap (λ (e : Entries). sets c.args.out.now c.args.at (record_of newest (input_at e.lists i))) c.self.view_is

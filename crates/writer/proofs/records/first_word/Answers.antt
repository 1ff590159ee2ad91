-- `records::first_word` meets its contract: the places of the layout.
-- Assumes nothing.
use native.Mathlib.Omega.{arith}
use Rattle.writer.proofs.EntryKinds.{held}
use Rattle.writer.proofs.records.first_word.Goals as goal

pub overflow_add-result : goal.overflow_add-result
overflow_add-result c =
    let a = c.args in let h = held a.kind a.register a.value c.requires in omega (arith, h.kind_fits, h.register_fits, h.word)

pub overflow_add-result-2 : goal.overflow_add-result-2
overflow_add-result-2 c =
    let a = c.args in let h = held a.kind a.register a.value c.requires in omega (arith, h.kind_fits, h.register_fits, h.word)

pub returns : goal.returns
returns c =
    let a = c.args in let h = held a.kind a.register a.value c.requires in omega (arith, h.kind_fits, h.register_fits, h.word)

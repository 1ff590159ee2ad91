-- `pace::ask_word` meets its contract.
-- Assumes nothing.
use Prim.Native.Nat.{◌<◌, ◌^◌}
use Rattle.samples.proofs.OneAlert.{one_word, no_word}
use borrow.Author.Rules.{rules}
use Rattle.samples.proofs.pace.ask_word.Goals as goal

pub returns-then-opens-line : goal.returns-then-opens-line
returns-then-opens-line c =
    let a = c.args in
    let h : c.only.result < 2 ^ 64 = search rules in
    one_word a.opens a.line a.i a.v _ h c.only.ensures c.if-opens-line.true

pub returns-else-opens-line : goal.returns-else-opens-line
returns-else-opens-line c = let a = c.args in no_word a.opens a.line a.i a.v c.if-opens-line.false

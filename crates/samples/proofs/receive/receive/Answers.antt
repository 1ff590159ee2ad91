-- `receive::receive` meets its contract, with and without the test.
-- Assumes nothing.
use Prim.Native.Nat.{◌<◌, ◌^◌}
use borrow.Author.Rules.{rules}
use Rattle.samples.proofs.StillWords.{still_word}
use Rattle.samples.proofs.receive.receive.Goals as goal

pub returns-then-p-q-eq0 : goal.returns-then-p-q-eq0
returns-then-p-q-eq0 c =
    let x = c.args in
    let hq : x.q < 2 ^ 64 = search rules in
    still_word x.w x.asks x.p x.q x.live hq c.if-p-q-eq0.true

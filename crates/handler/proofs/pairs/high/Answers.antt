-- `pairs::high` meets its contract.
-- Assumes nothing.
use Prim.Native.Nat.{◌<◌, ◌^◌}
use Rattle.handler.proofs.PairLaws.{high_word}
use borrow.Author.Rules.{rules}
use Rattle.handler.proofs.pairs.high.Goals as goal

pub returns : goal.returns
returns c =
    let a = c.args in
    let s : c.live.result < 2 ^ 64 = search rules in
    high_word a.n a.r a.v c.live.result s c.live.ensures

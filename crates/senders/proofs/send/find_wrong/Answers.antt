-- `send::find_wrong` meets its contract.
-- Assumes nothing.
use Prim.Native.Nat.{◌<◌, ◌^◌}
use borrow.Author.Rules.{rules}
use Rattle.senders.proofs.Lines.{low_bits, wrong_bit}
use Rattle.senders.proofs.send.find_wrong.Goals as goal

pub returns : goal.returns
returns c =
    let a = c.args in
    let hp : a.p < 2 ^ 32 = search rules in
    let hm : a.m < 2 ^ 32 = search rules in
    low_bits _ _ (wrong_bit a.s a.p a.m hp hm)

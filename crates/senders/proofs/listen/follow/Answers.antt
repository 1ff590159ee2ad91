-- `listen::follow` meets its contract.
-- Assumes nothing.
use Prim.Native.Nat.{◌<◌, ◌^◌}
use borrow.Author.Rules.{rules}
use Rattle.senders.proofs.Lines.{low_bits}
use Rattle.senders.proofs.Receivers.{last_bit_law, deep_bit_law, answer_bit, broken_bit}
use Rattle.senders.proofs.listen.follow.Goals as goal

pub returns : goal.returns
returns c =
    let a = c.args in
    let hd : a.r.deep < 2 ^ 32 = search rules in
    let ha : a.r.answer < 2 ^ 32 = search rules in
    let hb : a.r.broken < 2 ^ 32 = search rules in
    let hp : a.p < 2 ^ 32 = search rules in
    let hm : a.m < 2 ^ 32 = search rules in
    let x = low_bits _ _ (last_bit_law a.r a.p a.m hd ha hb hp hm) in
    let y = low_bits _ _ (deep_bit_law a.r a.p a.m hd ha hb hp hm) in
    let z = low_bits _ _ (answer_bit a.r a.p a.m hd ha hb hp hm) in
    let w = low_bits _ _ (broken_bit a.r a.p a.m hd ha hb hp hm) in
    λ i. record { last = x i; deep = y i; answer = z i; broken = w i }

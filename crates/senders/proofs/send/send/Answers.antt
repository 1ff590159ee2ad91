-- `send::send` meets its contract.
-- Assumes nothing.
use Prim.Native.Nat.{◌<◌, ◌^◌}
use borrow.Author.Rules.{rules}
use Rattle.senders.proofs.Lines.{low_bits, on_bit, first_bit, last_bit_law, deep_bit_law, answer_bit}
use Rattle.senders.proofs.send.send.Goals as goal

pub returns : goal.returns
returns c =
    let a = c.args in
    let hl : a.lines < 2 ^ 32 = search rules in
    let ha : a.s.last < 2 ^ 32 = search rules in
    let hd : a.s.deep < 2 ^ 32 = search rules in
    let hw : a.s.answer < 2 ^ 32 = search rules in
    let ho : a.s.on < 2 ^ 32 = search rules in
    let x = low_bits _ _ (on_bit a.s a.lines a.pings hl ha hd hw ho) in
    let y = low_bits _ _ (first_bit a.s a.lines a.pings hl ha hd hw ho) in
    let z = low_bits _ _ (last_bit_law a.s a.lines a.pings hl ha hd hw ho) in
    let u = low_bits _ _ (deep_bit_law a.s a.lines a.pings hl ha hd hw ho) in
    let w = low_bits _ _ (answer_bit a.s a.lines a.pings hl ha hd hw ho) in
    λ i. record { on = x i; first = y i; last = z i; deep = u i; answer = w i }

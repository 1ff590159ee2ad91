-- `listen::listen` meets its contract.
-- Assumes nothing.
use Prim.Native.Nat.{◌<◌, ◌^◌}
use mathlib.Core.Path.{refl}
use borrow.Author.Rules.{rules}
use Rattle.senders.proofs.Lines.{low_bits}
use Rattle.senders.proofs.Receivers.{negative_bit, seen_bit}
use Rattle.senders.proofs.listen.listen.Goals as goal

pub returns : goal.returns
returns c =
    let a = c.args in
    let hd : a.r.deep < 2 ^ 32 = search rules in
    let ha : a.r.answer < 2 ^ 32 = search rules in
    let hb : a.r.broken < 2 ^ 32 = search rules in
    let hp : a.p < 2 ^ 32 = search rules in
    let hm : a.m < 2 ^ 32 = search rules in
    let x = low_bits _ _ (λ e l. refl) in
    let y = low_bits _ _ (negative_bit a.r a.p a.m hd ha hb hp hm) in
    let z = low_bits _ _ (seen_bit a.r a.p a.m hd ha hb hp hm) in
    λ i. record { receivers = c.follow.ensures i; positive = x i; negative = y i; seen = z i }

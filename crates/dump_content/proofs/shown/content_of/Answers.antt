-- `shown::content_of` meets its contract.
-- Assumes nothing.
use mathlib.Core.Path.{◌∙◌}
use native.Mathlib.Omega.{arith}
use lib.IntN.{pos}
use Rattle.formats.proofs.BitListLaws.{are_all}
use Rattle.dump_content.proofs.ContentLaws.{content_is}
use Rattle.dump_content.proofs.shown.content_of.Goals as goal

pub codes_at-requires : goal.codes_at-requires
codes_at-requires c =
    let found =
    content_is c.args.bytes.now c.requires.0 (are_all _ (λ i. (c.type_inv.bytes i).fits)) c.requires.1
    _ _ _ _ _ c.take_bits-n.ensures.0 c.how_many-causes.ensures.0 c.how_many-locks.ensures.0 c.zeros_behind.ensures.0 c.take_bits-k.ensures.0 in
    (omega arith, found.0)

pub returns : goal.returns
returns c =
    let found =
    content_is c.args.bytes.now c.requires.0 (are_all _ (λ i. (c.type_inv.bytes i).fits)) c.requires.1
    _ _ _ _ _ c.take_bits-n.ensures.0 c.how_many-causes.ensures.0 c.how_many-locks.ensures.0 c.zeros_behind.ensures.0 c.take_bits-k.ensures.0 in
    let e = c.classes_at.ensures in
    let f = c.codes_at.ensures in
    let g = c.flags_at.ensures in
    let h = c.flags_at-2.ensures in
    (λ i. record { answer = pos 0; n = c.take_bits-n.result; classes = e i; stages = f i; causes = g i; locked = h i }) ∙ found.1

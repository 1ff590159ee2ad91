-- `locals::raise` meets its contract.
-- Assumes nothing.
use mathlib.Core.Path.{ap₂, ◌∙◌}
use mathlib.Core.Bool.{◌&&◌, ◌||◌}
use lib.Bits.{bit_or}
use lib.Dec.{eqb}
use Rattle.bits.specs.Bits.{bit}
use Rattle.bits.proofs.WordLaws.{or_bits_of}
use Rattle.masks.proofs.MaskFolds.{num_byte}
use Rattle.rules.specs.State.{local_count}
use Rattle.samples.proofs.LocalMasks.{low_bits, bit_0, bit_1, bit_2, bit_3}
use Rattle.samples.proofs.locals.raise.Goals as goal

pub returns : goal.returns
returns c =
    let a = c.args in
    ap₂ bit_or (bit_0 a.alert _ (c.from.ensures ∙ num_byte a.alert))
    (ap₂ bit_or (bit_1 a.line _ (c.from-2.ensures ∙ num_byte a.line))
    (ap₂ bit_or (bit_2 a.broken _ (c.from-3.ensures ∙ num_byte a.broken))
    (ap₂ bit_or (bit_3 a.wrong _ (c.from-4.ensures ∙ num_byte a.wrong)) (low_bits a.raises) ∙ or_bits_of local_count (λ j. eqb j 3 && a.wrong) (bit a.raises))
    ∙ or_bits_of local_count (λ j. eqb j 2 && a.broken) (λ j. (eqb j 3 && a.wrong) || bit a.raises j))
    ∙ or_bits_of local_count (λ j. eqb j 1 && a.line) (λ j. (eqb j 2 && a.broken) || ((eqb j 3 && a.wrong) || bit a.raises j)))
    ∙ or_bits_of local_count (λ j. eqb j 0 && a.alert) (λ j. (eqb j 1 && a.line) || ((eqb j 2 && a.broken) || ((eqb j 3 && a.wrong) || bit a.raises j)))

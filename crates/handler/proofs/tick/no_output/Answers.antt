-- `tick::no_output` meets its contract: words without a place set, and with all.
-- Assumes nothing.
use mathlib.Core.Path.{refl}
use Rattle.bits.specs.Bits.{word_of, bits_of}
use Rattle.bits.specs.Index.{each_from}
use Rattle.handler.proofs.tick.no_output.Goals as goal

pub returns : goal.returns
unfolding each_from word_of bits_of
returns c = refl

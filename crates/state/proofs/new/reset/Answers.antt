-- `new::reset` meets its contract.
-- Assumes nothing.
use Rattle.bits.specs.Bits.{word_of, bits_of}
use Rattle.bits.specs.Index.{each_from}
use Rattle.rules.specs.State.{new_handler}
use Rattle.state.proofs.new.reset.Goals as goal

pub returns : goal.returns
unfolding new_handler each_from word_of bits_of
returns c = rw (c.reset_class.ensures, c.none.ensures)

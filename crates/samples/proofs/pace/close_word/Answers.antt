-- `pace::close_word` meets its contract.
-- Assumes nothing.
use Rattle.samples.proofs.OneAlert.{closed_word_law}
use Rattle.samples.proofs.pace.close_word.Goals as goal

pub returns : goal.returns
returns c =
    let a = c.args in
    closed_word_law a.n a.pends a.fails a.i a.v _ _ c.live.ensures c.ask_word.ensures

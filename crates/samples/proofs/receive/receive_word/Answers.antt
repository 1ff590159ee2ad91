-- `receive::receive_word` meets its contract: word v has the places of its alerts.
-- Assumes nothing.
use Rattle.samples.proofs.ReceivedWords.{told_word}
use borrow.Author.Rules.{rules}
use Rattle.samples.proofs.receive.receive_word.Goals as goal

pub returns : goal.returns
returns c =
    let a = c.args in
    told_word a.n a.r a.asks a.w a.v c.live.result c.receive.result c.live.ensures c.receive.ensures
    (record {
      pausing = search rules;
      busy = search rules;
      level = search rules;
      pending = search rules;
      events = search rules;
      answers = search rules;
      equal = search rules;
    })

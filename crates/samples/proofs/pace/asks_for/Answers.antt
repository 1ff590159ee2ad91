-- `pace::asks_for` meets its contract: word by word.
-- Assumes nothing.
use Rattle.std.proofs.Common.{rules}
use Rattle.masks.proofs.Made.{made}
use Rattle.samples.specs.Paced.{ask_word}
use Rattle.samples.proofs.pace.asks_for.Goals as goal

pub returns : goal.returns
returns c = let a = c.args in made _ _ (ask_word a.opens a.line a.i) (λ v y q k. search rules) 0 c.from_fn.ensures.items

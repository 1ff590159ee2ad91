-- `pairs::acknowledge_pairs` meets its contract: its four words, put together.
-- Assumes nothing.
use Rattle.std.proofs.Common.{ap, ◌∙◌, rules}
use Rattle.handler.specs.PairWords.{is_acknowledged, spread, word_by}
use Rattle.handler.proofs.PairLaws.{spread_by}
use Rattle.masks.proofs.Made.{made}
use Rattle.handler.proofs.pairs.acknowledge_pairs.Goals as goal

pub returns : goal.returns
returns c =
    let f = is_acknowledged c.args.n c.args.r in
    c.spread.ensures ∙ ap spread (made _ _ (word_by f) (λ v y q k. search rules) 0 c.from_fn.ensures.items) ∙ spread_by f

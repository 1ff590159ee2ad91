-- `stages::lengths_fit` meets its contract.
-- Assumes nothing.
use Rattle.std.proofs.Common.{◌≡◌, ◌∙◌, ap, length, rules, ℕ}
use Rattle.std.proofs.lemmas.Iterator.{YieldsList-from_slice}
use Rattle.std.proofs.lemmas.Iterator.Search.{all_from_yields_List}
use lib.ListN.{get_or}
use lib.Dec.{leb}
use Rattle.bits.specs.Index.{all_to}
use Rattle.state.proofs.Listed.{listed}
use Rattle.state.proofs.stages.lengths_fit.Goals as goal

pub returns : goal.returns
returns c =
    let long : length c.args.l ≡ 4 = search rules in
    all_from_yields_List (λ (x : ℕ). leb x 4294967296) _ _ _ c.all.ensures.ran (YieldsList-from_slice c.args.l c.iter.ensures.rest) (λ x b q k. search rules)
    ∙ listed (λ (x : ℕ). leb x 4294967296) 0 c.args.l
    ∙ ap (all_to (λ i. (λ (x : ℕ). leb x 4294967296) (get_or c.args.l i 0))) long

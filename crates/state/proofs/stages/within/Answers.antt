-- `stages::within` meets its contract.
-- Assumes nothing.
use Rattle.std.proofs.Common.{◌≡◌, ◌∙◌, ap, length, rules, ℕ}
use Rattle.std.proofs.lemmas.Iterator.{YieldsList-from_slice}
use Rattle.std.proofs.lemmas.Iterator.Search.{all_from_yields_List}
use lib.ListN.{get_or}
use lib.Dec.{leb}
use Rattle.bits.specs.Index.{all_to}
use Rattle.state.proofs.Listed.{listed}
use Rattle.state.proofs.stages.within.Goals as goal

pub returns : goal.returns
returns c =
    let long : length c.args.xs ≡ 7 = search rules in
    all_from_yields_List (λ (x : ℕ). leb x c.args.code) _ _ _ c.all.ensures.ran (YieldsList-from_slice c.args.xs c.iter.ensures.rest) (λ x b q k. search rules)
    ∙ listed (λ (x : ℕ). leb x c.args.code) 0 c.args.xs
    ∙ ap (all_to (λ i. (λ (x : ℕ). leb x c.args.code) (get_or c.args.xs i 0))) long

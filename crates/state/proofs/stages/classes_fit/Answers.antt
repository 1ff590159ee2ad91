-- `stages::classes_fit` meets its contract: each of the four blocks' stages fit.
-- Assumes nothing.
use Rattle.std.proofs.Common.{◌≡◌, ◌∙◌, ap, length, rules}
use Rattle.std.proofs.lemmas.Iterator.{YieldsList-from_slice}
use Rattle.std.proofs.lemmas.Iterator.Search.{all_from_yields_List}
use lib.ListN.{get_or}
use Rattle.bits.specs.Index.{all_to}
use Rattle.state.proofs.Listed.{listed}
use Rattle.rules.specs.Stages.{no_class_stages}
use Rattle.rules.specs.Valid.{class_stages_fit}
use Rattle.state.proofs.stages.classes_fit.Goals as goal

pub returns : goal.returns
returns c =
    let long : length c.args.c ≡ 4 = search rules in
    all_from_yields_List (class_stages_fit) _ _ _ c.all.ensures.ran (YieldsList-from_slice c.args.c c.iter.ensures.rest) (λ x b q k. search rules)
    ∙ listed (class_stages_fit) no_class_stages c.args.c
    ∙ ap (all_to (λ i. (class_stages_fit) (get_or c.args.c i no_class_stages))) long

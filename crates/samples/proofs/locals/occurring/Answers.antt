-- `locals::occurring` has at bit j whether local alert j is raised and enabled.
-- Assumes nothing.
use Rattle.std.proofs.Common.{refl, rules, ◌∙◌}
use Rattle.std.proofs.lemmas.Iterator.{YieldsList-from_range}
use Rattle.std.proofs.lemmas.Iterator.Consumers.{fold_from_yields_List}
use Rattle.masks.proofs.MaskFolds.{put, put7}
use Rattle.samples.specs.Occurred.{among_bits}
use Rattle.samples.proofs.locals.occurring.Goals as goal

pub returns : goal.returns
returns c =
    let f = among_bits c.args.raised c.args.en in
    fold_from_yields_List _ (put 256 f) 0 _ c.fold.ensures.ran (YieldsList-from_range 0 7 7 refl refl) (λ a x b q k. search rules)
    ∙ put7 f

-- `lines` is the number whose bit e says whether line e is driven.
-- Assumes nothing.
use Rattle.std.proofs.Common.{refl, rules, ◌∙◌}
use Rattle.std.proofs.lemmas.Iterator.{YieldsList-from_range}
use Rattle.std.proofs.lemmas.Iterator.Consumers.{fold_from_yields_List}
use Rattle.class_rules.specs.Class.{drives}
use Rattle.masks.proofs.MaskFolds.{put, put4}
use Rattle.class.proofs.lines.lines.Goals as goal

pub returns : goal.returns
returns c =
    fold_from_yields_List _ (put 256 (drives c.args.c)) 0 _ c.fold.ensures.ran (YieldsList-from_range 0 4 4 refl refl) (λ a x b q k. search rules)
    ∙ put4 256 tt (drives c.args.c)

-- `ctrl::enabled` meets its contract: the four line enables, one by one.
-- Assumes nothing.
use Rattle.std.proofs.Common.{refl, ◌≡◌, false, ◌||◌, rules}
use Rattle.std.proofs.lemmas.Iterator.{YieldsList-from_range}
use Rattle.std.proofs.lemmas.Iterator.Consumers.{fold_from_yields_List}
use Rattle.std.specs.List.{fold, range_with_len}
use Rattle.bits.specs.Index.{any_to}
use Rattle.class_rules.specs.Class.{line_enable}
use Rattle.class.proofs.ctrl.enabled.Goals as goal

pub returns : goal.returns
unfolding any_to
returns c =
    let e : c.fold.result ≡ fold (λ b e. b || line_enable c.args.c e) false (range_with_len 0 4) =
    fold_from_yields_List _ (λ b e. b || line_enable c.args.c e) false _ c.fold.ensures.ran (YieldsList-from_range 0 4 4 refl refl)
    (λ a x b q k. search rules) in
    simp (c.is_set.ensures, e)

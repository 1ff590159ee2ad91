-- `are_still` looks at each class by itself.
-- Assumes nothing.
use mathlib.Core.Path.{◌≡◌, ap, ◌∙◌}
use mathlib.Core.Bool.{◌&&◌}
use borrow.Author.Rules.{rules}
use lib.ListN.{length, get_or}
use Rattle.bits.specs.Index.{all_to}
use Rattle.class.specs.Still.{still}
use Rattle.class_rules.specs.Class.{no_class}
use Rattle.rules.specs.State.{class_count}
use Rattle.handler.proofs.rest.are_still.Goals as goal

pub returns : goal.returns
unfolding all_to
returns c =
    -- there are four, by their type
    let long : length c.args.classes ≡ class_count = search rules in
    let cs = c.args.classes in
    let e0 = c.is_still-a.ensures ∙ ap (still (get_or cs 0 no_class)) c.is_set.ensures in
    let e1 = c.is_still-b.ensures ∙ ap (still (get_or cs 1 no_class)) c.is_set-2.ensures in
    let e2 = c.is_still-c.ensures ∙ ap (still (get_or cs 2 no_class)) c.is_set-3.ensures in
    let e3 = c.is_still-d.ensures ∙ ap (still (get_or cs 3 no_class)) c.is_set-4.ensures in
    (λ u. ((e0 u && e1 u) && e2 u) && e3 u, long)

-- `put_class` meets its contract.
-- Assumes nothing.
use mathlib.Core.Path.{refl, ap, ◌∙◌}
use Rattle.installer.proofs.AskParts.{next, end}
use Rattle.policy.specs.Install.{under, install}
use Rattle.policy.specs.Plan.{class_entries}
use Rattle.rules.specs.Map.{number_of, is_shadowed}
use Rattle.installer.proofs.plan.put_class.Goals as goal

pub returns : goal.returns
unfolding class_entries number_of is_shadowed
returns c =
    c.put_all.ensures
    ∙ ap (install (under c.args.h.now))
    (next _ _ _ _ refl refl refl
    (next _ _ _ _ refl refl refl
    (next _ _ _ _ refl refl c.length_value.ensures
    (next _ _ _ _ refl refl c.length_value-2.ensures
    (next _ _ _ _ refl refl c.length_value-3.ensures
    (next _ _ _ _ refl refl c.length_value-4.ensures
    (next _ _ _ _ refl refl c.ctrl_value.ensures end)))))))

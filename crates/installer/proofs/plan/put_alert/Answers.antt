-- `put_alert` meets its contract.
-- Assumes nothing.
use mathlib.Core.Path.{refl, ap, ◌∙◌}
use Rattle.installer.proofs.AskParts.{next, end}
use Rattle.policy.specs.Install.{under, install}
use Rattle.policy.specs.Plan.{class_of, en_of, alert_entries}
use Rattle.rules.specs.Map.{number_of, is_shadowed}
use Rattle.installer.proofs.plan.put_alert.Goals as goal

pub returns : goal.returns
unfolding alert_entries number_of is_shadowed
returns c =
    c.put_all.ensures
    ∙ ap (install (under c.args.h.now))
    (next _ _ _ _ refl refl (c.class_value.ensures ∙ ap class_of c.mark-m.ensures) (next _ _ _ _ refl refl (c.en_value.ensures ∙ ap en_of c.mark-m.ensures) end))

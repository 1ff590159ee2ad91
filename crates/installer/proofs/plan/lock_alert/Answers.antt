-- `lock_alert` meets its contract.
-- Assumes nothing.
use mathlib.Core.Path.{refl, sym, ap, ap₂, ◌∙◌}
use mathlib.Core.Bool.{Bool, ◌&&◌}
use Rattle.installer.proofs.AskParts.{maybe, maybe_not}
use Rattle.policy.specs.Plan.{is_a, lock_entries}
use Rattle.policy.specs.Table.{mark_at}
use Rattle.rules.specs.Map.{number_of, is_shadowed}
use Rattle.installer.proofs.plan.lock_alert.Goals as goal
use Rattle.installer.proofs.plan.lock_alert.Goals.{else-locks-via-then-locks+else-is_a, else-locks-via-else-locks}

pub returns-then-is_a : goal.returns-then-is_a
unfolding lock_entries number_of is_shadowed
returns-then-is_a c =
    maybe _ _ _ _ refl
    (ap₂ ◌&&◌ (sym c.locks.ensures ∙ c.if-locks.true) (sym (c.is_a.ensures ∙ ap is_a c.mark.ensures) ∙ c.if-is_a.true))
    c.put.ensures

pub returns-else-locks : goal.returns-else-locks
unfolding lock_entries number_of
returns-else-locks c = maybe_not _ _ _ (
    elim c.else-locks.branch [
      | else-locks-via-then-locks+else-is_a w ↦
          ap₂ ◌&&◌ (sym c.locks.ensures ∙ w.if-locks.true) (sym (w.is_a.ensures ∙ ap is_a w.mark.ensures) ∙ w.if-is_a.false)
      | else-locks-via-else-locks w ↦ ap (λ (x : Bool). x && is_a (mark_at c.args.l c.args.i)) (sym c.locks.ensures ∙ w.if-locks.false)
    ])

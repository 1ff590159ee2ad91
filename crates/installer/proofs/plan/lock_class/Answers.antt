-- `lock_class` meets its contract.
-- Assumes nothing.
use mathlib.Core.Path.{refl, sym, ◌∙◌}
use Rattle.installer.proofs.AskParts.{maybe, maybe_not}
use Rattle.policy.specs.Plan.{class_lock}
use Rattle.rules.specs.Map.{number_of, is_shadowed}
use Rattle.installer.proofs.plan.lock_class.Goals as goal

pub returns-then-locks : goal.returns-then-locks
unfolding class_lock number_of is_shadowed
returns-then-locks c = maybe _ _ _ _ refl (sym c.locks.ensures ∙ c.if-locks.true) c.put.ensures

pub returns-else-locks : goal.returns-else-locks
unfolding class_lock number_of
returns-else-locks c = maybe_not _ _ _ (sym c.locks.ensures ∙ c.if-locks.false)

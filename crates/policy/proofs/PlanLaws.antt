-- The six plans, tested as a whole.
-- Assumes nothing.
use Prim.Native.Nat.{ℕ, zero, suc, ◌<◌}
use mathlib.Core.Path.{◌≡◌, refl}
use mathlib.Core.Bool.{true}
use native.Mathlib.Omega.{arith}
use Rattle.rules.specs.Map.{number_of, bits, read_only, guard}
use Rattle.rules.specs.State.{class_count}
use Rattle.policy.specs.Plan.{alert_entries, class_entries, lock_entries, class_lock, parts_to, plan_of}
use Rattle.policy.specs.Sound.{unnamed, unguarded, sound, ahead, all_planned}
use Rattle.policy.specs.Table.{alert_count, mark_at}
use Rattle.policy.specs.declared.Lifecycle.{Lifecycle}

by_lifecycle : (P : Lifecycle → Type 0) → P Lifecycle.Raw → P Lifecycle.Prod → P Lifecycle.ProdEnd → P Lifecycle.Dev → P Lifecycle.Rma → P Lifecycle.Scrap
    → (l : Lifecycle) → P l
by_lifecycle P a b c d e f Lifecycle.Raw = a
by_lifecycle P a b c d e f Lifecycle.Prod = b
by_lifecycle P a b c d e f Lifecycle.ProdEnd = c
by_lifecycle P a b c d e f Lifecycle.Dev = d
by_lifecycle P a b c d e f Lifecycle.Rma = e
by_lifecycle P a b c d e f Lifecycle.Scrap = f

-- every entry can be written and read back, and no later one undoes or hinders it
pub plan_sound : (l : Lifecycle) → sound alert_count (plan_of l) ≡ true
unfolding sound unnamed unguarded plan_of parts_to alert_entries class_entries lock_entries class_lock mark_at number_of bits read_only guard
plan_sound l = by_lifecycle (λ l. sound alert_count (plan_of l) ≡ true) refl refl refl refl refl refl l

-- the threshold of each class is written before its lock
pub plan_ahead : (l : Lifecycle) (k : ℕ) → k < class_count → ahead k (plan_of l) ≡ true
unfolding ahead plan_of parts_to alert_entries class_entries lock_entries class_lock mark_at number_of
plan_ahead l zero h = by_lifecycle (λ l. ahead 0 (plan_of l) ≡ true) refl refl refl refl refl refl l
plan_ahead l (suc zero) h = by_lifecycle (λ l. ahead 1 (plan_of l) ≡ true) refl refl refl refl refl refl l
plan_ahead l (suc (suc zero)) h = by_lifecycle (λ l. ahead 2 (plan_of l) ≡ true) refl refl refl refl refl refl l
plan_ahead l (suc (suc (suc zero))) h = by_lifecycle (λ l. ahead 3 (plan_of l) ≡ true) refl refl refl refl refl refl l
plan_ahead l (suc (suc (suc (suc k)))) h = absurd (omega arith)

-- it names alerts below 58 and classes alone, no CAUSE and no ACCUM_CNT
pub plan_planned : (l : Lifecycle) → all_planned (plan_of l) ≡ true
unfolding all_planned plan_of parts_to alert_entries class_entries lock_entries class_lock mark_at number_of
plan_planned l = by_lifecycle (λ l. all_planned (plan_of l) ≡ true) refl refl refl refl refl refl l

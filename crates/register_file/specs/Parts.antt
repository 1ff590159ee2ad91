-- What `store` and `with_stage` of the rules leave of each part of the state, so that a part can be made anew by itself.
-- Assumes nothing.
use Rattle.std.specs.Prelude.{ℕ, Bool, true, false, cond, List, eqb, ltb, get_or, set}
use Rattle.class_rules.specs.Class.{no_class}
use Rattle.class_rules.specs.declared.Class.{Class}
use Rattle.rules.specs.Access.{field_stored, with_setting, with_interrupt, with_ping}
use Rattle.rules.specs.Map.{single_number}
use Rattle.rules.specs.Stages.{local_stages, no_class_stages, with_local_stages, with_setting_stage}
use Rattle.rules.specs.State.{most, local_count, class_count, field_index, local_column, alert_column, with_local_column, put}
use Rattle.rules.specs.declared.Alerts.{Alerts}
use Rattle.rules.specs.declared.ClassStages.{ClassStages}
use Rattle.rules.specs.declared.Interrupts.{Interrupts}
use Rattle.rules.specs.declared.LocalStages.{LocalStages}
use Rattle.rules.specs.declared.Locals.{Locals}
use Rattle.rules.specs.declared.Register.{Register}
use Rattle.rules.specs.declared.Register.TheVariants.{Only, Local, Alert, Block, Unassigned}
use Rattle.rules.specs.declared.Single.TheVariants.{PingTimeout}
use Rattle.rules.specs.declared.Timer.{Timer}

-- an alerts' column with w at i, where there is such an entry
abbrev pub set_in : List ℕ → ℕ → ℕ → List ℕ
set_in xs i w = cond (ltb i most) (set xs i w) xs

-- ── v stored at register q ──

abbrev pub stored_interrupts : Register → ℕ → Interrupts → Interrupts
stored_interrupts (Only o) v i = with_interrupt o v i
stored_interrupts (Local f j) v i = i
stored_interrupts (Alert f k) v i = i
stored_interrupts (Block s k) v i = i
stored_interrupts Unassigned v i = i

abbrev pub stored_timer : Register → ℕ → Timer → Timer
stored_timer (Only o) v t = with_ping o v t
stored_timer (Local f j) v t = t
stored_timer (Alert f i) v t = t
stored_timer (Block s k) v t = t
stored_timer Unassigned v t = t

abbrev pub stored_locals : Register → ℕ → Locals → Locals
stored_locals (Only o) v l = l
stored_locals (Local f j) v l = with_local_column f (put local_count (local_column f l) 0 j (field_stored f (get_or (local_column f l) j 0) v)) l
stored_locals (Alert f i) v l = l
stored_locals (Block s k) v l = l
stored_locals Unassigned v l = l

abbrev pub stored_classes : Register → ℕ → List Class → List Class
stored_classes (Only o) v cs = cs
stored_classes (Local f j) v cs = cs
stored_classes (Alert f i) v cs = cs
stored_classes (Block s k) v cs = put class_count cs no_class k (with_setting s v (get_or cs k no_class))
stored_classes Unassigned v cs = cs

-- what an alert's register then holds; 0 where q is none
abbrev pub stored_alert : Register → ℕ → Alerts → ℕ
stored_alert (Only o) v a = 0
stored_alert (Local f j) v a = 0
stored_alert (Alert f i) v a = field_stored f (get_or (alert_column f a) i 0) v
stored_alert (Block s k) v a = 0
stored_alert Unassigned v a = 0

-- the alert whose register of the k-th field q is, and past the alerts where it is none
abbrev pub place_of : ℕ → Register → ℕ
place_of k (Only o) = most
place_of k (Local f j) = most
place_of k (Alert f i) = cond (eqb (field_index f) k) i most
place_of k (Block s j) = most
place_of k Unassigned = most

-- ── the code c at register q's stage ──

abbrev pub restaged_locals : Register → ℕ → LocalStages → LocalStages
restaged_locals (Only o) c l = l
restaged_locals (Local f j) c l = with_local_stages f (put local_count (local_stages f l) 0 j c) l
restaged_locals (Alert f i) c l = l
restaged_locals (Block s k) c l = l
restaged_locals Unassigned c l = l

abbrev pub restaged_classes : Register → ℕ → List ClassStages → List ClassStages
restaged_classes (Only o) c cs = cs
restaged_classes (Local f j) c cs = cs
restaged_classes (Alert f i) c cs = cs
restaged_classes (Block s k) c cs = put class_count cs no_class_stages k (with_setting_stage s c (get_or cs k no_class_stages))
restaged_classes Unassigned c cs = cs

abbrev pub restaged_timeout : Register → ℕ → ℕ → ℕ
restaged_timeout (Only o) c t = cond (eqb (single_number o) (single_number PingTimeout)) c t
restaged_timeout (Local f j) c t = t
restaged_timeout (Alert f i) c t = t
restaged_timeout (Block s k) c t = t
restaged_timeout Unassigned c t = t

-- a register that there is one of: of these the ping timer's timeout alone has a stage, and that holds any number
abbrev pub is_only : Register → Bool
is_only (Only o) = true
is_only (Local f j) = false
is_only (Alert f i) = false
is_only (Block s k) = false
is_only Unassigned = false

-- the code of an alert's register; 0 where q is none
abbrev pub code_of : Register → ℕ → ℕ
code_of (Only o) c = 0
code_of (Local f j) c = 0
code_of (Alert f i) c = c
code_of (Block s k) c = 0
code_of Unassigned c = 0

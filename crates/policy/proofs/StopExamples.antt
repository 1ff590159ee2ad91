-- Where a boot does not begin and where it stops, by example.
-- Assumes nothing.
use Prim.Native.Nat.{ℕ, ◌+◌}
use mathlib.Core.Path.{◌≡◌, refl}
use mathlib.Core.Bool.{true, false}
use lib.IntN.{ℤ, pos, negsuc}
use lib.ListN.{set, replicate}
use Rattle.rules.specs.Stages.{stage}
use Rattle.rules.specs.State.{new_handler, reset_class, no_stages, with_alerts, with_classes, with_stages}
use Rattle.rules.specs.declared.Field.{Field}
use Rattle.rules.specs.declared.Handler.{Handler}
use Rattle.rules.specs.declared.Register.TheVariants.{Alert}
use Rattle.rules.proofs.Scenes.{rules}
use Rattle.policy.specs.Install.{asked, ask, install, read, asks_of, asks}
use Rattle.policy.specs.Plan.{alert_entries, class_entries, lock_entries, class_lock, parts_to, plan_of, boot}
use Rattle.policy.specs.Table.{mark_at}
use Rattle.policy.specs.declared.Lifecycle.{Lifecycle}
use Rattle.policy.specs.declared.Lifecycle.TheVariants.{Raw, Prod}

-- names every definition that an example computes with
unfoldable policy : ℕ → ℕ
unfolding rules asked ask install asks_of asks alert_entries class_entries lock_entries class_lock parts_to plan_of boot mark_at
policy n = n

-- register and answer
abbrev Stops : Lifecycle → Handler → ℕ → ℤ → Type 0
Stops l h r z = ((boot l h).register ≡ r) × ((boot l h).answer ≡ z)

-- ── it does not begin ──

-- N = 57: 13, and the state unchanged
few_alerts : boot Prod (new_handler 57) ≡ record { handler = new_handler 57; answer = negsuc 12; register = 0; spare = replicate 6 0 }
unfolding policy
few_alerts = refl

-- a damaged state, a class in STATE 2: 7, also of 57 alerts
abbrev damaged : ℕ → Handler
damaged n =
    with_classes (set (replicate 4 reset_class) 3
    (record { lengths = replicate 4 0; timeout = 0; count = 0; ctrl = 0x393C; accum = 0; thresh = 0; regwen = 1; clrwen = 1; state = 2 })) (new_handler n)

bad_state : (boot Prod (damaged 58) ≡ record { handler = damaged 58; answer = negsuc 6; register = 0; spare = replicate 6 0 })
    × (boot Prod (damaged 57) ≡ record { handler = damaged 57; answer = negsuc 6; register = 0; spare = replicate 6 0 })
unfolding policy
bad_state = (refl, refl)

-- ── it stops at a register ──

-- an alert already locked: -3 at its CLASS
abbrev shut : ℕ → Handler
shut i = with_alerts (record { regwen = set (replicate 248 1) i 0; en = replicate 248 0; class = replicate 248 0; cause = replicate 248 0 }) (new_handler 58)

alert_locked : Stops Prod (shut 0) 768 (negsuc 2) × Stops Raw (shut 1) 769 (negsuc 2)
unfolding policy
alert_locked = ((refl, refl), (refl, refl))

-- a stage open at CLASS of alert 0 with this value
abbrev pub staged : ℕ → Handler
staged v =
    with_stages (record { classes = no_stages.classes; alerts = record { en = replicate 248 0; class = set (replicate 248 0) 0 (v + 1) }; locals = no_stages.locals; timeout = 0 }) (new_handler 58)

-- alert 0 is marked C in PROD, so that 2 is written: -12 where it is 1
other_stage : Stops Prod (staged 1) 768 (negsuc 11)
unfolding policy
other_stage = (refl, refl)

-- the state reached is the one after that tick, which dropped the stage
stage_gone : stage (boot Prod (staged 1)).handler (Alert Field.Class 0) ≡ 0
unfolding policy
stage_gone = refl

-- ── a difference ──

-- EN of alert 0 reads 0 where 1 is wanted: it stops there, with the value read; where 0 is wanted it goes on
difference : ((asked (new_handler 58) (read 512 1)).reached.register ≡ 512) × ((asked (new_handler 58) (read 512 1)).reached.answer ≡ pos 0)
    × ((asked (new_handler 58) (read 512 1)).going ≡ false) × ((asked (new_handler 58) (read 512 0)).going ≡ true)
unfolding policy
difference = (refl, refl, refl, refl)

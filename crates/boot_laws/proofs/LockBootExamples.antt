-- Boots that stop at class A's lock or go on, by example: the theorems at work.
-- Assumes nothing.
use Prim.Native.Nat.{ℕ}
use mathlib.Core.Path.{◌≡◌, refl, ap}
use native.Mathlib.Omega.{arith}
use lib.IntN.{negsuc}
use lib.ListN.{set, replicate}
use Rattle.rules.specs.Access.{value}
use Rattle.rules.specs.State.{new_handler, reset_class, with_classes}
use Rattle.rules.specs.declared.Handler.{Handler}
use Rattle.rules.specs.declared.Register.TheVariants.{Block}
use Rattle.rules.specs.declared.Setting.TheVariants.{AccumThresh}
use Rattle.rules.proofs.Scenes.{rules}
use Rattle.policy.specs.Plan.{alert_entries, class_entries, lock_entries, class_lock, parts_to, plan_of, boot}
use Rattle.policy.specs.Sound.{free}
use Rattle.policy.specs.Table.{mark_at}
use Rattle.policy.specs.declared.Installed.{Installed}
use Rattle.policy.specs.declared.Lifecycle.TheVariants.{Prod}
use Rattle.policy.proofs.StopExamples.{staged}
use Rattle.boot_laws.specs.Boots.{booted}
use Rattle.boot_laws.proofs.After.{boot_stands}
use Rattle.boot_laws.proofs.Boot.{boot_succeeds}
use Rattle.boot_laws.proofs.StopLaws.{class_locked}

-- names every definition that an example computes with
unfoldable policy : ℕ → ℕ
unfolding rules alert_entries class_entries lock_entries class_lock parts_to plan_of mark_at free
policy n = n

-- class A alone locked: all alerts are written, then -3 at 1285
abbrev locked_a : Handler
locked_a =
    with_classes (set (replicate 4 reset_class) 0
    (record { lengths = replicate 4 0; timeout = 0; count = 0; ctrl = 0x393C; accum = 0; thresh = 0; regwen = 0; clrwen = 1; state = 0 })) (new_handler 58)

class_a_locked : ((boot Prod locked_a).register ≡ 1285) × ((boot Prod locked_a).answer ≡ negsuc 2)
unfolding policy
class_a_locked = class_locked Prod locked_a refl (omega arith) refl refl

-- an equal stage
equal_stage : boot Prod (staged 2) ≡ booted Prod (staged 2)
unfolding policy
equal_stage = boot_succeeds Prod (staged 2) refl (omega arith) refl

-- a threshold of 65535 that an earlier caller left at class A with EN: refusal 14 would stop the lock, but the threshold is written first
abbrev silly : Handler
silly =
    with_classes (set (replicate 4 reset_class) 0
    (record { lengths = replicate 4 0; timeout = 0; count = 0; ctrl = 0x393D; accum = 0; thresh = 65535; regwen = 1; clrwen = 1; state = 0 })) (new_handler 58)

silly_boots : boot Prod silly ≡ booted Prod silly
unfolding policy
silly_boots = boot_succeeds Prod silly refl (omega arith) refl

-- it is overwritten and read back
silly_gone : value (boot Prod silly).handler (Block AccumThresh 0) ≡ 0
silly_gone =
    (boot_stands Prod silly
    (record { register = ap (λ (r : Installed). r.register) silly_boots; answer = ap (λ (r : Installed). r.answer) silly_boots })).thresh 0 (omega arith)

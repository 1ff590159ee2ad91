-- A boot while the ping timer is on: a ping that fails in it makes local 0 occur, so that what moves with an event is not as before.
-- Assumes nothing.
use Prim.Native.Nat.{ℕ, ◌^◌}
use mathlib.Core.Path.{◌≡◌, refl}
use mathlib.Core.List.{[], ◌∷◌}
use native.Mathlib.Omega.{arith}
use lib.ListN.{get_or, set, replicate}
use Rattle.rules.proofs.Scenes.{rules, zeros}
use Rattle.rules.specs.Access.{value}
use Rattle.rules.specs.State.{new_handler, with_links, with_locals, with_timer}
use Rattle.rules.specs.declared.Field.{Field}
use Rattle.rules.specs.declared.Handler.{Handler}
use Rattle.rules.specs.declared.Register.TheVariants.{Local}
use Rattle.policy.specs.Install.{asks_of, asks}
use Rattle.policy.specs.Plan.{alert_entries, class_entries, lock_entries, class_lock, parts_to, plan_of, boot}
use Rattle.policy.specs.Sound.{free}
use Rattle.policy.specs.Table.{mark_at}
use Rattle.policy.specs.declared.Lifecycle.TheVariants.{Prod}
use Rattle.boot_laws.specs.Boots.{booted}
use Rattle.boot_laws.specs.Ran.{reach, no_ask}
use Rattle.boot_laws.proofs.Boot.{boot_succeeds}

-- names every definition that an example computes with
unfoldable pub policy : ℕ → ℕ
unfolding rules alert_entries class_entries lock_entries class_lock parts_to plan_of mark_at free asks_of asks
policy n = n

-- 59 alerts; the ping of alert 58 is open, the timeout is 1, and local 0 is enabled or not
abbrev pinged : ℕ → Handler
pinged on =
    with_timer (record { timeout = 1; regwen = 1; enable = 1 })
    (with_links
    (record {
      receivers = record { pausing = zeros; busy = zeros; level = zeros; pending = 2 ^ 5 ∷ 0 ∷ 0 ∷ 0 ∷ [] };
      turn = record { number = 0; alert = 58; count = 0 };
      lines = 0;
      senders = (new_handler 59).links.senders;
      right = 0;
    })
    (with_locals (record { regwen = replicate 7 1; en = set (replicate 7 0) 0 on; class = replicate 7 0; cause = replicate 7 0 }) (new_handler 59)))

-- the boot succeeds
succeeds : boot Prod (pinged 1) ≡ booted Prod (pinged 1)
unfolding policy
succeeds = boot_succeeds Prod (pinged 1) refl (omega arith) refl

-- the CAUSE of local 0 after its first tick, where local 0 is enabled and where it is not
abbrev cause : ℕ → ℕ
cause on = value (reach (pinged on) (get_or (asks (plan_of Prod)) 0 no_ask)) (Local Field.Cause 0)

occurs : (cause 1 ≡ 1) × (cause 0 ≡ 0)
unfolding policy
occurs = (refl, refl)

-- Boots among calls: an escalation that goes on through one that stops in the middle, computed and by the theorem; how many ticks a boot has.
-- Assumes nothing.
use Prim.Native.Nat.{ℕ, ◌+◌, ◌≤◌, ◌<◌}
use mathlib.Core.Path.{◌≡◌, refl, ap, ◌∙◌}
use mathlib.Core.Bool.{Bool, true, false}
use mathlib.Core.List.{List, [], ◌∷◌, ◌++◌, map}
use native.Mathlib.Omega.{arith}
use lib.IntN.{negsuc}
use lib.ListN.{length, set, replicate}
use Rattle.bits.specs.Bits.{bit}
use Rattle.class_rules.specs.declared.Class.{Class}
use Rattle.escalation.proofs.StartExamples.{locked}
use Rattle.escalation.specs.Escalation.{Escalated}
use Rattle.escalation.specs.List.{IsTick, given_at}
use Rattle.rules.proofs.Scenes.{rules}
use Rattle.rules.specs.Map.{number_of, is_shadowed}
use Rattle.rules.specs.Scenes.{rest, raise, none}
use Rattle.rules.specs.State.{new_handler, reset_class, with_alerts, with_classes}
use Rattle.rules.specs.declared.Handler.{Handler}
use Rattle.policy.specs.Install.{asked, ask, install, asks_of, asks}
use Rattle.policy.specs.Plan.{alert_entries, class_entries, lock_entries, class_lock, parts_to, plan_of, boot}
use Rattle.policy.specs.Table.{mark_at}
use Rattle.policy.specs.declared.Installed.{Installed}
use Rattle.policy.specs.declared.Lifecycle.{Lifecycle}
use Rattle.policy.specs.declared.Lifecycle.TheVariants.{Raw, Prod, Dev}
use Rattle.boot_laws.specs.Ran
use Rattle.boot_laws.specs.Stands.{Success}
use Rattle.boot_laws.proofs.Boot.{new_succeeds}
use Rattle.calls.specs.BootTicks.{ran, boot_inputs}
use Rattle.calls.specs.Calls.{Call, Tick, Boot, leaves, inputs, Shown, seen, leaves_all, in_turn, inputs_all, seen_all, seen_at, AcrossCalls}
use Rattle.calls.proofs.BootTicks.{boot_ran}
use Rattle.calls.proofs.Calls.{across_calls}
use Rattle.calls.proofs.CallExamples.{lines}

-- names every definition that an example computes with
unfoldable policy : ℕ → ℕ
unfolding rules asked ask install asks_of asks alert_entries class_entries lock_entries class_lock parts_to plan_of boot mark_at ran boot_inputs in_turn leaves_all
policy n = n

-- ── 58 alerts; alert 1 is locked, and its event starts class 2, locked with EN and LOCK, whose phases have 3, 4, 2 and 2 ticks ──

abbrev class : Class
class = locked 0 0 (3 ∷ 4 ∷ 2 ∷ 2 ∷ [])

abbrev station : Handler
station =
    with_classes (set (replicate 4 reset_class) 2 class)
    (with_alerts (record { regwen = set (replicate 248 1) 1 0; en = set (replicate 248 0) 1 1; class = set (replicate 248 0) 1 2; cause = replicate 248 0 })
    (new_handler 58))

abbrev starting : Call
starting = Tick (raise 1 none)

abbrev calls : List Call
calls = starting ∷ Boot Raw ∷ Tick (rest none) ∷ []

-- the boot writes alert 0's CLASS and EN and stops at alert 1's CLASS, register 769, with -3: seven ticks
stops : ((boot Raw (leaves station starting)).register ≡ 769)
    × ((boot Raw (leaves station starting)).answer ≡ negsuc 2)
    × (length (inputs (leaves station starting) (Boot Raw)) ≡ 7)
unfolding policy
stops = (refl, refl, refl)

-- the start in tick 100 is seen on line 0, the boot's ticks 101 to 107 by nobody, and tick 108, the last of Phase 2, on line 2
computed : map lines (seen_all station calls)
    ≡ (true ∷ false ∷ false ∷ false ∷ [])
    ∷ replicate 7 []
    ++ (false ∷ false ∷ true ∷ false ∷ [])
    ∷ []
unfolding policy
computed = refl

-- ── the same start, then a boot of any lifecycle, and then any calls cs ──

module _ (l : Lifecycle) (cs : List Call) (t : ℕ) (from : 100 ≤ t) where
  abbrev after : List Call
  after = starting ∷ Boot l ∷ cs

  module _ (to : t < 100 + length (inputs_all station after)) where
    claim : AcrossCalls station after
    unfolding rules
    claim = across_calls station after refl

    of_list : IsTick 100 (inputs_all station after) t
    of_list = record { from = from; to = to }

    escalated : Escalated class 100 t (given_at 100 station (inputs_all station after) t) 2
    unfolding rules in_turn
    escalated =
        claim.demand3.escalation 100 2 100 (record { from = omega arith; to = omega arith })
        (record { is_class = omega arith; is_start = refl; is_locked = refl; has_en = refl; has_lock = refl }) t from of_list

    -- line 2 is on in ticks 107 and 108, wherever they are seen, and line 3 in 109 and 110
    goes_on : (f : ℕ → Bool) → seen_at 100 station after t ≡ Shown f → 107 ≤ t → t < 109 → f 2 ≡ true
    unfolding bit
    goes_on f s a b =
        claim.line 100 t 2 f of_list s (omega arith)
        ∙ (escalated.line 2 (omega arith)).inside refl (record { from = omega arith; to = omega arith })

    last_line : (f : ℕ → Bool) → seen_at 100 station after t ≡ Shown f → 109 ≤ t → t < 111 → f 3 ≡ true
    unfolding bit
    last_line f s a b =
        claim.line 100 t 3 f of_list s (omega arith)
        ∙ (escalated.line 3 (omega arith)).inside refl (record { from = omega arith; to = omega arith })

-- ── how many ticks a boot has ──

-- none under 58 alerts, refused with 13, and none of a state of 249, refused with 7
none_run : (inputs (new_handler 57) (Boot Prod) ≡ []) × (seen (new_handler 57) (Boot Prod) ≡ []) × (inputs (new_handler 249) (Boot Prod) ≡ [])
unfolding policy
none_run = (refl, refl, refl)

-- on a new handler all: 474 in PROD, 432 in DEV
succeeds : (l : Lifecycle) → Success l (new_handler 58)
succeeds l =
    record {
      register = ap (λ (r : Installed). r.register) (new_succeeds l 58 (omega arith) (omega arith));
      answer = ap (λ (r : Installed). r.answer) (new_succeeds l 58 (omega arith) (omega arith));
    }

whole_plan : (l : Lifecycle) → inputs (new_handler 58) (Boot l) ≡ Ran.inputs (asks (plan_of l))
whole_plan l = (boot_ran l (new_handler 58)).success (succeeds l)

all_run : (length (inputs (new_handler 58) (Boot Prod)) ≡ 474) × (length (inputs (new_handler 58) (Boot Dev)) ≡ 432)
unfolding number_of is_shadowed asks_of asks alert_entries class_entries lock_entries class_lock parts_to plan_of mark_at
all_run = (ap length (whole_plan Prod), ap length (whole_plan Dev))

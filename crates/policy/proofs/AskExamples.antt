-- One access of a boot, and a boot that does not begin, by computation: what goes on, what stops, and the state that is given.
-- Assumes nothing.
use Prim.Native.Nat.{ℕ, ◌-◌, ◌^◌}
use mathlib.Core.Path.{◌≡◌, refl}
use mathlib.Core.Bool.{Bool, true, false}
use mathlib.Core.List.{[], ◌∷◌}
use lib.IntN.{ℤ, pos, negsuc}
use lib.ListN.{set, replicate}
use Rattle.link_rules.specs.declared.Handshake.{Handshake}
use Rattle.link_rules.specs.declared.Handshake.TheVariants.{Ready, FirstPause}
use Rattle.link_rules.specs.declared.Receiver.{Receiver}
use Rattle.rules.proofs.Scenes.{rules}
use Rattle.rules.specs.Access.{value}
use Rattle.rules.specs.Stages.{stage}
use Rattle.rules.specs.State.{new_handler, with_alerts, with_interrupts, with_locals, with_links, with_stages, receiver}
use Rattle.rules.specs.declared.Field.{Field}
use Rattle.rules.specs.declared.Handler.{Handler}
use Rattle.rules.specs.declared.Register.{Register}
use Rattle.rules.specs.declared.Register.TheVariants.{Local, Alert}
use Rattle.policy.specs.Install.{is, asked, ask, install, read, write, asks_of, asks}
use Rattle.policy.specs.Plan.{alert_entries, class_entries, lock_entries, class_lock, parts_to, plan_of, boot}
use Rattle.policy.specs.Table.{mark_at}
use Rattle.policy.specs.declared.Installed.{Installed}
use Rattle.policy.specs.declared.Lifecycle.{Lifecycle}
use Rattle.policy.specs.Progress.{Progress}

-- names what the examples compute with
unfoldable boots : ℕ → ℕ
unfolding rules asked ask install asks_of asks alert_entries class_entries lock_entries class_lock parts_to plan_of boot mark_at
boots n = n

-- ── the answer that is wanted ──

-- a refusal is none, whatever its number
wanted : (is (pos 0) 0 ≡ true)
    × (is (pos 4294967295) 4294967295 ≡ true)
    × (is (pos 1) 0 ≡ false)
    × (is (pos 0) 1 ≡ false)
    × (is (negsuc 0) 0 ≡ false)
    × (is (negsuc 0) 1 ≡ false)
    × (is (negsuc 2) 2 ≡ false)
    × (is (negsuc 2) 3 ≡ false)
wanted = (refl, refl, refl, refl, refl, refl, refl, refl)

-- ── one access ──

-- CLASS of alert 0, number 768
abbrev class_of0 : Register
class_of0 = Alert Field.Class 0

-- a new handler of 58 alerts but for the REGWEN of alert 0, the EN of local alert 5, its receivers acknowledging a rise, and a stage of alert 0's CLASS
abbrev staged : ℕ → ℕ → Handler
staged regwen code =
    with_stages
    (record {
      classes = (new_handler 58).stages.classes;
      alerts = record { en = replicate 248 0; class = set (replicate 248 0) 0 code };
      locals = (new_handler 58).stages.locals;
      timeout = 0;
    })
    (with_links
    (record {
      receivers = record { pausing = replicate 4 0; busy = replicate 4 (2 ^ 64 - 1); level = replicate 4 0; pending = replicate 4 0 };
      turn = (new_handler 58).links.turn;
      lines = 0;
      senders = (new_handler 58).links.senders;
      right = 0;
    })
    (with_locals (record { regwen = replicate 7 1; en = set (replicate 7 0) 5 1; class = replicate 7 0; cause = replicate 7 0 })
    (with_alerts (record { regwen = set (replicate 248 1) 0 regwen; en = replicate 248 0; class = replicate 248 0; cause = replicate 248 0 }) (new_handler 58))))

-- what is seen of it: whether it goes on, register and answer, and of the state the CLASS of alert 0, its stage, the CAUSE of local alert 5 and
-- alert 57's receiver, which the tick's wires move
pub record Seen : Type 0 where
  pub going : Bool
  pub register : ℕ
  pub answer : ℤ
  pub held : ℕ
  pub code : ℕ
  pub shadow : ℕ
  pub link : Receiver

abbrev seen : Progress → Seen
seen p =
    let g = p.reached.handler in
    record {
      going = p.going;
      register = p.reached.register;
      answer = p.reached.answer;
      held = value g class_of0;
      code = stage g class_of0;
      shadow = value g (Local Field.Cause 5);
      link = receiver g 57;
    }

-- no ping is asked for
abbrev standing : Handshake → Bool → ℕ → ℤ → ℕ → ℕ → ℕ → Seen
standing p b r a v c s =
    record { going = b; register = r; answer = a; held = v; code = c; shadow = s; link = record { stands = p; level = false; pending = false } }

-- after one tick at (0,1) the receivers have read the drop
abbrev gives : Bool → ℕ → ℤ → ℕ → ℕ → ℕ → Seen
gives = standing FirstPause

-- the answer that is wanted: on, with register 0 and answer 0
goes_on : (seen (asked (staged 1 0) (write 768 2)) ≡ gives true 0 (pos 0) 0 3 0)
    × (seen (asked (staged 1 0) (read 768 0)) ≡ gives true 0 (pos 0) 0 0 0)
unfolding boots
goes_on = (refl, refl)

-- a refusal, and a difference: the register's own number, the answer, and the state after that tick, where the stage is gone
stops : (seen (asked (staged 0 3) (write 768 2)) ≡ gives false 768 (negsuc 2) 0 0 0)
    × (seen (asked (staged 1 2) (write 768 2)) ≡ gives false 768 (negsuc 11) 0 0 1)
    × (seen (asked (staged 1 3) (read 768 2)) ≡ gives false 768 (pos 0) 0 0 0)
unfolding boots
stops = (refl, refl, refl)

-- an equal stage: the first write commits, the second is staged, the read drops it and finds the value; after three ticks the receivers are ready
equal_stage : seen (install (asked (staged 1 3) (write 768 2)) (write 768 2 ∷ read 768 2 ∷ [])) ≡ standing Ready true 0 (pos 0) 2 0 0
unfolding boots
equal_stage = refl

-- ── the boot stops at its first access ──

-- with its number, its answer, and the state after that tick
abbrev ends : Installed → Seen
ends r = seen (record { reached = r; going = false })

at_once : (ends (boot Lifecycle.Prod (staged 0 3)) ≡ gives false 768 (negsuc 2) 0 0 0)
    × (ends (boot Lifecycle.ProdEnd (staged 1 4)) ≡ gives false 768 (negsuc 11) 0 0 1)
unfolding boots
at_once = (refl, refl)

-- ── it does not begin ──

abbrev barred : Handler → ℤ → Installed
barred h a = record { handler = h; answer = a; register = 0; spare = replicate 6 0 }

-- a state that breaks the rule
abbrev damaged : ℕ → Handler
damaged n = with_interrupts (record { state = 16; enable = 0 }) (new_handler n)

-- "It needs N of at least 58, else 13 and an unchanged state; 7 comes before"
few_alerts : (l : Lifecycle) → (boot l (new_handler 57) ≡ barred (new_handler 57) (negsuc 12)) × (boot l (new_handler 0) ≡ barred (new_handler 0) (negsuc 12))
unfolding boots
few_alerts l = (refl, refl)

bad_state : (l : Lifecycle)
    → (boot l (damaged 58) ≡ barred (damaged 58) (negsuc 6))
    × (boot l (damaged 57) ≡ barred (damaged 57) (negsuc 6))
    × (boot l (new_handler 249) ≡ barred (new_handler 249) (negsuc 6))
unfolding boots
bad_state l = (refl, refl, refl)

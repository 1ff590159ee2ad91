-- Request (xi) in a boot, which hands in receive pairs at (0,1): while a line is on, in the tick after and while a ping is being answered local 3 occurs, so
-- that what moves with an event is not as before. A boot that starts at rest has none.
-- Assumes nothing.
use Prim.Native.Nat.{ℕ}
use mathlib.Core.Path.{◌≡◌, refl}
use mathlib.Core.List.{List, [], ◌∷◌, map}
use native.Mathlib.Omega.{arith}
use lib.ListN.{set, replicate, take}
use Rattle.link_rules.specs.declared.Senders.{Senders}
use Rattle.policy.specs.Install.{asks}
use Rattle.policy.specs.Plan.{plan_of, boot}
use Rattle.policy.specs.declared.Lifecycle.TheVariants.{Prod}
use Rattle.rules.proofs.Scenes.{zeros}
use Rattle.rules.specs.Access.{value}
use Rattle.rules.specs.Run.{run}
use Rattle.rules.specs.State.{new_handler, reset_class, with_classes, with_links, with_locals}
use Rattle.rules.specs.Tick.{lines}
use Rattle.rules.specs.declared.Field.{Field}
use Rattle.rules.specs.declared.Handler.{Handler}
use Rattle.rules.specs.declared.Register.TheVariants.{Local}
use Rattle.class_rules.specs.declared.Class.{Class}
use Rattle.boot_laws.specs.Boots.{booted}
use Rattle.boot_laws.specs.Ran.{inputs}
use Rattle.boot_laws.proofs.Boot.{boot_succeeds}
use Rattle.boot_laws.proofs.PingBootExamples.{policy}

-- class D in phase 0 for one more tick, its four lines enabled, line e in phase e
abbrev phased : Class
phased = record { lengths = zeros; timeout = 0; count = 1; ctrl = 0x393C; accum = 0; thresh = 0; regwen = 1; clrwen = 1; state = 4 }

-- 59 alerts, local 3 enabled or not, class D and the senders as given
abbrev station : ℕ → Class → Senders → Handler
station on c s =
    let h = new_handler 59 in
    with_classes (reset_class ∷ reset_class ∷ reset_class ∷ c ∷ [])
    (with_links (record { receivers = h.links.receivers; turn = h.links.turn; lines = 0; senders = s; right = 0 })
    (with_locals (record { regwen = replicate 7 1; en = set (replicate 7 0) 3 on; class = replicate 7 0; cause = replicate 7 0 }) h))

abbrev rested : Senders
rested = (new_handler 59).links.senders

-- a ping's pulse was on line 0's pair in the tick before
abbrev pulsed : Senders
pulsed = record { on = 0; first = 0; last = 1; deep = 0; answer = 1 }

-- the CAUSE of local 3, and the lines, before these ticks of the boot
abbrev causes : Handler → List ℕ
causes h = map (λ i. value (run h (take i (inputs (asks (plan_of Prod))))) (Local Field.Cause 3)) (0 ∷ 1 ∷ 2 ∷ [])

abbrev lit : Handler → List ℕ
lit h = map (λ i. lines (run h (take i (inputs (asks (plan_of Prod)))))) (1 ∷ 2 ∷ 3 ∷ 4 ∷ [])

-- lines 1, 2 and 3 are on in ticks 0, 1 and 2; from tick 1 on an answer of 1 is missing
on_lines : (lit (station 1 phased rested) ≡ 2 ∷ 4 ∷ 8 ∷ 0 ∷ [])
    × (causes (station 1 phased rested) ≡ 0 ∷ 0 ∷ 1 ∷ [])
    × (causes (station 0 phased rested) ≡ 0 ∷ 0 ∷ 0 ∷ [])
unfolding policy
on_lines = (refl, refl, refl)

-- a ping being answered: it is missing in tick 0
answering : (causes (station 1 reset_class pulsed) ≡ 0 ∷ 1 ∷ 1 ∷ []) × (causes (station 1 reset_class rested) ≡ 0 ∷ 0 ∷ 0 ∷ [])
unfolding policy
answering = (refl, refl)

-- and the boot succeeds all the same
succeeds : boot Prod (station 1 phased pulsed) ≡ booted Prod (station 1 phased pulsed)
unfolding policy
succeeds = boot_succeeds Prod (station 1 phased pulsed) refl (omega arith) refl

-- Worked examples that pin refusal 7, by computation.
-- Assumes nothing.
use Prim.Native.Nat.{ℕ}
use mathlib.Core.Path.{◌≡◌, refl}
use mathlib.Core.Bool.{true, false}
use lib.ListN.{set, replicate}
use Rattle.rules.specs.State.{new_handler, reset_class, with_interrupts, with_locals, with_alerts, with_classes, with_local_column, with_alert_column}
use Rattle.rules.specs.Tick.{ticked}
use Rattle.rules.specs.Valid.{valid}
use Rattle.rules.specs.declared.Access.{Access}
use Rattle.rules.specs.declared.Answer.{Answer}
use Rattle.rules.specs.declared.Field.{Field}
use Rattle.rules.specs.declared.Handler.{Handler}
use Rattle.rules.specs.declared.Wires.{Wires}
use Rattle.rules.specs.declared.Refusal.TheVariants.{BadState}
use Rattle.rules.specs.Scenes.{raise}
use Rattle.rules.proofs.Scenes.{rules}

abbrev interrupt : ℕ → ℕ → Handler
interrupt s e = with_interrupts (record { state = s; enable = e }) (new_handler 5)

-- field f of local alert j, or of alert i of five, holds v
abbrev local_holds : Field → ℕ → ℕ → Handler
local_holds f j v = with_locals (with_local_column f (set (replicate 7 0) j v) (new_handler 5).locals) (new_handler 5)

abbrev alert_holds : Field → ℕ → ℕ → Handler
alert_holds f i v = with_alerts (with_alert_column f (set (replicate 248 0) i v) (new_handler 5).alerts) (new_handler 5)

-- class k has this STATE and count
abbrev class_holds : ℕ → ℕ → ℕ → Handler
class_holds k state count =
    with_classes
    (set (replicate 4 reset_class) k
    (record { lengths = replicate 4 0; timeout = 0; count = count; ctrl = 0; accum = 0; thresh = 0; regwen = 1; clrwen = 1; state = state }))
    (new_handler 5)

-- "N over 64", which request (iii) reads as 248; N = 0 is accepted (N = 248 is in rule_examples MostAlertsExamples)
count : (valid (new_handler 0) ≡ true) × (valid (new_handler 249) ≡ false)
unfolding rules
count = (refl, refl)

-- "any register holding more than its field's bits"
registers : (valid (interrupt 15 15) ≡ true)
    × (valid (interrupt 16 0) ≡ false)
    × (valid (interrupt 0 16) ≡ false)
    × (valid (local_holds Field.Regwen 6 2) ≡ false)
    × (valid (local_holds Field.En 6 2) ≡ false)
    × (valid (local_holds Field.Class 6 4) ≡ false)
    × (valid (local_holds Field.Cause 6 2) ≡ false)
    × (valid (local_holds Field.Class 0 3) ≡ true)
    × (valid (alert_holds Field.Regwen 4 2) ≡ false)
    × (valid (alert_holds Field.En 0 2) ≡ false)
    × (valid (alert_holds Field.Class 4 4) ≡ false)
    × (valid (alert_holds Field.Cause 4 2) ≡ false)
    × (valid (alert_holds Field.Class 4 3) ≡ true)
unfolding rules
registers = (refl, refl, refl, refl, refl, refl, refl, refl, refl, refl, refl, refl, refl)

-- "Stored entries at N and above are no registers: .. refusal 7 does not look at them"
above : (valid (alert_holds Field.Class 5 9) ≡ true)
    × (valid (alert_holds Field.Regwen 5 255) ≡ true)
    × (valid (alert_holds Field.En 247 255) ≡ true)
    × (valid (alert_holds Field.Cause 5 255) ≡ true)
unfolding rules
above = (refl, refl, refl, refl)

-- "a STATE of 2, or a class count that is not 0 in Idle or Terminal or is 0 in Timeout or a phase", in the last class too
places : (valid (class_holds 0 2 0) ≡ false)
    × (valid (class_holds 3 8 1) ≡ false)
    × (valid (class_holds 3 0 1) ≡ false)
    × (valid (class_holds 0 3 1) ≡ false)
    × (valid (class_holds 3 1 0) ≡ false)
    × (valid (class_holds 3 7 0) ≡ false)
    × (valid (class_holds 3 7 1) ≡ true)
unfolding rules
places = (refl, refl, refl, refl, refl, refl, refl)

-- "state unchanged, tick not run, interrupts and lines 0"; request (viii): all pairs (0,1), at N and above and at the places 248 to 255 too
abbrev broken : Handler
broken = with_interrupts (record { state = 16; enable = 15 }) (new_handler 5)

abbrev low : Wires
low = record { pos = replicate 4 0; neg = replicate 4 18446744073709551615 }

refuses : ticked broken (raise 0 (Access.Write 1 3))
    ≡ record {
      handler = broken;
      answer = Answer.Refused BadState;
      output = record { interrupts = 0; lines = 0; acknowledge = low; ping = low; escalation = record { pos = 0; neg = 15 } };
    }
unfolding rules
refuses = refl

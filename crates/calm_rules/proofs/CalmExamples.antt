-- Worked examples that pin request (xii), by computation.
-- Assumes nothing.
use Prim.Native.Nat.{ℕ, ◌+◌, ◌-◌, ◌^◌}
use mathlib.Core.Path.{◌≡◌, refl}
use mathlib.Core.List.{List, [], ◌∷◌, ◌++◌}
use lib.IntN.{pos, neg_ℤ}
use lib.ListN.{get_or, replicate}
use Rattle.bits.specs.Fields.{unpack}
use Rattle.class_rules.specs.Class.{no_class}
use Rattle.rules.proofs.Scenes.{rules, settings, zeros, pair, lengths, started}
use Rattle.rules.specs.Scenes.{ones, wire}
use Rattle.rules.specs.State.{new_handler, with_classes, with_interrupts, with_locals, with_timer}
use Rattle.rules.specs.Tick.{no_output}
use Rattle.rules.specs.declared.Handler.{Handler}
use Rattle.rules.specs.declared.Wires.{Wires}
use Rattle.calm_rules.specs.Call.{calm_verdict, calmed, calmed_list}
use Rattle.calm_rules.specs.Ticks.{calm_run, calm_output, change_word, calm_changes}

calm_rules : ℕ → ℕ
unfolding rules calm_run calm_output change_word calm_changes calm_verdict calmed calmed_list
calm_rules n = n

-- ── wires ──

abbrev wires_of : ℕ → ℕ → Wires
wires_of p m = record { pos = unpack (replicate 4 64) p; neg = unpack (replicate 4 64) m }

-- all at (0,1); alert 0 at (1,0); alert 0 at (1,1)
abbrev low : Wires
low = wires_of 0 ones

abbrev raised : Wires
raised = wires_of (wire 0) (ones - wire 0)

abbrev equal : Wires
equal = wires_of (wire 0) ones

-- ── the words: an alert's wire stays high, so that its one rise starts class 0 in tick 1; lengths 1, 2, 0, 1, line e in phase e ──

abbrev words : List ℕ
words = (0x8000000000000000 + 1) ∷ (0x4000000000000000 + 2) ∷ (0x2000000000000000 + 4) ∷ (0x1000000000000000 + 5) ∷ 6 ∷ []

in_order : calm_changes (lengths 1 2 0 1) raised 7 ≡ words
unfolding calm_rules
in_order = refl

-- the answer is their number, and later entries stay
abbrev list : List ℕ
list = replicate 21 77

answered : ((calmed (lengths 1 2 0 1) raised 7 list).answer ≡ pos 5) × (calmed_list (lengths 1 2 0 1) raised 7 list ≡ words ++ replicate 16 77)
unfolding calm_rules
answered = (refl, refl)

-- no more ticks than asked for: the word of tick 5 is there after 5 of them, that of tick 6 is not
cut : calm_changes (lengths 1 2 0 1) raised 5 ≡ (0x8000000000000000 + 1) ∷ (0x4000000000000000 + 2) ∷ (0x2000000000000000 + 4) ∷ (0x1000000000000000 + 5) ∷ []
unfolding calm_rules
cut = refl

-- ── "tick 0 is step 5 of the given state, pairs (0,1)": Phase 0 drives line 0, and the last tick's pair of it was on ──

abbrev low_pairs : Wires
low_pairs = record { pos = replicate 4 0; neg = replicate 4 (2 ^ 64 - 1) }

-- and alert 0's receiver acknowledges; INTR_STATE has class 0's bit, which is not enabled
none : ((calmed started low 0 list).output ≡ record { interrupts = 0; lines = 1; acknowledge = low_pairs; ping = low_pairs; escalation = record { pos = 0; neg = 15 } })
    × ((calmed started low 0 list).answer ≡ pos 0)
    × (calmed_list started low 0 list ≡ list)
unfolding calm_rules
none = (refl, refl, refl)

-- one tick on the pair is on, and nothing has changed
one : ((calmed started low 1 list).output.lines ≡ 1)
    × ((calmed started low 1 list).output.escalation ≡ record { pos = 1; neg = 14 })
    × ((calmed started low 1 list).answer ≡ pos 0)
unfolding calm_rules
one = (refl, refl, refl)

-- ── "Escalation receivers answer without fault", also to what was on the pair before the call: local 3, enabled in class 1, does not occur ──

abbrev watched : Handler
watched =
    with_classes (get_or started.classes 0 no_class ∷ settings 9 99 0 zeros ∷ settings 9 99 0 zeros ∷ settings 9 99 0 zeros ∷ [])
    (with_locals (record { regwen = replicate 7 1; en = 0 ∷ 0 ∷ 0 ∷ 1 ∷ 0 ∷ 0 ∷ 0 ∷ []; class = replicate 7 1; cause = replicate 7 0 }) started)

no_fault : ((get_or (calm_run watched low 4).classes 1 no_class).accum ≡ 0) × (get_or (calm_run watched low 4).locals.cause 3 9 ≡ 0)
unfolding calm_rules
no_fault = (refl, refl)

-- ── "Equal wires on enabled alerts are allowed": local 2 is an event of class 0 in every tick, and at threshold 2 the third starts it ──

abbrev broken : Handler
broken =
    with_locals (record { regwen = replicate 7 1; en = 0 ∷ 0 ∷ 1 ∷ 0 ∷ 0 ∷ 0 ∷ 0 ∷ []; class = replicate 7 0; cause = replicate 7 0 })
    (pair 2 0 (9 ∷ 0 ∷ 0 ∷ 0 ∷ []))

each_tick : (calm_changes broken equal 4 ≡ (0x8000000000000000 + 3) ∷ []) × ((get_or (calmed broken equal 4 list).handler.classes 0 no_class).accum ≡ 4)
unfolding calm_rules
each_tick = (refl, refl)

-- ── "The order is 7, 15, 18" ──

-- INTR_STATE over its four bits; the timer on
abbrev bad : Handler → Handler
bad h = with_interrupts (record { state = 16; enable = 0 }) h

abbrev on : Handler → Handler
on h = with_timer (record { timeout = 0; regwen = 1; enable = 1 }) h

order : ((calmed (bad (on (new_handler 1))) low 0 (replicate 19 77)).answer ≡ neg_ℤ (pos 7))
    × ((calmed (on (new_handler 1)) low 0 (replicate 19 77)).answer ≡ neg_ℤ (pos 15))
    × ((calmed (new_handler 1) low 0 (replicate 19 77)).answer ≡ neg_ℤ (pos 18))
    × ((calmed (new_handler 1) low 0 (replicate 20 77)).answer ≡ pos 0)
unfolding calm_rules
order = (refl, refl, refl, refl)

-- "each leaves state and list unchanged, outputs as on 7"
leaves : (calmed (bad started) low 9 list
    ≡ record {
      handler = bad started;
      answer = neg_ℤ (pos 7);
      output = record { interrupts = 0; lines = 0; acknowledge = low_pairs; ping = low_pairs; escalation = record { pos = 0; neg = 15 } };
    })
    × (calmed (on started) low 9 list ≡ record { handler = on started; answer = neg_ℤ (pos 15); output = no_output })
    × (calmed_list (on started) low 9 list ≡ list)
    × (calmed started low 9 (replicate 19 77) ≡ record { handler = started; answer = neg_ℤ (pos 18); output = no_output })
    × (calmed_list started low 9 (replicate 19 77) ≡ replicate 19 77)
unfolding calm_rules
leaves = (refl, refl, refl, refl, refl)

-- Worked examples that pin the rules of one class, by computation. Each names the sentence of document 01 that it holds.
-- Assumes nothing.
use Prim.Native.Nat.{ℕ, ◌+◌, ◌*◌}
use mathlib.Core.Path.{◌≡◌, refl}
use mathlib.Core.Bool.{Bool, true, false}
use mathlib.Core.List.{List, [], ◌∷◌, map}
use lib.ListN.{replicate}
use Rattle.bits.specs.Bits.{bit}
use Rattle.bits.specs.Index.{any_to}
use Rattle.class_rules.specs.Class.{en, lock, line_enable, line_map, enabled, state_of, state_number, drives, class_fits}
use Rattle.class_rules.specs.Step.{trigger, due, counted, at, starts_from, moved_from, moved, starts, class_step}
use Rattle.class_rules.specs.declared.Class.{Class}
use Rattle.class_rules.specs.declared.ClassState.TheVariants.{Idle, Timeout, Phase0, Phase1, Phase2, Phase3, Terminal}
use Rattle.class_rules.specs.declared.Signals.{Signals}

-- `unfolding rules` opens every definition that an example computes with
rules : ℕ → ℕ
unfolding bit any_to state_of drives class_fits counted starts_from moved_from class_step
rules n = n

-- ── scenes ──

-- a class at this STATE and count, with this CTRL, ACCUM_CNT, ACCUM_THRESH and TIMEOUT_CYC, and lengths 3, 0, 2, 5
abbrev class : ℕ → ℕ → ℕ → ℕ → ℕ → ℕ → Class
class state count ctrl accum thresh timeout =
    record {
      lengths = 3 ∷ 0 ∷ 2 ∷ 5 ∷ [];
      timeout = timeout;
      count = count;
      ctrl = ctrl;
      accum = accum;
      thresh = thresh;
      regwen = 1;
      clrwen = 1;
      state = state;
    }

abbrev ctrl_of : ℕ → Class
ctrl_of ctrl = class 0 0 ctrl 0 0 0

-- a class with EN and line 0 at this STATE and count, threshold 9 and TIMEOUT_CYC 2
abbrev waits : ℕ → ℕ → Class
waits state count = class state count 5 0 9 2

-- what it meets: nothing, an event, its interrupt bit, an accepted clear
abbrev meets : Bool → Bool → Bool → Signals
meets e i c = record { event = e; interrupt = i; clear = c }

abbrev nothing : Signals
nothing = meets false false false

abbrev event : Signals
event = meets true true false

abbrev interrupt : Signals
interrupt = meets false true false

abbrev clear : Signals
clear = meets false false true

-- ── CTRL ──

-- "bit 0 EN, 1 LOCK"
en_lock : (en (ctrl_of 1) ≡ true) × (en (ctrl_of 0x3FFE) ≡ false) × (lock (ctrl_of 2) ≡ true) × (lock (ctrl_of 0x3FFD) ≡ false)
unfolding rules
en_lock = (refl, refl, refl, refl)

-- "2 to 5 line enables", line 0 lowest
enables : (line_enable (ctrl_of 0x04) 0 ≡ true)
    × (line_enable (ctrl_of 0x08) 1 ≡ true)
    × (line_enable (ctrl_of 0x10) 2 ≡ true)
    × (line_enable (ctrl_of 0x20) 3 ≡ true)
    × (line_enable (ctrl_of 0x3FFB) 0 ≡ false)
    × (line_enable (ctrl_of 0x3FDF) 3 ≡ false)
unfolding rules
enables = (refl, refl, refl, refl, refl, refl)

-- "6 to 13 line maps, two bits a line": lines 0 to 3 to phases 1, 2, 0, 3
maps : (line_map (ctrl_of 0x3240) 0 ≡ 1) × (line_map (ctrl_of 0x3240) 1 ≡ 2) × (line_map (ctrl_of 0x3240) 2 ≡ 0) × (line_map (ctrl_of 0x3240) 3 ≡ 3)
maps = (refl, refl, refl, refl)

-- request (i): "EN is 1 and at least one line enable is 1": none, all but EN, each alone, all maps and LOCK without an enable
lines_enable : (enabled (ctrl_of 0x01) ≡ false)
    × (enabled (ctrl_of 0x3FFE) ≡ false)
    × (enabled (ctrl_of 0x05) ≡ true)
    × (enabled (ctrl_of 0x09) ≡ true)
    × (enabled (ctrl_of 0x11) ≡ true)
    × (enabled (ctrl_of 0x21) ≡ true)
    × (enabled (ctrl_of 0x3FC3) ≡ false)
    × (enabled (ctrl_of 0x3F) ≡ true)
unfolding rules
lines_enable = (refl, refl, refl, refl, refl, refl, refl, refl)

-- with EN, all sixteen sets of line enables, none first: only that one is off
lines_table : map (λ (lines : ℕ). enabled (ctrl_of (1 + 4 * lines))) (0 ∷ 1 ∷ 2 ∷ 3 ∷ 4 ∷ 5 ∷ 6 ∷ 7 ∷ 8 ∷ 9 ∷ 10 ∷ 11 ∷ 12 ∷ 13 ∷ 14 ∷ 15 ∷ [])
    ≡ false ∷ replicate 15 true
unfolding rules
lines_table = refl

-- "STATE reads Idle 0, Timeout 1, Terminal 3, phases 4 to 7"
states : (state_of 0 ≡ Idle)
    × (state_of 1 ≡ Timeout)
    × (state_of 3 ≡ Terminal)
    × (state_of 4 ≡ Phase0)
    × (state_of 5 ≡ Phase1)
    × (state_of 6 ≡ Phase2)
    × (state_of 7 ≡ Phase3)
    × (state_number Terminal ≡ 3)
    × (state_number Phase3 ≡ 7)
unfolding rules
states = (refl, refl, refl, refl, refl, refl, refl, refl, refl)

-- "class k drives line e if enable e is set and k is in the phase that map e names": CTRL 0x25F, lines 0, 1, 2 to phases 1, 2, 0, line 3 off
abbrev driven_at : ℕ → List Bool
driven_at s =
    let c = class s 1 0x25F 0 0 0 in
    drives c 0 ∷ drives c 1 ∷ drives c 2 ∷ drives c 3 ∷ []

driven : (driven_at 4 ≡ false ∷ false ∷ true ∷ false ∷ [])
    × (driven_at 5 ≡ true ∷ false ∷ false ∷ false ∷ [])
    × (driven_at 6 ≡ false ∷ true ∷ false ∷ false ∷ [])
    × (driven_at 7 ≡ false ∷ false ∷ false ∷ false ∷ [])
    × (driven_at 3 ≡ false ∷ false ∷ false ∷ false ∷ [])
    × (driven_at 1 ≡ false ∷ false ∷ false ∷ false ∷ [])
    × (driven_at 0 ≡ false ∷ false ∷ false ∷ false ∷ [])
unfolding rules
driven = (refl, refl, refl, refl, refl, refl, refl)

-- ── step 3 ──

-- "an event with no accepted clear in this tick and ACCUM_CNT at or above ACCUM_THRESH before counting"
triggers : (trigger event (class 0 0 5 2 2 0) ≡ true)
    × (trigger event (class 0 0 5 1 2 0) ≡ false)
    × (trigger event (class 0 0 5 3 2 0) ≡ true)
    × (trigger (meets true true true) (class 0 0 5 2 2 0) ≡ false)
    × (trigger interrupt (class 0 0 5 2 2 0) ≡ false)
triggers = (refl, refl, refl, refl, refl)

-- "A clear makes ACCUM_CNT 0 and the event isn't counted; otherwise an event adds 1, staying at 65,535"
counts : (counted event (class 0 0 5 65534 0 0) ≡ 65535)
    × (counted event (class 0 0 5 65535 0 0) ≡ 65535)
    × (counted nothing (class 0 0 5 7 0 0) ≡ 7)
    × (counted clear (class 0 0 5 7 0 0) ≡ 0)
    × (counted (meets true true true) (class 0 0 5 7 0 0) ≡ 0)
unfolding rules
counts = (refl, refl, refl, refl, refl)

-- "Counting goes on in every state": a phase and Terminal
counts_on : ((class_step event (class 6 1 5 7 0 0)).accum ≡ 8) × ((class_step event (class 3 0 5 7 0 0)).accum ≡ 8) × ((class_step clear (class 3 0 5 7 0 0)).accum ≡ 0)
unfolding rules
counts_on = (refl, refl, refl)

-- ── step 4 ──

-- "EN is 1, the interrupt bit is now 1 and TIMEOUT_CYC is above 0"
dues : (due interrupt (class 0 0 5 0 0 1) ≡ true)
    × (due interrupt (class 0 0 0x3FFE 0 0 1) ≡ false)
    × (due nothing (class 0 0 5 0 0 1) ≡ false)
    × (due interrupt (class 0 0 5 0 0 0) ≡ false)
    × (due interrupt (class 0 0 0x3FC3 0 0 1) ≡ false)
unfolding rules
dues = (refl, refl, refl, refl, refl)

-- "Idle: trigger to Phase 0, count 1; else if due to Timeout, count 1"; a clear with due goes to Timeout
from_idle : (moved event (class 0 0 5 0 0 2) ≡ at Phase0 1)
    × (moved event (waits 0 0) ≡ at Timeout 1)
    × (moved interrupt (waits 0 0) ≡ at Timeout 1)
    × (moved (meets true true true) (class 0 0 5 0 0 2) ≡ at Timeout 1)
    × (moved nothing (waits 0 0) ≡ at Idle 0)
    × (moved event (class 0 0 5 0 9 0) ≡ at Idle 0)
unfolding rules
from_idle = (refl, refl, refl, refl, refl, refl)

-- "Timeout: trigger, or due with count at or above TIMEOUT_CYC, to Phase 0, count 1; else due adds 1; else Idle, count 0. A clear does
-- not stop a timeout."
from_timeout : (moved interrupt (waits 1 1) ≡ at Timeout 2)
    × (moved interrupt (waits 1 2) ≡ at Phase0 1)
    × (moved event (class 1 1 5 0 0 2) ≡ at Phase0 1)
    × (moved nothing (waits 1 1) ≡ at Idle 0)
    × (moved nothing (waits 1 2) ≡ at Idle 0)
    × (moved (meets false true true) (waits 1 1) ≡ at Timeout 2)
    × (moved (meets false true true) (waits 1 2) ≡ at Phase0 1)
    × (moved interrupt (class 1 1 5 0 9 1) ≡ at Phase0 1)
    × (moved interrupt (class 1 1 5 0 9 0) ≡ at Idle 0)
    × (moved interrupt (class 1 1 0x3FFE 0 9 2) ≡ at Idle 0)
    × (moved interrupt (class 1 1 0x3FC3 0 9 2) ≡ at Idle 0)
    × (moved interrupt (class 1 2 0x3FC3 0 9 2) ≡ at Idle 0)
unfolding rules
from_timeout = (refl, refl, refl, refl, refl, refl, refl, refl, refl, refl, refl, refl)

-- "Phase p: accepted clear to Idle, count 0; else count at or above PHASEp_CYC to the next phase, count 1 (after Phase 3 Terminal, count
-- 0); else add 1. EN is not read.": lengths 3, 0, 2, 5
from_phase : (moved nothing (waits 4 2) ≡ at Phase0 3)
    × (moved nothing (waits 4 3) ≡ at Phase1 1)
    × (moved nothing (waits 4 9) ≡ at Phase1 1)
    × (moved nothing (waits 5 1) ≡ at Phase2 1)
    × (moved nothing (waits 6 1) ≡ at Phase2 2)
    × (moved nothing (waits 6 2) ≡ at Phase3 1)
    × (moved nothing (waits 7 4) ≡ at Phase3 5)
    × (moved nothing (waits 7 5) ≡ at Terminal 0)
    × (moved (meets true true true) (waits 5 1) ≡ at Idle 0)
    × (moved clear (waits 7 1) ≡ at Idle 0)
    × (moved event (class 4 1 0 9 0 1) ≡ at Phase0 2)
    × (moved nothing (class 4 3 0x3FC3 9 0 1) ≡ at Phase1 1)
    × (moved nothing (class 7 5 0x3FC3 9 0 1) ≡ at Terminal 0)
unfolding rules
from_phase = (refl, refl, refl, refl, refl, refl, refl, refl, refl, refl, refl, refl, refl)

-- "Terminal: accepted clear to Idle"
from_terminal : (moved clear (waits 3 0) ≡ at Idle 0) × (moved (meets true true false) (class 3 0 5 9 0 2) ≡ at Terminal 0)
unfolding rules
from_terminal = (refl, refl)

-- a start is the move from Idle or Timeout to Phase 0 and nothing else
starting : (starts event (class 0 0 5 0 0 0) ≡ true)
    × (starts interrupt (waits 1 2) ≡ true)
    × (starts event (class 7 5 5 0 0 0) ≡ false)
    × (starts event (class 3 0 5 0 0 0) ≡ false)
unfolding rules
starting = (refl, refl, refl, refl)

-- "Entering Phase 0 from Idle or Timeout with LOCK set makes CLR_REGWEN 0"
locking : ((class_step event (class 0 0 7 0 0 0)).clrwen ≡ 0)
    × ((class_step interrupt (class 1 2 7 0 9 2)).clrwen ≡ 0)
    × ((class_step event (class 0 0 5 0 0 0)).clrwen ≡ 1)
    × ((class_step event (class 0 0 7 0 9 0)).clrwen ≡ 1)
    × ((class_step nothing (class 4 1 7 0 0 0)).clrwen ≡ 1)
unfolding rules
locking = (refl, refl, refl, refl, refl)

-- the step moves state, count, ACCUM_CNT and CLR_REGWEN, and leaves the rest
stepping : (class_step event (class 0 0 7 6 6 2) ≡ record { lengths = 3 ∷ 0 ∷ 2 ∷ 5 ∷ []; timeout = 2; count = 1; ctrl = 7; accum = 7; thresh = 6; regwen = 1; clrwen = 0; state = 4 })
    × ((class_step nothing (waits 7 5)).state ≡ 3)
unfolding rules
stepping = (refl, refl)

-- ── refusal 7, of a class ──

abbrev with2 : ℕ → ℕ → Class
with2 regwen clrwen = record { lengths = []; timeout = 0; count = 0; ctrl = 0; accum = 0; thresh = 0; regwen = regwen; clrwen = clrwen; state = 0 }

-- "any register holding more than its field's bits .., a STATE of 2, or a class count that is not 0 in Idle or Terminal or is 0 in Timeout
-- or a phase"
fit : (class_fits (class 0 0 0x3FFF 65535 65535 4294967295) ≡ true)
    × (class_fits (class 0 0 0x4000 0 0 0) ≡ false)
    × (class_fits (class 0 0 0 65536 0 0) ≡ false)
    × (class_fits (class 0 0 0 0 65536 0) ≡ false)
    × (class_fits (class 0 0 0 0 0 4294967296) ≡ false)
    × (class_fits (class 2 0 0 0 0 0) ≡ false)
    × (class_fits (class 2 1 0 0 0 0) ≡ false)
    × (class_fits (class 8 0 0 0 0 0) ≡ false)
    × (class_fits (class 0 1 0 0 0 0) ≡ false)
    × (class_fits (class 3 1 0 0 0 0) ≡ false)
    × (class_fits (class 1 0 0 0 0 0) ≡ false)
    × (class_fits (class 4 0 0 0 0 0) ≡ false)
    × (class_fits (class 7 0 0 0 0 0) ≡ false)
    × (class_fits (class 7 4294967296 0 0 0 0) ≡ false)
    × (class_fits (class 7 4294967295 0 0 0 0) ≡ true)
    × (class_fits (class 1 1 0 0 0 0) ≡ true)
    × (class_fits (class 3 0 0 0 0 0) ≡ true)
    × (class_fits (with2 1 1) ≡ true)
    × (class_fits (with2 2 1) ≡ false)
    × (class_fits (with2 1 2) ≡ false)
unfolding rules
fit = (refl, refl, refl, refl, refl, refl, refl, refl, refl, refl, refl, refl, refl, refl, refl, refl, refl, refl, refl, refl)

-- One class: its CTRL fields, its states and the lines that it drives.
-- Assumes nothing.
use Rattle.std.specs.Prelude.{ℕ, zero, suc, ◌+◌, ◌*◌, Bool, false, cond, not, ◌&&◌, List, [], eqb, get_or}
use Rattle.bits.specs.Bits.{bit, field, fits}
use Rattle.bits.specs.Index.{any_to}
use Rattle.class_rules.specs.declared.Class.{Class}
use Rattle.class_rules.specs.declared.ClassState.{ClassState}
use Rattle.class_rules.specs.declared.ClassState.TheVariants.{Idle, Timeout, Phase0, Phase1, Phase2, Phase3, Terminal}

-- ── "Register map": CTRL: bit 0 EN, 1 LOCK, 2 to 5 line enables, 6 to 13 line maps, two bits a line ──

abbrev pub en : Class → Bool
en c = bit c.ctrl 0

abbrev pub lock : Class → Bool
lock c = bit c.ctrl 1

-- the enable of line e, and the phase that its map names
abbrev pub line_enable : Class → ℕ → Bool
line_enable c e = bit c.ctrl (2 + e)

abbrev pub line_map : Class → ℕ → ℕ
line_map c e = field (6 + 2 * e) 2 c.ctrl

-- request (i): EN in steps 3 and 4 reads as "EN is 1 and at least one line enable is 1"
abbrev pub enabled : Class → Bool
enabled c = en c && any_to (line_enable c) 4

-- the length of phase p, PHASEp_CYC
abbrev pub phase_cyc : Class → ℕ → ℕ
phase_cyc c p = get_or c.lengths p 0

-- ── "Register map": STATE reads Idle 0, Timeout 1, Terminal 3, phases 4 to 7 ──

abbrev pub state_number : ClassState → ℕ
state_number Idle = 0
state_number Timeout = 1
state_number Terminal = 3
state_number Phase0 = 4
state_number Phase1 = 5
state_number Phase2 = 6
state_number Phase3 = 7

-- the state of a number; 2 and numbers over 7 are no state's and are never read in a valid state
unfoldable pub state_of : ℕ → ClassState
state_of s =
    cond (eqb s 1) Timeout
    (cond (eqb s 3) Terminal
    (cond (eqb s 4) Phase0 (cond (eqb s 5) Phase1 (cond (eqb s 6) Phase2 (cond (eqb s 7) Phase3 Idle)))))

-- the state of phase p, 0 to 3
abbrev pub phase : ℕ → ClassState
phase zero = Phase0
phase (suc zero) = Phase1
phase (suc (suc zero)) = Phase2
phase (suc (suc (suc p))) = Phase3

-- is this state phase p?
abbrev pub is_phase : ClassState → ℕ → Bool
is_phase Idle p = false
is_phase Timeout p = false
is_phase Phase0 p = eqb p 0
is_phase Phase1 p = eqb p 1
is_phase Phase2 p = eqb p 2
is_phase Phase3 p = eqb p 3
is_phase Terminal p = false

-- ── "One tick", step 5: class k drives line e if enable e is set and k is in the phase that map e names ──

unfoldable pub drives : Class → ℕ → Bool
drives c e = line_enable c e && is_phase (state_of c.state) (line_map c e)

-- ── "Numbers that come back", refusal 7, of one class ──

-- a count is 0 in Idle or Terminal and is not 0 in Timeout or a phase
abbrev pub count_fits : ClassState → ℕ → Bool
count_fits Idle n = eqb n 0
count_fits Timeout n = not (eqb n 0)
count_fits Phase0 n = not (eqb n 0)
count_fits Phase1 n = not (eqb n 0)
count_fits Phase2 n = not (eqb n 0)
count_fits Phase3 n = not (eqb n 0)
count_fits Terminal n = eqb n 0

-- STATE holds 3 bits, and not 2
abbrev pub state_fits : ℕ → Bool
state_fits s = fits 3 s && not (eqb s 2)

abbrev pub lengths_fit : List ℕ → Bool
lengths_fit ls = fits 32 (get_or ls 0 0) && (fits 32 (get_or ls 1 0) && (fits 32 (get_or ls 2 0) && fits 32 (get_or ls 3 0)))

-- no register of the block holds more than its field's bits, STATE is not 2, and the count suits the state
unfoldable pub class_fits : Class → Bool
class_fits c =
    fits 1 c.regwen
    && (fits 14 c.ctrl
    && (fits 1 c.clrwen
    && (fits 16 c.accum
    && (fits 16 c.thresh
    && (fits 32 c.timeout
    && (lengths_fit c.lengths
    && (fits 32 c.count && (state_fits c.state && count_fits (state_of c.state) c.count))))))))

-- what a list of classes holds past its end: nothing
abbrev pub no_class : Class
no_class = record { lengths = []; timeout = 0; count = 0; ctrl = 0; accum = 0; thresh = 0; regwen = 0; clrwen = 0; state = 0 }

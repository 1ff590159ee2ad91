-- "One tick", step 1: the access, on the state before any event of this tick.
-- Assumes nothing.
use Rattle.std.specs.Prelude.{ℕ, ◌+◌, ◌^◌, Bool, true, false, cond, not, ◌&&◌, ◌||◌, List, [], ◌∷◌, eqb, Ok, Err}
use Rattle.bits.specs.Bits.{bit, bits_of, fits}
use Rattle.bits.specs.Index.{each}
use Rattle.class_rules.specs.Class.{no_class, en, phase_cyc}
use Rattle.class_rules.specs.declared.Class.{Class}
use Rattle.rules.specs.Answer.{Case, first_of, refusal_number, Verdict}
use Rattle.rules.specs.Map.{offset, single_number, decode, is_register, bits, write_only, read_only, guard, is_lock, is_shadowed}
use Rattle.rules.specs.Stages.{stage, is_open, staged, dropped}
use Rattle.rules.specs.State.{most, local_count, class_count, local, alert, class_at, local_column, alert_column, with_interrupts, with_locals, with_alerts, with_classes, with_stages, with_timer, with_local_column, with_alert_column, put}
use Rattle.rules.specs.declared.Access.{Access}
use Rattle.rules.specs.declared.Access.TheVariants.{Nothing, Read, Write, Malformed}
use Rattle.rules.specs.declared.Accessed.{Accessed}
use Rattle.rules.specs.declared.Answer.{Answer}
use Rattle.rules.specs.declared.Effects.{Effects}
use Rattle.rules.specs.declared.Field.{Field}
use Rattle.rules.specs.declared.Handler.{Handler}
use Rattle.rules.specs.declared.Interrupts.{Interrupts}
use Rattle.rules.specs.declared.Refusal.{Refusal}
use Rattle.rules.specs.declared.Refusal.TheVariants.{NoRegister, WrongWay, Locked, TooWide, BadRecord, Differs, SillyThreshold}
use Rattle.rules.specs.declared.Register.{Register}
use Rattle.rules.specs.declared.Register.TheVariants.{Only, Local, Alert, Block, Unassigned}
use Rattle.rules.specs.declared.Setting.{Setting}
use Rattle.rules.specs.declared.Setting.TheVariants.{Ctrl, ClrRegwen, Clr, AccumCnt, AccumThresh, TimeoutCyc, PhaseCyc, EscCnt}
use Rattle.rules.specs.declared.Single.{Single}
use Rattle.rules.specs.declared.Single.TheVariants.{IntrState, IntrEnable, IntrTest, PingRegwen, PingTimeout, PingEnable}
use Rattle.rules.specs.declared.Timer.{Timer}

-- ── what a register holds ──

abbrev pub setting_value : Setting → Class → ℕ
setting_value Setting.Regwen c = c.regwen
setting_value Ctrl c = c.ctrl
setting_value ClrRegwen c = c.clrwen
setting_value Clr c = 0
setting_value AccumCnt c = c.accum
setting_value AccumThresh c = c.thresh
setting_value TimeoutCyc c = c.timeout
setting_value (PhaseCyc p) c = phase_cyc c p
setting_value EscCnt c = c.count
setting_value Setting.State c = c.state

abbrev pub single_value : Single → Handler → ℕ
single_value IntrState h = h.interrupts.state
single_value IntrEnable h = h.interrupts.enable
single_value IntrTest h = 0
single_value PingRegwen h = h.timer.regwen
single_value PingTimeout h = h.timer.timeout
single_value PingEnable h = h.timer.enable

-- INTR_TEST, CLR and what is no register hold no value
unfoldable pub value : Handler → Register → ℕ
value h (Only o) = single_value o h
value h (Local f j) = local h f j
value h (Alert f i) = alert h f i
value h (Block s k) = setting_value s (class_at h k)
value h Unassigned = 0

-- a register is locked while the REGWEN that guards it is 0
unfoldable pub locked : Handler → Register → Bool
locked h q = is_register (guard q) && eqb (value h (guard q)) 0

-- ── the refusals of an access, each by its case ──

abbrev pub malformed : Access → Bool
malformed Nothing = false
malformed (Read r) = false
malformed (Write r v) = false
malformed Malformed = true

-- 1: no such register
abbrev pub no_register : Handler → Access → Bool
no_register h Nothing = false
no_register h (Read r) = not (is_register (decode h.n r))
no_register h (Write r v) = not (is_register (decode h.n r))
no_register h Malformed = false

-- 2: read of a write-only or write of a read-only register
abbrev pub wrong_way : Handler → Access → Bool
wrong_way h Nothing = false
wrong_way h (Read r) = write_only (decode h.n r)
wrong_way h (Write r v) = read_only (decode h.n r)
wrong_way h Malformed = false

-- 4: written value has a bit outside the field
abbrev pub too_wide : Handler → Access → Bool
too_wide h Nothing = false
too_wide h (Read r) = false
too_wide h (Write r v) = not (fits (bits (decode h.n r)) v)
too_wide h Malformed = false

-- 14, request (vii): a 0 to a class REGWEN while EN is 1, ACCUM_THRESH is 65535 and REGWEN is still 1; EN is CTRL's bit 0
abbrev pub locks_silly : Setting → ℕ → Class → Bool
locks_silly s v c =
    eqb (offset s) (offset Setting.Regwen) && (eqb v 0 && (en c && (eqb c.thresh 65535 && eqb c.regwen 1)))

abbrev pub silly : Handler → Register → ℕ → Bool
silly h (Only o) v = false
silly h (Local f j) v = false
silly h (Alert f i) v = false
silly h (Block s k) v = locks_silly s v (class_at h k)
silly h Unassigned v = false

abbrev pub silly_threshold : Handler → Access → Bool
silly_threshold h Nothing = false
silly_threshold h (Read r) = false
silly_threshold h (Write r v) = silly h (decode h.n r) v
silly_threshold h Malformed = false

-- 3: register locked; in REGWEN and CLR_REGWEN a 0 is accepted again
abbrev pub bars : Handler → Register → ℕ → Bool
bars h q v = locked h q && not (is_lock q && eqb v 0)

abbrev pub barred : Handler → Access → Bool
barred h Nothing = false
barred h (Read r) = false
barred h (Write r v) = bars h (decode h.n r) v
barred h Malformed = false

-- 12: the register has a stage open with another value
abbrev pub unlike : Handler → Register → ℕ → Bool
unlike h q v = is_open h.stages q && not (eqb (stage h q) (v + 1))

abbrev pub differs : Handler → Access → Bool
differs h Nothing = false
differs h (Read r) = false
differs h (Write r v) = unlike h (decode h.n r) v
differs h Malformed = false

-- for an access the order is 5, 1, 2, 4, 14, 3, 12, after 7; each with whether its case holds
abbrev pub in_order : Bool → Bool → Bool → Bool → Bool → Bool → Bool → List Case
in_order bad none wrong wide late shut other =
    record { refusal = BadRecord; holds = bad }
    ∷ record { refusal = NoRegister; holds = none }
    ∷ record { refusal = WrongWay; holds = wrong }
    ∷ record { refusal = TooWide; holds = wide }
    ∷ record { refusal = SillyThreshold; holds = late }
    ∷ record { refusal = Locked; holds = shut }
    ∷ record { refusal = Differs; holds = other }
    ∷ []

abbrev pub access_cases : Handler → Access → List Case
access_cases h x = in_order (malformed x) (no_register h x) (wrong_way h x) (too_wide h x) (silly_threshold h x) (barred h x) (differs h x)

unfoldable pub verdict : Handler → Access → Verdict
verdict h x = first_of (access_cases h x)

-- ── an accepted write ──

-- in CAUSE a written 1 clears
abbrev pub field_stored : Field → ℕ → ℕ → ℕ
field_stored Field.Regwen old v = v
field_stored Field.En old v = v
field_stored Field.Class old v = v
field_stored Field.Cause old v = cond (eqb v 1) 0 old

-- a class's block with v written at one register, which its offset tells
abbrev pub with_setting : Setting → ℕ → Class → Class
with_setting s v c =
    record {
      lengths = each 4 (λ p. cond (eqb (offset s) (offset (PhaseCyc p))) v (phase_cyc c p));
      timeout = cond (eqb (offset s) (offset TimeoutCyc)) v c.timeout;
      count = c.count;
      ctrl = cond (eqb (offset s) (offset Ctrl)) v c.ctrl;
      accum = c.accum;
      thresh = cond (eqb (offset s) (offset AccumThresh)) v c.thresh;
      regwen = cond (eqb (offset s) (offset Setting.Regwen)) v c.regwen;
      clrwen = cond (eqb (offset s) (offset ClrRegwen)) v c.clrwen;
      state = c.state;
    }

-- INTR_STATE: a 1 clears; INTR_TEST: a 1 sets INTR_STATE
abbrev pub with_interrupt : Single → ℕ → Interrupts → Interrupts
with_interrupt IntrState v i = record { state = bits_of 4 (λ k. bit i.state k && not (bit v k)); enable = i.enable }
with_interrupt IntrEnable v i = record { state = i.state; enable = v }
with_interrupt IntrTest v i = record { state = bits_of 4 (λ k. bit i.state k || bit v k); enable = i.enable }
with_interrupt PingRegwen v i = i
with_interrupt PingTimeout v i = i
with_interrupt PingEnable v i = i

-- the ping timer's registers with v written at one of them; "6 (enable, 1 bit; a written 0 does nothing)"
abbrev pub with_ping : Single → ℕ → Timer → Timer
with_ping IntrState v t = t
with_ping IntrEnable v t = t
with_ping IntrTest v t = t
with_ping PingRegwen v t = record { timeout = t.timeout; regwen = v; enable = t.enable }
with_ping PingTimeout v t = record { timeout = v; regwen = t.regwen; enable = t.enable }
with_ping PingEnable v t = record { timeout = t.timeout; regwen = t.regwen; enable = cond (eqb v 0) t.enable v }

unfoldable pub store : Handler → Register → ℕ → Handler
store h (Only o) v = with_timer (with_ping o v h.timer) (with_interrupts (with_interrupt o v h.interrupts) h)
store h (Local f j) v =
    with_locals (with_local_column f (put local_count (local_column f h.locals) 0 j (field_stored f (local h f j) v)) h.locals) h
store h (Alert f i) v =
    with_alerts (with_alert_column f (put most (alert_column f h.alerts) 0 i (field_stored f (alert h f i) v)) h.alerts) h
store h (Block s k) v = with_classes (put class_count h.classes no_class k (with_setting s v (class_at h k))) h
store h Unassigned v = h

-- ── the whole access ──

abbrev pub accepts : Verdict → Bool
accepts (Ok tt) = true
accepts (Err m) = false

abbrev pub accepted : Handler → Access → Bool
accepted h x = accepts (verdict h x)

-- the first write to a shadowed register, while it has no stage
abbrev pub is_first : Handler → Register → Bool
is_first h q = is_shadowed q && not (is_open h.stages q)

-- request (v): the first write is staged, and acts on nothing; the second, equal one is stored and its stage is gone; what is not
-- shadowed is stored at once
unfoldable pub written : Handler → Register → ℕ → Handler
written h q v =
    cond (is_first h q) (with_stages (staged q v h.stages) h) (with_stages (dropped q h.stages) (store h q v))

-- a read of a register drops its stage
abbrev pub left : Handler → Access → Handler
left h Nothing = h
left h (Read r) = with_stages (dropped (decode h.n r) h.stages) h
left h (Write r v) = written h (decode h.n r) v
left h Malformed = h

-- a read gives the value, anything else accepted 0
abbrev pub given : Handler → Access → Answer
given h Nothing = Answer.Done
given h (Read r) = Answer.Value (value h (decode h.n r))
given h (Write r v) = Answer.Done
given h Malformed = Answer.Done

-- is it the CLR of class k?
abbrev pub setting_is_clr : Setting → Bool
setting_is_clr s = eqb (offset s) (offset Clr)

abbrev pub is_clr_of : ℕ → Register → Bool
is_clr_of k (Only o) = false
is_clr_of k (Local f j) = false
is_clr_of k (Alert f i) = false
is_clr_of k (Block s j) = setting_is_clr s && eqb j k
is_clr_of k Unassigned = false

-- a write of 1 to CLR is an accepted clear; a 0 does nothing
abbrev pub writes_clr : Handler → Access → ℕ → Bool
writes_clr h Nothing k = false
writes_clr h (Read r) k = false
writes_clr h (Write r v) k = is_clr_of k (decode h.n r) && eqb v 1
writes_clr h Malformed k = false

-- request (ix): "When 6 becomes 1": a write of 1 to it while it is 0
abbrev pub writes_enable : Handler → Access → Bool
writes_enable h Nothing = false
writes_enable h (Read r) = false
writes_enable h (Write r v) = eqb r (single_number PingEnable) && (eqb v 1 && eqb h.timer.enable 0)
writes_enable h Malformed = false

-- ── a refused access ──

-- the register that an access names
abbrev pub named : Handler → Access → Register
named h Nothing = Unassigned
named h (Read r) = decode h.n r
named h (Write r v) = decode h.n r
named h Malformed = Unassigned

-- 3 and 12 drop the stage of the register that is named; every other refusal touches no stage
abbrev pub drops : Refusal → Bool
drops m = eqb (refusal_number m) 3 || eqb (refusal_number m) 12

abbrev pub kept : Refusal → Handler → Register → Handler
kept m h q = cond (drops m) (with_stages (dropped q h.stages) h) h

-- 12 raises local 5, shadow update
abbrev pub raised_by : Refusal → ℕ
raised_by m = cond (eqb (refusal_number m) 12) (2 ^ 5) 0

-- what an access leaves, answers and hands to the later steps goes by its verdict
abbrev pub accessed_by : Verdict → Handler → Access → Accessed
accessed_by (Ok tt) h x =
    record { handler = left h x; answer = given h x; effects = record { clears = bits_of 4 (writes_clr h x); raises = 0; begins = writes_enable h x } }
accessed_by (Err m) h x =
    record { handler = kept m h (named h x); answer = Answer.Refused m; effects = record { clears = 0; raises = raised_by m; begins = false } }

unfoldable pub accessed : Handler → Access → Accessed
accessed h x = accessed_by (verdict h x) h x

-- the state after step 1, the answer, the effects, and whether class k has an accepted clear
unfoldable pub acted : Handler → Access → Handler
acted h x = (accessed h x).handler

unfoldable pub answer_to : Handler → Access → Answer
answer_to h x = (accessed h x).answer

unfoldable pub effects : Handler → Access → Effects
effects h x = (accessed h x).effects

unfoldable pub clears : Handler → Access → ℕ → Bool
clears h x k = bit (effects h x).clears k

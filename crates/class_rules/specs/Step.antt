-- Steps 3 and 4 of a tick, of one class.
-- Assumes nothing.
use Rattle.std.specs.Prelude.{ℕ, zero, suc, ◌+◌, Bool, false, cond, not, ◌&&◌, ◌||◌, leb, ltb}
use Rattle.class_rules.specs.Class.{enabled, lock, phase_cyc, phase, state_of, state_number}
use Rattle.class_rules.specs.declared.Class.{Class}
use Rattle.class_rules.specs.declared.ClassState.{ClassState}
use Rattle.class_rules.specs.declared.ClassState.TheVariants.{Idle, Timeout, Phase0, Phase1, Phase2, Phase3, Terminal}
use Rattle.class_rules.specs.declared.Place.{Place}
use Rattle.class_rules.specs.declared.Signals.{Signals}

-- ── step 3 ──

-- a class has an event if something that happened is assigned to it and EN is 1, as request (i) reads EN
abbrev pub class_event : Bool → Class → Bool
class_event assigned c = assigned && enabled c

-- a trigger is an event with no accepted clear in this tick and ACCUM_CNT at or above ACCUM_THRESH before counting
abbrev pub trigger : Signals → Class → Bool
trigger s c = s.event && (not s.clear && leb c.thresh c.accum)

-- a clear makes ACCUM_CNT 0 and the event isn't counted; otherwise an event adds 1, staying at 65,535
unfoldable pub counted : Signals → Class → ℕ
counted s c = cond s.clear 0 (cond s.event (cond (ltb c.accum 65535) (c.accum + 1) 65535) c.accum)

-- ── step 4 ──

-- "due": EN is 1, as request (i) reads EN, the interrupt bit is now 1 and TIMEOUT_CYC is above 0
abbrev pub due : Signals → Class → Bool
due s c = enabled c && (s.interrupt && ltb 0 c.timeout)

abbrev pub at : ClassState → ℕ → Place
at m n = record { state = m; count = n }

-- from this state to Phase 0: Idle by a trigger; Timeout by a trigger, or due with count at or above TIMEOUT_CYC
unfoldable pub starts_from : ClassState → Signals → Class → Bool
starts_from Idle s c = trigger s c
starts_from Timeout s c = trigger s c || (due s c && leb c.timeout c.count)
starts_from Phase0 s c = false
starts_from Phase1 s c = false
starts_from Phase2 s c = false
starts_from Phase3 s c = false
starts_from Terminal s c = false

-- the class's escalation starts in this tick
abbrev pub starts : Signals → Class → Bool
starts s c = starts_from (state_of c.state) s c

-- after phase p: the next phase, count 1; after Phase 3 Terminal, count 0
abbrev pub after_phase : ℕ → Place
after_phase zero = at Phase1 1
after_phase (suc zero) = at Phase2 1
after_phase (suc (suc zero)) = at Phase3 1
after_phase (suc (suc (suc p))) = at Terminal 0

-- Phase p: accepted clear to Idle, count 0; else count at or above PHASEp_CYC to the next phase; else add 1. EN is not read
abbrev pub in_phase : ℕ → Signals → Class → Place
in_phase p s c = cond s.clear (at Idle 0) (cond (leb (phase_cyc c p) c.count) (after_phase p) (at (phase p) (c.count + 1)))

-- the state and count after the tick
unfoldable pub moved_from : ClassState → Signals → Class → Place
moved_from Idle s c = cond (starts_from Idle s c) (at Phase0 1) (cond (due s c) (at Timeout 1) (at Idle c.count))
moved_from Timeout s c = cond (starts_from Timeout s c) (at Phase0 1) (cond (due s c) (at Timeout (c.count + 1)) (at Idle 0))
moved_from Phase0 s c = in_phase 0 s c
moved_from Phase1 s c = in_phase 1 s c
moved_from Phase2 s c = in_phase 2 s c
moved_from Phase3 s c = in_phase 3 s c
moved_from Terminal s c = cond s.clear (at Idle c.count) (at Terminal c.count)

abbrev pub moved : Signals → Class → Place
moved s c = moved_from (state_of c.state) s c

-- steps 3 and 4; entering Phase 0 from Idle or Timeout with LOCK set makes CLR_REGWEN 0
unfoldable pub class_step : Signals → Class → Class
class_step s c =
    record {
      lengths = c.lengths;
      timeout = c.timeout;
      count = (moved s c).count;
      ctrl = c.ctrl;
      accum = counted s c;
      thresh = c.thresh;
      regwen = c.regwen;
      clrwen = cond (starts s c && lock c) 0 c.clrwen;
      state = state_number (moved s c).state;
    }

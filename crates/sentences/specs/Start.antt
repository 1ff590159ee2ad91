-- The words in which demand 3 speaks of a class ("A started escalation"), in sentences: raw fields and plain comparisons, and no definition of
-- the rules.
-- Assumes nothing.
use Rattle.std.specs.Prelude.{ℕ, ◌+◌, ◌*◌, ◌≤◌, ◌<◌, ◌≡◌, ◌↔◌, ◌⊎◌, Bool, true, get_or}
use Rattle.bits.specs.Bits.{bit, field}
use Rattle.class_rules.specs.declared.Class.{Class}
use Rattle.class_rules.specs.declared.ClassState.{ClassState}
use Rattle.class_rules.specs.declared.ClassState.TheVariants.{Idle, Timeout, Phase0, Phase1, Phase2, Phase3, Terminal}
use Rattle.class_rules.specs.declared.Signals.{Signals}
use Rattle.sentences.specs.Fits.{Fits}
use Rattle.sentences.specs.ClassStep.{Trigger, Due, Enters, Stepped}

-- "A trigger is an event with no accepted clear in this tick and ACCUM_CNT at or above ACCUM_THRESH before counting"
abbrev pub TriggerIs : (Signals → Class → Bool) → Type 0
TriggerIs trigger = (s : Signals) (c : Class) → (trigger s c ≡ true) ↔ Trigger s c

-- "'Due' means EN is 1, the interrupt bit is now 1 and TIMEOUT_CYC is above 0"
abbrev pub DueIs : (Signals → Class → Bool) → Type 0
DueIs due = (s : Signals) (c : Class) → (due s c ≡ true) ↔ Due s c

-- "by a trigger, or by being due with a Timeout count at or above TIMEOUT_CYC": Idle is 0 and Timeout 1
abbrev pub Reason : Signals → Class → Type 0
Reason s c = (((c.state ≡ 0) ⊎ (c.state ≡ 1)) × Trigger s c) ⊎ ((c.state ≡ 1) × Due s c × (c.timeout ≤ c.count))

-- the test `starts` of a class that meets s in a tick, of every class that fits
pub record StartsIs (starts : Signals → Class → Bool) : Type 0 where
  -- "A class's escalation starts in the tick whose step 4 takes it from Idle or Timeout to Phase 0": d is the class after steps 3 and 4
  pub move : (s : Signals) (c d : Class) → Fits c → Stepped s c d → (starts s c ≡ true) ↔ Enters c d
  -- "by a trigger, or by being due with a Timeout count at or above TIMEOUT_CYC"
  pub reason : (s : Signals) (c : Class) → Fits c → (starts s c ≡ true) ↔ Reason s c

-- "The class is in one of seven states: Idle, Timeout, Phase 0 to 3, Terminal"; a number read as a state, and phase p as a state
pub record StateIs (state_of phase : ℕ → ClassState) : Type 0 where
  -- "STATE reads Idle 0, Timeout 1, Terminal 3, phases 4 to 7"
  pub idle : state_of 0 ≡ Idle
  pub timeout : state_of 1 ≡ Timeout
  pub terminal : state_of 3 ≡ Terminal
  pub phase_0 : state_of 4 ≡ Phase0
  pub phase_1 : state_of 5 ≡ Phase1
  pub phase_2 : state_of 6 ≡ Phase2
  pub phase_3 : state_of 7 ≡ Phase3
  pub phases : (p : ℕ) → p < 4 → phase p ≡ state_of (4 + p)

-- "CTRL: bit 0 EN, 1 LOCK, 2 to 5 line enables, 6 to 13 line maps, two bits a line"; "+7 to +10 PHASE0_CYC to PHASE3_CYC"
pub record SettingsAre (en lock : Class → Bool) (line_enable : Class → ℕ → Bool) (line_map phase_cyc : Class → ℕ → ℕ) : Type 0 where
  pub is_en : (c : Class) → (en c ≡ true) ↔ (bit c.ctrl 0 ≡ true)
  pub is_lock_law : (c : Class) → (lock c ≡ true) ↔ (bit c.ctrl 1 ≡ true)
  pub enable : (c : Class) (e : ℕ) → e < 4 → (line_enable c e ≡ true) ↔ (bit c.ctrl (2 + e) ≡ true)
  pub map : (c : Class) (e : ℕ) → e < 4 → line_map c e ≡ field (6 + 2 * e) 2 c.ctrl
  pub length : (c : Class) (p : ℕ) → p < 4 → phase_cyc c p ≡ get_or c.lengths p 0

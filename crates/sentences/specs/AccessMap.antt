-- "Register map", with the numbers of request (iii): which register a number names, its bits, its ways, what locks it, and whether it is
-- shadowed. Literal numbers and raw fields, and no definition of the rules.
-- Assumes nothing.
use Rattle.std.specs.Prelude.{ℕ, ◌+◌, ◌*◌, ◌<◌, ◌≡◌, get_or}
use Rattle.rules.specs.declared.Field.{Field}
use Rattle.rules.specs.declared.Handler.{Handler}
use Rattle.rules.specs.declared.Register.{Register}
use Rattle.rules.specs.declared.Register.TheVariants.{Only, Local, Alert, Block}
use Rattle.rules.specs.declared.Setting.{Setting}
use Rattle.rules.specs.declared.Setting.TheVariants.{Ctrl, ClrRegwen, Clr, AccumCnt, AccumThresh, TimeoutCyc, PhaseCyc, EscCnt}
use Rattle.rules.specs.declared.Single.TheVariants.{IntrState, IntrEnable, IntrTest, PingRegwen, PingTimeout, PingEnable}
use Rattle.sentences.specs.Raw.{class_of}

-- ── the table: number, register, bits ──

-- "The register number selects one of these ranges; all other numbers are unassigned. Alert i exists for i below N; local alert j is 0 to 6;
-- class k is 0 to 3." Request (iii): "Alert blocks move to 256, 512, 768 and 1024, classes to 1280+16k."
pub data Row (n : ℕ) : ℕ → Register → ℕ → Type 0 where
  intr_state : Row n 0 (Only IntrState) 4
  intr_enable : Row n 1 (Only IntrEnable) 4
  intr_test : Row n 2 (Only IntrTest) 4
  -- request (ix): "registers 4 (REGWEN), 5 (timeout, 16 bits) and 6 (enable, 1 bit ..)"
  ping_regwen : Row n 4 (Only PingRegwen) 1
  ping_timeout : Row n 5 (Only PingTimeout) 16
  ping_enable : Row n 6 (Only PingEnable) 1
  -- "16+j, 24+j, 32+j, 40+j | local REGWEN, EN, CLASS, CAUSE | 1, 1, 2, 1"
  local_regwen : (j : ℕ) → j < 7 → Row n (16 + j) (Local Field.Regwen j) 1
  local_en : (j : ℕ) → j < 7 → Row n (24 + j) (Local Field.En j) 1
  local_class : (j : ℕ) → j < 7 → Row n (32 + j) (Local Field.Class j) 2
  local_cause : (j : ℕ) → j < 7 → Row n (40 + j) (Local Field.Cause j) 1
  -- "alert REGWEN, EN, CLASS, CAUSE | 1, 1, 2, 1"
  alert_regwen : (i : ℕ) → i < n → Row n (256 + i) (Alert Field.Regwen i) 1
  alert_en : (i : ℕ) → i < n → Row n (512 + i) (Alert Field.En i) 1
  alert_class : (i : ℕ) → i < n → Row n (768 + i) (Alert Field.Class i) 2
  alert_cause : (i : ℕ) → i < n → Row n (1024 + i) (Alert Field.Cause i) 1
  -- from "320+16k+0 | class REGWEN | 1" to "+11, +12 | ESC_CNT, STATE, read only | 32, 3"
  regwen : (k : ℕ) → k < 4 → Row n (1280 + 16 * k + 0) (Block Setting.Regwen k) 1
  ctrl : (k : ℕ) → k < 4 → Row n (1280 + 16 * k + 1) (Block Ctrl k) 14
  clr_regwen : (k : ℕ) → k < 4 → Row n (1280 + 16 * k + 2) (Block ClrRegwen k) 1
  clr : (k : ℕ) → k < 4 → Row n (1280 + 16 * k + 3) (Block Clr k) 1
  accum_cnt : (k : ℕ) → k < 4 → Row n (1280 + 16 * k + 4) (Block AccumCnt k) 16
  accum_thresh : (k : ℕ) → k < 4 → Row n (1280 + 16 * k + 5) (Block AccumThresh k) 16
  timeout_cyc : (k : ℕ) → k < 4 → Row n (1280 + 16 * k + 6) (Block TimeoutCyc k) 32
  -- "+7 to +10 | PHASE0_CYC to PHASE3_CYC | 32"
  phase_cyc : (k p : ℕ) → k < 4 → p < 4 → Row n (1280 + 16 * k + (7 + p)) (Block (PhaseCyc p) k) 32
  esc_cnt : (k : ℕ) → k < 4 → Row n (1280 + 16 * k + 11) (Block EscCnt k) 32
  state : (k : ℕ) → k < 4 → Row n (1280 + 16 * k + 12) (Block Setting.State k) 3

-- the number r names the register q
abbrev pub Names : ℕ → ℕ → Register → Type 0
Names n r q = (b : ℕ) × Row n r q b

-- ── ways, locks and shadows ──

-- "INTR_TEST, write only", "CLR, write only"
pub data WriteOnly : Register → Type 0 where
  intr_test : WriteOnly (Only IntrTest)
  clr : (k : ℕ) → WriteOnly (Block Clr k)

-- "ACCUM_CNT, read only", "ESC_CNT, STATE, read only"
pub data ReadOnly : Register → Type 0 where
  accum_cnt : (k : ℕ) → ReadOnly (Block AccumCnt k)
  esc_cnt : (k : ℕ) → ReadOnly (Block EscCnt k)
  state : (k : ℕ) → ReadOnly (Block Setting.State k)

-- the registers that take a written value as it is: not INTR_STATE and CAUSE, where "a 1 clears", not the ping timer's enable, where
-- "a written 0 does nothing", and none of the above
pub data Plain : Register → Type 0 where
  intr_enable : Plain (Only IntrEnable)
  ping_regwen : Plain (Only PingRegwen)
  ping_timeout : Plain (Only PingTimeout)
  local_regwen : (j : ℕ) → Plain (Local Field.Regwen j)
  local_en : (j : ℕ) → Plain (Local Field.En j)
  local_class : (j : ℕ) → Plain (Local Field.Class j)
  alert_regwen : (i : ℕ) → Plain (Alert Field.Regwen i)
  alert_en : (i : ℕ) → Plain (Alert Field.En i)
  alert_class : (i : ℕ) → Plain (Alert Field.Class i)
  regwen : (k : ℕ) → Plain (Block Setting.Regwen k)
  ctrl : (k : ℕ) → Plain (Block Ctrl k)
  clr_regwen : (k : ℕ) → Plain (Block ClrRegwen k)
  accum_thresh : (k : ℕ) → Plain (Block AccumThresh k)
  timeout_cyc : (k : ℕ) → Plain (Block TimeoutCyc k)
  phase_cyc : (k p : ℕ) → Plain (Block (PhaseCyc p) k)

-- "REGWEN and CLR_REGWEN"
pub data Regwen : Register → Type 0 where
  timer : Regwen (Only PingRegwen)
  local : (j : ℕ) → Regwen (Local Field.Regwen j)
  alert : (i : ℕ) → Regwen (Alert Field.Regwen i)
  class : (k : ℕ) → Regwen (Block Setting.Regwen k)
  clr : (k : ℕ) → Regwen (Block ClrRegwen k)

-- "A register is locked while the REGWEN that guards it is 0."
pub data Shut (h : Handler) : Register → Type 0 where
  -- "Alert and local REGWEN guard their EN and CLASS"
  local_en : (j : ℕ) → get_or h.locals.regwen j 0 ≡ 0 → Shut h (Local Field.En j)
  local_class : (j : ℕ) → get_or h.locals.regwen j 0 ≡ 0 → Shut h (Local Field.Class j)
  alert_en : (i : ℕ) → get_or h.alerts.regwen i 0 ≡ 0 → Shut h (Alert Field.En i)
  alert_class : (i : ℕ) → get_or h.alerts.regwen i 0 ≡ 0 → Shut h (Alert Field.Class i)
  -- "class REGWEN guards CTRL, ACCUM_THRESH, TIMEOUT_CYC and the phase lengths"
  ctrl : (k : ℕ) → (class_of h k).regwen ≡ 0 → Shut h (Block Ctrl k)
  accum_thresh : (k : ℕ) → (class_of h k).regwen ≡ 0 → Shut h (Block AccumThresh k)
  timeout_cyc : (k : ℕ) → (class_of h k).regwen ≡ 0 → Shut h (Block TimeoutCyc k)
  phase_cyc : (k p : ℕ) → (class_of h k).regwen ≡ 0 → Shut h (Block (PhaseCyc p) k)
  -- "CLR_REGWEN guards CLR"
  clr : (k : ℕ) → (class_of h k).clrwen ≡ 0 → Shut h (Block Clr k)
  -- request (ix): "The first locks 5 and 6"
  ping_timeout : h.timer.regwen ≡ 0 → Shut h (Only PingTimeout)
  ping_enable : h.timer.regwen ≡ 0 → Shut h (Only PingEnable)
  -- "That REGWEN is then locked too, and CLR_REGWEN is locked while it is 0."
  ping_regwen : h.timer.regwen ≡ 0 → Shut h (Only PingRegwen)
  local_regwen : (j : ℕ) → get_or h.locals.regwen j 0 ≡ 0 → Shut h (Local Field.Regwen j)
  alert_regwen : (i : ℕ) → get_or h.alerts.regwen i 0 ≡ 0 → Shut h (Alert Field.Regwen i)
  regwen : (k : ℕ) → (class_of h k).regwen ≡ 0 → Shut h (Block Setting.Regwen k)
  clr_regwen : (k : ℕ) → (class_of h k).clrwen ≡ 0 → Shut h (Block ClrRegwen k)

-- request (v): "EN and CLASS of alerts and local alerts, and CTRL, ACCUM_THRESH, TIMEOUT_CYC and the phase lengths"
pub data Shadowed : Register → Type 0 where
  local_en : (j : ℕ) → Shadowed (Local Field.En j)
  local_class : (j : ℕ) → Shadowed (Local Field.Class j)
  alert_en : (i : ℕ) → Shadowed (Alert Field.En i)
  alert_class : (i : ℕ) → Shadowed (Alert Field.Class i)
  ctrl : (k : ℕ) → Shadowed (Block Ctrl k)
  accum_thresh : (k : ℕ) → Shadowed (Block AccumThresh k)
  timeout_cyc : (k : ℕ) → Shadowed (Block TimeoutCyc k)
  phase_cyc : (k p : ℕ) → Shadowed (Block (PhaseCyc p) k)
  -- request (ix): "5 is shadowed"
  ping_timeout : Shadowed (Only PingTimeout)

-- "Numbers that come back", refusal 7 of a whole state, in sentences: raw fields and plain comparisons, and no definition of the rules.
-- Assumes nothing.
use Rattle.std.specs.Prelude.{ℕ, ◌+◌, ◌≤◌, ◌<◌, ◌≡◌, ◌↔◌, Bool, true, get_or}
use Rattle.rules.specs.declared.Handler.{Handler}
use Rattle.sentences.specs.Fits.{Fits}
use Rattle.sentences.specs.Raw.{pending, line_pending, class_of, stages_of}
use Rattle.sentences.specs.Turns.{AlertsTurn, LinesTurn, turn_line}

-- request (v): a stage holds 0 where nothing is staged, and v + 1 where v is; the staged value is at most this
abbrev pub StagedUpTo : ℕ → ℕ → Type 0
StagedUpTo most stage = (v : ℕ) → stage ≡ v + 1 → v ≤ most

-- ── "Refusal 7 means": the state h is one that it does not meet, if all of these hold ──

pub record Valid (h : Handler) : Type 0 where
  -- "N over 64"; request (iii): "6 and 7 read 248"
  pub n : h.n ≤ 248
  -- "any register holding more than its field's bits": INTR_STATE and INTR_ENABLE, 4
  pub intr_state : h.interrupts.state ≤ 15
  pub intr_enable : h.interrupts.enable ≤ 15
  -- "local REGWEN, EN, CLASS, CAUSE" hold "1, 1, 2, 1" bits; "local alert j is 0 to 6"; "an alert or local class over 3"
  pub local_regwen : (j : ℕ) → j < 7 → get_or h.locals.regwen j 0 ≤ 1
  pub local_en : (j : ℕ) → j < 7 → get_or h.locals.en j 0 ≤ 1
  pub local_class : (j : ℕ) → j < 7 → get_or h.locals.class j 0 ≤ 3
  pub local_cause : (j : ℕ) → j < 7 → get_or h.locals.cause j 0 ≤ 1
  -- "alert REGWEN, EN, CLASS, CAUSE" hold "1, 1, 2, 1" bits; "Stored entries at N and above are no registers: .. refusal 7 does not look at them"
  pub alert_regwen : (i : ℕ) → i < h.n → get_or h.alerts.regwen i 0 ≤ 1
  pub alert_en : (i : ℕ) → i < h.n → get_or h.alerts.en i 0 ≤ 1
  pub alert_class : (i : ℕ) → i < h.n → get_or h.alerts.class i 0 ≤ 3
  pub alert_cause : (i : ℕ) → i < h.n → get_or h.alerts.cause i 0 ≤ 1
  -- "a CTRL over 0x3FFF and so on), a STATE of 2, or a class count that is not 0 in Idle or Terminal or is 0 in Timeout or a phase"
  pub classes : (k : ℕ) → k < 4 → Fits (class_of h k)
  -- request (ix): registers 4, 5 and 6 have 1, 16 and 1 bits
  pub ping_regwen : h.timer.regwen ≤ 1
  pub ping_timeout : h.timer.timeout ≤ 65535
  pub ping_enable : h.timer.enable ≤ 1
  -- "7 covers an open ping that isn't the turn's"; a reading: while 6 is 0 there is no turn
  pub alert_ping : (i : ℕ) → i < h.n → pending h i ≡ true → (h.timer.enable ≡ 1) × (AlertsTurn h × (i ≡ h.links.turn.alert))
  pub line_ping : (e : ℕ) → e < 4 → line_pending h e ≡ true → (h.timer.enable ≡ 1) × (LinesTurn h × (e ≡ turn_line h))
  -- request (v): "7 also covers a staged value over its field": "EN and CLASS of alerts and local alerts"
  pub staged_local_en : (j : ℕ) → j < 7 → StagedUpTo 1 (get_or h.stages.locals.en j 0)
  pub staged_local_class : (j : ℕ) → j < 7 → StagedUpTo 3 (get_or h.stages.locals.class j 0)
  pub staged_alert_en : (i : ℕ) → i < h.n → StagedUpTo 1 (get_or h.stages.alerts.en i 0)
  pub staged_alert_class : (i : ℕ) → i < h.n → StagedUpTo 3 (get_or h.stages.alerts.class i 0)
  -- "and CTRL, ACCUM_THRESH, TIMEOUT_CYC and the phase lengths"
  pub staged_ctrl : (k : ℕ) → k < 4 → StagedUpTo 0x3FFF (stages_of h k).ctrl
  pub staged_thresh : (k : ℕ) → k < 4 → StagedUpTo 65535 (stages_of h k).thresh
  pub staged_timeout : (k : ℕ) → k < 4 → StagedUpTo 4294967295 (stages_of h k).timeout
  -- request (ix): "5 is shadowed"
  pub staged_ping_timeout : StagedUpTo 65535 h.stages.timeout
  pub staged_length : (k p : ℕ) → k < 4 → p < 4 → StagedUpTo 4294967295 (get_or (stages_of h k).lengths p 0)

-- a test of refusal 7
abbrev pub ValidIs : (Handler → Bool) → Type 0
ValidIs valid = (h : Handler) → (valid h ≡ true) ↔ Valid h

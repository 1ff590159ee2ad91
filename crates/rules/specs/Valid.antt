-- "Numbers that come back": the rule of refusal 7.
-- Assumes nothing.
use Rattle.std.specs.Prelude.{ℕ, ◌^◌, Bool, not, ◌&&◌, ◌||◌, List, leb, get_or}
use Rattle.bits.specs.Bits.{bit, fits}
use Rattle.bits.specs.Index.{all_to}
use Rattle.class_rules.specs.Class.{class_fits}
use Rattle.link_rules.specs.Timer.{owns_alert, owns_line}
use Rattle.rules.specs.Map.{single_bits, field_bits, setting_bits}
use Rattle.rules.specs.Stages.{local_stages, alert_stages, class_stages}
use Rattle.rules.specs.State.{most, local_count, class_count, local_column, alert_column, class_at, receiver, is_on}
use Rattle.rules.specs.declared.Field.{Field}
use Rattle.rules.specs.declared.Handler.{Handler}
use Rattle.rules.specs.declared.ClassStages.{ClassStages}
use Rattle.rules.specs.declared.Setting.TheVariants.{Ctrl, AccumThresh, TimeoutCyc, PhaseCyc}
use Rattle.rules.specs.declared.Single.TheVariants.{PingRegwen, PingTimeout, PingEnable}
use Rattle.rules.specs.declared.Stages.{Stages}
use Rattle.rules.specs.declared.Timer.{Timer}

-- the first n registers of a column hold no more than b bits each
abbrev pub column_fits : ℕ → List ℕ → ℕ → Bool
column_fits b xs n = all_to (λ i. fits b (get_or xs i 0)) n

-- the four columns of the local alerts, and of the alerts below N
abbrev pub columns_fit : (Field → List ℕ) → ℕ → Bool
columns_fit column n =
    column_fits (field_bits Field.Regwen) (column Field.Regwen) n
    && (column_fits (field_bits Field.En) (column Field.En) n
    && (column_fits (field_bits Field.Class) (column Field.Class) n
    && column_fits (field_bits Field.Cause) (column Field.Cause) n))

-- a stage's code is none's, or a value's that has no more than b bits
abbrev pub code_fits : ℕ → ℕ → Bool
code_fits b c = leb c (2 ^ b)

abbrev pub codes_fit : ℕ → List ℕ → ℕ → Bool
codes_fit b xs n = all_to (λ i. code_fits b (get_or xs i 0)) n

-- EN and CLASS of the local alerts, and of the alerts below N
abbrev pub field_stages_fit : (Field → List ℕ) → ℕ → Bool
field_stages_fit column n = codes_fit (field_bits Field.En) (column Field.En) n && codes_fit (field_bits Field.Class) (column Field.Class) n

unfoldable pub class_stages_fit : ClassStages → Bool
class_stages_fit c =
    code_fits (setting_bits Ctrl) c.ctrl
    && (code_fits (setting_bits AccumThresh) c.thresh
    && (code_fits (setting_bits TimeoutCyc) c.timeout && codes_fit (setting_bits (PhaseCyc 0)) c.lengths 4))

-- request (v): 7 also covers a staged value over its field
unfoldable pub stages_fit : ℕ → Stages → Bool
stages_fit n s =
    field_stages_fit (λ f. local_stages f s.locals) local_count
    && (field_stages_fit (λ f. alert_stages f s.alerts) n
    && (all_to (λ k. class_stages_fit (class_stages s k)) class_count && code_fits (single_bits PingTimeout) s.timeout))

-- request (ix): REGWEN, timeout and enable of the ping timer
abbrev pub timer_fits : Timer → Bool
timer_fits t =
    fits (single_bits PingRegwen) t.regwen && (fits (single_bits PingTimeout) t.timeout && fits (single_bits PingEnable) t.enable)

-- "7 covers an open ping that isn't the turn's": of every alert below N, and of the four lines
unfoldable pub pings_fit : Handler → Bool
pings_fit h =
    all_to (λ i. not (receiver h i).pending || owns_alert (is_on h) h.links.turn i) h.n
    && all_to (λ e. not (bit h.links.lines e) || owns_line (is_on h) h.links.turn e) 4

-- Refusal 7 means: N over 248 (request (iii); 64 in document 01), any register holding more than its field's bits, a STATE of 2, or a class count that is not 0
-- in Idle or Terminal or is 0 in Timeout or a phase. This is its opposite. It does not look at entries at N and above.
unfoldable pub valid : Handler → Bool
valid h =
    leb h.n most
    && (fits 4 h.interrupts.state
    && (fits 4 h.interrupts.enable
    && (columns_fit (λ f. local_column f h.locals) local_count
    && (columns_fit (λ f. alert_column f h.alerts) h.n
    && (all_to (λ k. class_fits (class_at h k)) class_count
    && (timer_fits h.timer && (pings_fit h && stages_fit h.n h.stages)))))))

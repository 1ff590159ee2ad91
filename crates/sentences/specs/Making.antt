-- "What the stations need", making a handler, in sentences: raw fields and plain comparisons, and no definition of the rules.
-- Assumes nothing.
use Rattle.std.specs.Prelude.{ℕ, ◌≤◌, ◌<◌, ◌≡◌, List, pos, neg_ℤ, get_or, length}
use Rattle.class_rules.specs.declared.Class.{Class}
use Rattle.rules.specs.declared.ClassStages.{ClassStages}
use Rattle.rules.specs.declared.Handler.{Handler}
use Rattle.rules.specs.declared.Made.{Made}
use Rattle.sentences.specs.Raw.{class_of, stages_of}

-- so many entries, each at this value
pub record Entries (count value : ℕ) (xs : List ℕ) : Type 0 where
  pub many : length xs ≡ count
  pub each_is : (i : ℕ) → i < count → get_or xs i 0 ≡ value

-- "All REGWEN and CLR_REGWEN start at 1, all CTRL at 0x393C, every other register at 0, classes Idle": STATE reads Idle 0
pub record NewClass (c : Class) : Type 0 where
  pub regwen : c.regwen ≡ 1
  pub clrwen : c.clrwen ≡ 1
  pub ctrl : c.ctrl ≡ 0x393C
  pub accum : c.accum ≡ 0
  pub thresh : c.thresh ≡ 0
  pub timeout : c.timeout ≡ 0
  pub lengths : Entries 4 0 c.lengths
  pub count : c.count ≡ 0
  pub state : c.state ≡ 0

-- request (v): nothing is staged
pub record NoStages (c : ClassStages) : Type 0 where
  pub ctrl : c.ctrl ≡ 0
  pub thresh : c.thresh ≡ 0
  pub timeout : c.timeout ≡ 0
  pub lengths : Entries 4 0 c.lengths

-- h is a new handler of n alerts
pub record New (n : ℕ) (h : Handler) : Type 0 where
  pub alerts : h.n ≡ n
  -- "every other register at 0": INTR_STATE and INTR_ENABLE
  pub intr_state : h.interrupts.state ≡ 0
  pub intr_enable : h.interrupts.enable ≡ 0
  -- "All REGWEN .. start at 1, .. every other register at 0": of the seven local alerts
  pub local_regwen : Entries 7 1 h.locals.regwen
  pub local_en : Entries 7 0 h.locals.en
  pub local_class : Entries 7 0 h.locals.class
  pub local_cause : Entries 7 0 h.locals.cause
  -- request (iii): "A new handler starts with 248 alert entries, all at their reset value"
  pub alert_regwen : Entries 248 1 h.alerts.regwen
  pub alert_en : Entries 248 0 h.alerts.en
  pub alert_class : Entries 248 0 h.alerts.class
  pub alert_cause : Entries 248 0 h.alerts.cause
  -- the four classes
  pub class_entries : length h.classes ≡ 4
  pub classes : (k : ℕ) → k < 4 → NewClass (class_of h k)
  -- request (viii): every bit of the receivers' words of 64 is 0. So each is ready; "Acknowledge and ping pairs .. (0,1) at reset"; and no ping is open
  pub pausing : Entries 4 0 h.links.receivers.pausing
  pub busy : Entries 4 0 h.links.receivers.busy
  pub level : Entries 4 0 h.links.receivers.level
  pub pending : Entries 4 0 h.links.receivers.pending
  -- request (ix): "All REGWEN .. start at 1, .. every other register at 0": registers 4, 5 and 6
  pub ping_regwen : h.timer.regwen ≡ 1
  pub ping_timeout : h.timer.timeout ≡ 0
  pub ping_enable : h.timer.enable ≡ 0
  -- a reading: the turn, which the first word sets when 6 becomes 1, is 0 in each field, and no line's ping is open
  pub turn_number : h.links.turn.number ≡ 0
  pub turn_alert : h.links.turn.alert ≡ 0
  pub turn_count : h.links.turn.count ≡ 0
  pub line_pings : h.links.lines ≡ 0
  -- request (xi): the senders are at rest, and their lines' pairs (0,1)
  pub sender_on : h.links.senders.on ≡ 0
  pub sender_first : h.links.senders.first ≡ 0
  pub sender_last : h.links.senders.last ≡ 0
  pub sender_deep : h.links.senders.deep ≡ 0
  pub sender_answer : h.links.senders.answer ≡ 0
  pub ping_right : h.links.right ≡ 0
  -- request (v): nothing is staged
  pub staged_local_en : Entries 7 0 h.stages.locals.en
  pub staged_local_class : Entries 7 0 h.stages.locals.class
  pub staged_alert_en : Entries 248 0 h.stages.alerts.en
  pub staged_alert_class : Entries 248 0 h.stages.alerts.class
  pub staged_ping_timeout : h.stages.timeout ≡ 0
  pub staged_entries : length h.stages.classes ≡ 4
  pub staged_classes : (k : ℕ) → k < 4 → NoStages (stages_of h k)

-- making a handler for n alerts gives m
pub record Makes (n : ℕ) (m : Made) : Type 0 where
  -- "A handler is made for N alerts, 1 to 64"; request (iii): 248
  pub handler : 1 ≤ n → n ≤ 248 → New n m.handler
  -- "anything else accepted gives 0"
  pub accepted : 1 ≤ n → n ≤ 248 → m.answer ≡ pos 0
  -- refusal 6, "N is 0 or over 64": "a handler of no alerts, otherwise as new"
  pub none : ¬ ((1 ≤ n) × (n ≤ 248)) → New 0 m.handler
  pub refused : ¬ ((1 ≤ n) × (n ≤ 248)) → m.answer ≡ neg_ℤ (pos 6)

abbrev pub Making : (ℕ → Made) → Type 0
Making made = (n : ℕ) → Makes n (made n)

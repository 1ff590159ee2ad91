-- "One tick, in order", steps 3 and 4 of one class, in sentences: raw fields and plain comparisons, and no definition of the rules.
-- Assumes nothing.
use Rattle.std.specs.Prelude.{ℕ, ◌+◌, ◌≤◌, ◌<◌, ◌≡◌, ◌↔◌, ◌⊎◌, Bool, true, false, get_or}
use Rattle.bits.specs.Bits.{bit}
use Rattle.class_rules.specs.declared.Class.{Class}
use Rattle.class_rules.specs.declared.Signals.{Signals}
use Rattle.sentences.specs.Fits.{Fits}

-- ── the words of the sentences ──

-- request (i): "EN in steps 3 and 4 reads as 'EN is 1 and at least one line enable is 1'"; "CTRL: bit 0 EN, 1 LOCK, 2 to 5 line enables"
abbrev pub En : Class → Type 0
En c = (bit c.ctrl 0 ≡ true) × ((e : ℕ) × (e < 4) × (bit c.ctrl (2 + e) ≡ true))

abbrev pub Lock : Class → Type 0
Lock c = bit c.ctrl 1 ≡ true

-- "A trigger is an event with no accepted clear in this tick and ACCUM_CNT at or above ACCUM_THRESH before counting"
abbrev pub Trigger : Signals → Class → Type 0
Trigger s c = (s.event ≡ true) × (s.clear ≡ false) × (c.thresh ≤ c.accum)

-- "'Due' means EN is 1, the interrupt bit is now 1 and TIMEOUT_CYC is above 0"
abbrev pub Due : Signals → Class → Type 0
Due s c = En c × (s.interrupt ≡ true) × (0 < c.timeout)

-- to the STATE m with this count: Idle 0, Timeout 1, Terminal 3, phases 4 to 7
abbrev pub At : Class → ℕ → ℕ → Type 0
At d m count = (d.state ≡ m) × (d.count ≡ count)

-- "Entering Phase 0 from Idle or Timeout"
abbrev pub Enters : Class → Class → Type 0
Enters c d = ((c.state ≡ 0) ⊎ (c.state ≡ 1)) × (d.state ≡ 4)

-- ── the sentences: the class is c before steps 3 and 4 of a tick, meets s in them, and is d after ──

pub record Stepped (s : Signals) (c d : Class) : Type 0 where
  -- "A clear makes ACCUM_CNT 0 and the event isn't counted"
  pub accum_clear : s.clear ≡ true → d.accum ≡ 0
  -- "otherwise an event adds 1"
  pub accum_adds : s.clear ≡ false → s.event ≡ true → c.accum < 65535 → d.accum ≡ c.accum + 1
  -- "staying at 65,535"
  pub accum_full : s.clear ≡ false → s.event ≡ true → c.accum ≡ 65535 → d.accum ≡ 65535
  -- a reading: nothing else changes it. "Counting goes on in every state": none of these four reads STATE
  pub accum_stays : s.clear ≡ false → s.event ≡ false → d.accum ≡ c.accum
  -- "Idle: trigger to Phase 0, count 1"
  pub idle_starts : c.state ≡ 0 → Trigger s c → At d 4 1
  -- "else if due to Timeout, count 1"
  pub idle_due : c.state ≡ 0 → ¬ Trigger s c → Due s c → At d 1 1
  -- a reading: else it stays
  pub idle_stays : c.state ≡ 0 → ¬ Trigger s c → ¬ Due s c → At d 0 c.count
  -- "Timeout: trigger, .. to Phase 0, count 1"
  pub timeout_starts : c.state ≡ 1 → Trigger s c → At d 4 1
  -- "or due with count at or above TIMEOUT_CYC, to Phase 0, count 1"
  pub timeout_ends : c.state ≡ 1 → Due s c → c.timeout ≤ c.count → At d 4 1
  -- "else due adds 1"
  pub timeout_adds : c.state ≡ 1 → ¬ Trigger s c → Due s c → c.count < c.timeout → At d 1 (c.count + 1)
  -- "else Idle, count 0". "A clear does not stop a timeout": only a trigger reads it
  pub timeout_stops : c.state ≡ 1 → ¬ Trigger s c → ¬ Due s c → At d 0 0
  -- "Phase p: accepted clear to Idle, count 0"
  pub phase_clear : (p : ℕ) → p < 4 → c.state ≡ 4 + p → s.clear ≡ true → At d 0 0
  -- "else count at or above PHASEp_CYC to the next phase, count 1"
  pub phase_ends : (p : ℕ) → p < 3 → c.state ≡ 4 + p → s.clear ≡ false → get_or c.lengths p 0 ≤ c.count → At d (4 + (p + 1)) 1
  -- "(after Phase 3 Terminal, count 0)"
  pub phase_last : c.state ≡ 4 + 3 → s.clear ≡ false → get_or c.lengths 3 0 ≤ c.count → At d 3 0
  -- "else add 1". "EN is not read": none of these four reads it
  pub phase_adds : (p : ℕ) → p < 4 → c.state ≡ 4 + p → s.clear ≡ false → c.count < get_or c.lengths p 0 → At d (4 + p) (c.count + 1)
  -- "Terminal: accepted clear to Idle"; a reading: the count stays, which is 0 in Terminal and in Idle
  pub terminal_clear : c.state ≡ 3 → s.clear ≡ true → At d 0 c.count
  -- a reading: else it stays
  pub terminal_stays : c.state ≡ 3 → s.clear ≡ false → At d 3 c.count
  -- "Entering Phase 0 from Idle or Timeout with LOCK set makes CLR_REGWEN 0"
  pub locks : Enters c d → Lock c → d.clrwen ≡ 0
  -- a reading: nothing else in these steps changes it
  pub clrwen_stays : ¬ (Enters c d × Lock c) → d.clrwen ≡ c.clrwen
  -- a reading: what the steps do not name stays
  pub lengths : d.lengths ≡ c.lengths
  pub timeout : d.timeout ≡ c.timeout
  pub ctrl : d.ctrl ≡ c.ctrl
  pub thresh : d.thresh ≡ c.thresh
  pub regwen : d.regwen ≡ c.regwen

-- steps 3 and 4 of a class, of every class that fits
abbrev pub ClassStep : (Signals → Class → Class) → Type 0
ClassStep step = (s : Signals) (c : Class) → Fits c → Stepped s c (step s c)

-- "Class k has an event if an enabled alert's event or an occurring local alert is assigned to it and EN is 1"
abbrev pub ClassEvent : (Bool → Class → Bool) → Type 0
ClassEvent event = (assigned : Bool) (c : Class) → (event assigned c ≡ true) ↔ ((assigned ≡ true) × En c)

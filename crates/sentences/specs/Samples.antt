-- "One tick, in order", step 2, in sentences: raw fields and plain comparisons, and no definition of the rules.
-- The state is g before step 2 and h after it, s is the tick's sample, and f is what step 1 hands on.
-- Assumes nothing.
use Rattle.std.specs.Prelude.{ℕ, ◌≤◌, ◌<◌, ◌≡◌, ◌↔◌, ◌⊎◌, Bool, true, get_or, length}
use Rattle.bits.specs.Bits.{bit}
use Rattle.rules.specs.declared.Effects.{Effects}
use Rattle.rules.specs.declared.Handler.{Handler}
use Rattle.rules.specs.declared.Sample.{Sample}
use Rattle.sentences.specs.Pairs.{Equal}
use Rattle.sentences.specs.Receivers.{Answers, Event, Fails}
use Rattle.sentences.specs.Senders.{Wrong}
use Rattle.sentences.specs.Turns.{AlertsTurn, LinesTurn}
use Rattle.sentences.specs.Valid.{Valid}

-- ── the words of the sentences ──

-- EN of alert i, and of local alert j
abbrev pub AlertEnabled : Handler → ℕ → Type 0
AlertEnabled g i = get_or g.alerts.en i 0 ≡ 1

abbrev pub LocalEnabled : Handler → ℕ → Type 0
LocalEnabled g j = get_or g.locals.en j 0 ≡ 1

-- "any enabled alert has equal wires"; request (viii): "Equal wires fail as before", wherever the receiver stands
abbrev pub EqualWires : Handler → Sample → Type 0
EqualWires g s = (i : ℕ) × (i < g.n) × AlertEnabled g i × Equal s.alerts i

-- request (xi): "Equal wires, or a wrong or missing answer", of any of the four receive pairs, timer on or off
abbrev pub WrongPairs : Handler → Sample → Type 0
WrongPairs g s = (e : ℕ) × (e < 4) × Wrong g s.receive e

-- request (v): "A differing second write .. makes local 5 occur in that tick"; local 0 is the lowest bit of what step 1 raises
abbrev pub DifferingWrite : Effects → Type 0
DifferingWrite f = bit f.raises 5 ≡ true

-- step 1 raises local 5 (2 to the 5th is 32) or none
abbrev pub RaisesFiveOrNone : Effects → Type 0
RaisesFiveOrNone f = (f.raises ≡ 0) ⊎ (f.raises ≡ 32)

-- "If any enabled alert has equal wires and local 2 is enabled, local 2 occurs"; "makes local 5 occur in that tick if enabled";
-- "A disabled local alert never occurs"; request (ix): "it makes local 0 or 1 occur then", 0 for an alert's ping and 1 for a line's; request (xi): "make local 3
-- occur"; "Only 2 can occur in the base", and with requests (v), (ix) and (xi) 0, 1, 3 and 5
abbrev pub Occurs : Handler → Sample → Effects → ℕ → Type 0
Occurs g s f j =
    LocalEnabled g j
    × (((j ≡ 0) × (Fails g s f × AlertsTurn g))
    ⊎ (((j ≡ 1) × (Fails g s f × LinesTurn g)) ⊎ (((j ≡ 2) × EqualWires g s) ⊎ (((j ≡ 3) × WrongPairs g s) ⊎ ((j ≡ 5) × DifferingWrite f)))))

-- "an enabled alert's event or an occurring local alert is assigned to it"
abbrev pub Assigned : Handler → Sample → Effects → ℕ → Type 0
Assigned g s f k =
    ((i : ℕ) × Event g s f i × AlertEnabled g i × (get_or g.alerts.class i 0 ≡ k))
    ⊎ ((j : ℕ) × (j < 7) × Occurs g s f j × (get_or g.locals.class j 0 ≡ k))

-- ── the sentences ──

pub record Sampled (g : Handler) (s : Sample) (f : Effects) (h : Handler) : Type 0 where
  -- "An enabled alert's event sets its cause"
  pub cause_sets : (i : ℕ) → Event g s f i → AlertEnabled g i → get_or h.alerts.cause i 0 ≡ 1
  -- a reading: nothing else in this step changes it, an answer to a ping, which "is no event", neither; nor at N and above
  pub cause_stays : (i : ℕ) → i < 248 → ¬ (Event g s f i × AlertEnabled g i) → get_or h.alerts.cause i 0 ≡ get_or g.alerts.cause i 0
  -- request (iii): "A new handler starts with 248 alert entries"
  pub cause_entries : length h.alerts.cause ≡ 248
  -- "local 2 occurs and sets its cause", and the others likewise
  pub local_sets : (j : ℕ) → j < 7 → Occurs g s f j → get_or h.locals.cause j 0 ≡ 1
  -- a reading: nothing else in this step changes it. "A disabled local alert never occurs"
  pub local_stays : (j : ℕ) → j < 7 → ¬ Occurs g s f j → get_or h.locals.cause j 0 ≡ get_or g.locals.cause j 0
  -- "local alert j is 0 to 6"
  pub local_entries : length h.locals.cause ≡ 7
  -- a reading: what a step does not name stays, here N, the stages and every other register; what the wires make of the links is written last (Links.antt)
  pub n : h.n ≡ g.n
  pub links : h.links ≡ g.links
  pub alert_regwen : h.alerts.regwen ≡ g.alerts.regwen
  pub alert_en : h.alerts.en ≡ g.alerts.en
  pub alert_class : h.alerts.class ≡ g.alerts.class
  pub local_regwen : h.locals.regwen ≡ g.locals.regwen
  pub local_en : h.locals.en ≡ g.locals.en
  pub local_class : h.locals.class ≡ g.locals.class
  pub classes : h.classes ≡ g.classes
  pub interrupts : h.interrupts ≡ g.interrupts
  pub timer : h.timer ≡ g.timer
  pub stages : h.stages ≡ g.stages

-- step 2, of every state that refusal 7 does not meet
abbrev pub SampleStep : (Handler → Sample → Effects → Handler) → Type 0
SampleStep sample = (g : Handler) (s : Sample) (f : Effects) → Valid g → RaisesFiveOrNone f → Sampled g s f (sample g s f)

-- an alert's event, enabled or not, an answer to its ping, an enabled alert's event, an occurring local alert, and what is assigned to class k,
-- as tests; N is at most 248 and a timeout has 16 bits
abbrev pub EventIs : (Handler → Sample → Effects → ℕ → Bool) → Type 0
EventIs event = (g : Handler) (s : Sample) (f : Effects) (i : ℕ) → g.n ≤ 248 → (event g s f i ≡ true) ↔ Event g s f i

abbrev pub AnswersIs : (Handler → Sample → Effects → ℕ → Bool) → Type 0
AnswersIs answers = (g : Handler) (s : Sample) (f : Effects) (i : ℕ) → g.n ≤ 248 → (answers g s f i ≡ true) ↔ Answers g s f i

abbrev pub AlertEventIs : (Handler → Sample → Effects → ℕ → Bool) → Type 0
AlertEventIs event = (g : Handler) (s : Sample) (f : Effects) (i : ℕ) → g.n ≤ 248 → (event g s f i ≡ true) ↔ (Event g s f i × AlertEnabled g i)

abbrev pub OccursIs : (Handler → Sample → Effects → ℕ → Bool) → Type 0
OccursIs occurs =
    (g : Handler) (s : Sample) (f : Effects) (j : ℕ) → g.n ≤ 248 → g.timer.timeout ≤ 65535 → RaisesFiveOrNone f → j < 7
    → (occurs g s f j ≡ true) ↔ Occurs g s f j

abbrev pub AssignedIs : (Handler → Sample → Effects → ℕ → Bool) → Type 0
AssignedIs assigned =
    (g : Handler) (s : Sample) (f : Effects) (k : ℕ) → g.n ≤ 248 → g.timer.timeout ≤ 65535 → RaisesFiveOrNone f
    → (assigned g s f k ≡ true) ↔ Assigned g s f k

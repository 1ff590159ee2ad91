-- "One tick, in order", steps 3 to 5 of the whole handler, in sentences: raw fields and plain comparisons, and no definition of the rules.
-- Assumes nothing.
use Rattle.std.specs.Prelude.{ℕ, ◌≤◌, ◌<◌, ◌≡◌, ◌↔◌, ◌⊎◌, true, length}
use Rattle.bits.specs.Bits.{bit}
use Rattle.class_rules.specs.declared.Signals.{Signals}
use Rattle.rules.specs.declared.Effects.{Effects}
use Rattle.rules.specs.declared.Handler.{Handler}
use Rattle.rules.specs.declared.Output.{Output}
use Rattle.rules.specs.declared.Sample.{Sample}
use Rattle.sentences.specs.ClassStep.{En, Stepped}
use Rattle.sentences.specs.Lines.{DrivesLine}
use Rattle.sentences.specs.Pairs.{PairsBy, LinePairsBy}
use Rattle.sentences.specs.Raw.{level, pair_last, class_of}
use Rattle.sentences.specs.Receivers.{Acknowledged}
use Rattle.sentences.specs.Samples.{Assigned}

-- ── steps 3 and 4: g is the state before step 2, whose events and occurring local alerts count, s is the tick's sample, f is what step 1 hands on;
-- m is the state after step 2, and h that after step 4 ──

-- "Class k has an event if an enabled alert's event or an occurring local alert is assigned to it and EN is 1"; EN as request (i) reads it
abbrev pub ClassHasEvent : Handler → Sample → Effects → Handler → ℕ → Type 0
ClassHasEvent g s f m k = Assigned g s f k × En (class_of m k)

-- what class k meets in steps 3 and 4
pub record Meets (g : Handler) (s : Sample) (f : Effects) (m h : Handler) (k : ℕ) (x : Signals) : Type 0 where
  -- "however many, it is one event"
  pub event : (x.event ≡ true) ↔ ClassHasEvent g s f m k
  -- "the interrupt bit is now 1"
  pub interrupt : (x.interrupt ≡ true) ↔ (bit h.interrupts.state k ≡ true)
  -- "A write of 1 to CLR is an accepted clear": step 1 hands on whether class k has one, class 0 at the lowest bit
  pub clear : (x.clear ≡ true) ↔ (bit f.clears k ≡ true)

pub record ClassesStepped (g : Handler) (s : Sample) (f : Effects) (m h : Handler) : Type 0 where
  -- "It sets the interrupt bit, after any clearing in step 1": a bit is 1 if it was after steps 1 and 2, or has been set now
  pub interrupt_bit : (k : ℕ) → k < 4 → (bit h.interrupts.state k ≡ true) ↔ ((bit m.interrupts.state k ≡ true) ⊎ ClassHasEvent g s f m k)
  -- "INTR_STATE .. 4" bits
  pub interrupt_bits : h.interrupts.state ≤ 15
  -- every class takes steps 3 and 4 by what it meets; "class k is 0 to 3"
  pub signals : ℕ → Signals
  pub meets : (k : ℕ) → k < 4 → Meets g s f m h k (signals k)
  pub steps : (k : ℕ) → k < 4 → Stepped (signals k) (class_of m k) (class_of h k)
  pub entries : length h.classes ≡ 4
  -- a reading: what the steps do not name stays
  pub enable : h.interrupts.enable ≡ m.interrupts.enable
  pub n : h.n ≡ m.n
  pub links : h.links ≡ m.links
  pub alerts : h.alerts ≡ m.alerts
  pub locals : h.locals ≡ m.locals
  pub timer : h.timer ≡ m.timer
  pub stages : h.stages ≡ m.stages

-- ── step 5: o are the outputs from the state h, "the state now reached"; "Bit or field for class or line 0 is lowest". g is the state before step 2,
-- before the tick's wires are read ──

pub record OutputOf (g h : Handler) (o : Output) : Type 0 where
  -- "interrupts are INTR_STATE and INTR_ENABLE, bit by bit"
  pub interrupt : (k : ℕ) → k < 4 → (bit o.interrupts k ≡ true) ↔ ((bit h.interrupts.state k ≡ true) × (bit h.interrupts.enable k ≡ true))
  -- "a line is on if any class drives it"
  pub line : (e : ℕ) → e < 4 → (bit o.lines e ≡ true) ↔ ((k : ℕ) × (k < 4) × DrivesLine (class_of h k) e)
  -- "four interrupts and four escalation lines come out"
  pub interrupt_bits : o.interrupts ≤ 15
  pub line_bits : o.lines ≤ 15
  -- request (viii): "alert raised, acknowledged in the next tick, alert dropped, acknowledgement dropped in the next"; "Acknowledge and ping pairs
  -- become outputs, (0,1) at reset, at N and above": by where the receiver stands before the tick's wires, so that equal wires do not keep "a due
  -- acknowledge change" back
  pub acknowledge : PairsBy g.n (Acknowledged g) o.acknowledge
  -- request (ix): a ping that opens "changes the ping pair's level .. before that tick's wires are read"
  pub ping : PairsBy h.n (λ i. level h i ≡ true) o.ping
  -- request (xi): what the senders sent in the tick that reaches h
  pub escalation : LinePairsBy (λ e. pair_last h e ≡ true) o.escalation

-- step 5, of every two states
abbrev pub Outputs : (Handler → Handler → Output) → Type 0
Outputs output = (g h : Handler) → OutputOf g h (output g h)

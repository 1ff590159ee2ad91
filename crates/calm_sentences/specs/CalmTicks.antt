-- Request (xii), "Skip the calm": what comes in in a calm tick, and the outputs of tick 0 and of a refusal, in sentences: raw bits and literal numbers, and no definition of the
-- rules.
-- Assumes nothing.
use Rattle.std.specs.Prelude.{ℕ, ◌≤◌, ◌<◌, ◌≡◌, ◌↔◌, ◌≢◌, true}
use Rattle.bits.specs.Bits.{bit}
use Rattle.rules.specs.declared.Access.{Access}
use Rattle.rules.specs.declared.Handler.{Handler}
use Rattle.rules.specs.declared.Input.{Input}
use Rattle.rules.specs.declared.Output.{Output}
use Rattle.rules.specs.declared.Receive.{Receive}
use Rattle.rules.specs.declared.Wires.{Wires}
use Rattle.sentences.specs.Lines.{DrivesLine}
use Rattle.sentences.specs.Pairs.{AllLow}
use Rattle.sentences.specs.Raw.{right_answer, class_of}

-- ── what comes back from the lines: "Escalation receivers answer without fault" ──

-- the receive pairs have their positive wires in p and their negative ones in m, line 0 the lowest bit. Request (xi): "Equal wires, or a wrong or missing answer" are the faults
pub record WithoutFault (g : Handler) (p m : ℕ) : Type 0 where
  -- each line's right answer to all that its sender has sent
  pub positive : (e : ℕ) → e < 4 → bit p e ≡ right_answer g e
  -- on wires that differ
  pub negative : (e : ℕ) → e < 4 → bit m e ≢ bit p e
  -- four lines: the bits from 4 up are 0
  pub positives : p ≤ 15
  pub negatives : m ≤ 15

-- ── x comes in in a calm tick of the state g on the wires w: "ticks without access on steady wires" ──

pub record CalmInput (w : Wires) (g : Handler) (x : Input) : Type 0 where
  -- "without access"
  pub access : x.access ≡ Access.Nothing
  -- "on steady wires": those given, whatever they are; "Equal wires on enabled alerts are allowed"
  pub wires : x.sample.alerts ≡ w
  -- a reading: the entropy word is 0, as the installer's is
  pub word : x.sample.word ≡ 0
  -- "Escalation receivers answer without fault"
  pub receive : (p m : ℕ) × (x.sample.receive ≡ Receive.Pairs p m) × WithoutFault g p m

-- ── outputs ──

-- "pairs (0,1)": acknowledge, ping and escalation pairs
pub record PairsLow (o : Output) : Type 0 where
  pub acknowledge : AllLow o.acknowledge
  pub ping : AllLow o.ping
  pub escalation_positive : o.escalation.pos ≡ 0
  pub escalation_negative : o.escalation.neg ≡ 15

-- "tick 0 is step 5 of the given state, pairs (0,1)"
pub record Tick0 (h : Handler) (o : Output) : Type 0 where
  -- document 01: "interrupts are INTR_STATE and INTR_ENABLE, bit by bit"
  pub interrupt : (k : ℕ) → k < 4 → (bit o.interrupts k ≡ true) ↔ ((bit h.interrupts.state k ≡ true) × (bit h.interrupts.enable k ≡ true))
  -- document 01: "a line is on if any class drives it"
  pub line : (e : ℕ) → e < 4 → (bit o.lines e ≡ true) ↔ ((k : ℕ) × (k < 4) × DrivesLine (class_of h k) e)
  pub interrupt_bits : o.interrupts ≤ 15
  pub line_bits : o.lines ≤ 15
  pub pairs : PairsLow o

-- "outputs as on 7"; document 01: "interrupts and lines 0"; requests (viii) and (xi): pairs (0,1)
pub record AsOn7 (o : Output) : Type 0 where
  pub interrupts : o.interrupts ≡ 0
  pub lines : o.lines ≡ 0
  pub pairs : PairsLow o

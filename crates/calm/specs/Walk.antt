-- Request (xii): calm ticks of a state on its way, with the words of their changes.
-- Assumes nothing.
use Rattle.std.specs.Prelude.{ℕ, ◌+◌, ◌≡◌, List, ◌++◌, length}
use Rattle.bits.specs.Bits.{bits_of}
use Rattle.calm_laws.specs.Four.{met, changes, changes_in, Running}
use Rattle.calm_laws.specs.Settled.{calm_class_event, calm_signals, moved, Settled, settle_ticks}
use Rattle.calm_rules.specs.Ticks.{calm_input, calm_run, calm_output, change, calm_changes}
use Rattle.class_rules.specs.declared.Class.{Class}
use Rattle.link_rules.specs.declared.Senders.{Senders}
use Rattle.rules.specs.Tick.{ticked}
use Rattle.rules.specs.declared.Output.{Output}
use Rattle.calm.specs.declared.ticking.Ticking.{Ticking}

-- one plain tick more, of this number, and its outputs
pub record NextBy {most : ℕ} (c : Ticking most) (tick : ℕ) (d : Ticking most) (o : Output) : Type 0 where
  pub handler : d.handler ≡ (ticked c.handler (calm_input c.wires c.handler)).handler
  pub output : o ≡ (ticked c.handler (calm_input c.wires c.handler)).output
  pub wires : d.wires ≡ c.wires
  pub words : d.changes ≡ c.changes ++ change c.on o.lines tick

-- n ticks, and the outputs of the last
pub record Walk {most : ℕ} (c : Ticking most) (n : ℕ) (d : Ticking most) (o : Output) : Type 0 where
  pub handler : d.handler ≡ calm_run c.handler c.wires n
  pub output : o ≡ calm_output c.handler c.wires n
  pub wires : d.wires ≡ c.wires
  pub words : d.changes ≡ c.changes ++ calm_changes c.handler c.wires n

-- n ticks by the engine, after as many as settle a state: they move the classes and the senders alone, and each class meets the same in every tick.
-- Of a state that is settled they are n calm ticks.
pub record RestBy {most : ℕ} (c : Ticking most) (n : ℕ) (d : Ticking most) : Type 0 where
  pub ds : List Class
  pub ts : Senders
  pub run : Running (met (bits_of 4 (calm_class_event c.handler c.wires)) c.handler.interrupts.state) c.handler.classes c.handler.links.senders settle_ticks (length c.changes + changes_in c.handler.classes) c.changes n ds ts d.changes
  pub state : d.handler ≡ moved ds ts c.handler
  pub wires : d.wires ≡ c.wires
  pub handler : Settled c.handler c.wires → d.handler ≡ calm_run c.handler c.wires n
  pub words : Settled c.handler c.wires → d.changes ≡ c.changes ++ changes (calm_signals c.handler c.wires) settle_ticks n c.handler.classes

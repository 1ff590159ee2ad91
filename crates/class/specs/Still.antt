-- A class in a tick in which it has no event and no clear: only the interrupt bit may be 1.
-- Assumes nothing.
use Rattle.std.specs.Prelude.{Bool, false, not, ◌&&◌, ◌||◌, eqb}
use Rattle.class_rules.specs.Class.{state_number}
use Rattle.class_rules.specs.Step.{due}
use Rattle.class_rules.specs.declared.Class.{Class}
use Rattle.class_rules.specs.declared.ClassState.TheVariants.{Idle, Terminal}
use Rattle.class_rules.specs.declared.Signals.{Signals}

-- what it meets
abbrev pub only : Bool → Signals
only interrupt = record { event = false; interrupt = interrupt; clear = false }

-- it stays as it is: Terminal, or Idle and not due
abbrev pub still : Class → Bool → Bool
still c interrupt = eqb c.state (state_number Terminal) || (eqb c.state (state_number Idle) && not (due (only interrupt) c))

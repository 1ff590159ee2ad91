-- The input of a tick, as a caller outside the language hands it in: the fields of a record, each a number of its own, and what comes in on the wires.
-- Assumes nothing.
use Rattle.std.specs.Prelude.{ℕ, cond, eqb}
use Rattle.trace_rules.specs.Record.{access_of}
use Rattle.rules.specs.declared.Access.{Access}
use Rattle.rules.specs.declared.Input.{Input}
use Rattle.rules.specs.declared.Receive.TheVariants.{Pairs}
use Rattle.rules.specs.declared.Sample.{Sample}
use Rattle.boundary.specs.declared.Wired.{Wired}

-- the access of a record: kind 0 uses no register, and no kind but 2 a value, so that what stands there counts as 0
abbrev pub access_by : ℕ → ℕ → ℕ → Access
access_by kind register value = access_of kind (cond (eqb kind 0) 0 register) (cond (eqb kind 2) value 0)

-- request (xi): receive pairs, which are checked
abbrev pub sample_by : Wired → Sample
sample_by w = record { alerts = w.alerts; word = w.word; receive = Pairs w.receive_positive w.receive_negative }

abbrev pub input_by : ℕ → ℕ → ℕ → Wired → Input
input_by kind register value w = record { access = access_by kind register value; sample = sample_by w }

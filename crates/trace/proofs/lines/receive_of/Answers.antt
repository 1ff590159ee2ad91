-- `lines::receive_of` meets its contract, edition by edition.
-- Assumes nothing.
use mathlib.Core.Path.{ap, ap₂, ◌∙◌}
use Rattle.bits.specs.Bits.{bits_of}
use Rattle.rules.specs.declared.Receive.TheVariants.{Pairs, Answers}
use Rattle.trace_laws.proofs.LineBits.{answers_digits}
use Rattle.trace_rules.specs.Record.{positives_of, negatives_of}
use Rattle.trace.proofs.lines.receive_of.Goals as goal

pub returns-in-Pings : goal.returns-in-Pings
returns-in-Pings c = rw c.in-Pings.is (ap Answers (c.four.ensures.0 ∙ answers_digits _))

pub returns-in-Wires : goal.returns-in-Wires
unfolding positives_of negatives_of bits_of
returns-in-Wires c = rw c.in-Wires.is (ap₂ Pairs c.every_other.ensures c.every_other-in-Wires.ensures)

-- `record::tail_at` meets its contract, edition by edition.
-- Assumes nothing.
use mathlib.Core.Path.{◌≡◌}
use mathlib.Core.Logic.{inl, inr}
use Rattle.bits.specs.Fields.{unpack}
use Rattle.trace.specs.declared.record.Tail.{Tail}
use Rattle.trace.proofs.Records.{pings_tail, pairs_tail}
use Rattle.trace.proofs.record.tail_at.Goals as goal

pub returns-in-Alerts64 : goal.returns-in-Alerts64
unfolding unpack
returns-in-Alerts64 c =
    let d = c.default.ensures in
    let none : ◌≡◌ {A = Tail} c.default.result record { word = 0; zeros = 0; lines = 0 } = λ t. record { word = d.0 t; zeros = d.1.0 t; lines = d.1.1 t } in
    elim c.in-Alerts64.is [ inl e ↦ rw e none | inr e ↦ rw e none ]

pub returns-in-Pings : goal.returns-in-Pings
returns-in-Pings c = rw c.in-Pings.is (pings_tail c.args.at c.args.bytes.now (rw c.in-Pings.is at c.requires) (λ i. (c.type_inv.bytes i).fits) _ c.half_at.ensures)

pub returns-in-Wires : goal.returns-in-Wires
returns-in-Wires c = rw c.in-Wires.is (pairs_tail c.args.at c.args.bytes.now (rw c.in-Wires.is at c.requires) (λ i. (c.type_inv.bytes i).fits) _ c.half_at-in-Wires.ensures)

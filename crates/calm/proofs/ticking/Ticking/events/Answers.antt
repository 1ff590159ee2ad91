-- `events` meets its contract.
-- Assumes nothing.
use mathlib.Core.Path.{ap, ◌∙◌}
use mathlib.Core.Bool.{false}
use Rattle.laws.proofs.Valid.ValidLaws.{facts}
use Rattle.rules.specs.Samples.{heard, assigned}
use Rattle.rules.specs.declared.Heard.{Heard}
use Rattle.rules.specs.declared.Input.{Input}
use Rattle.bits.specs.Bits.{bits_of}
use Rattle.calm.proofs.Resting.{events_mask}
use Rattle.calm.proofs.ticking.Ticking.events.Goals as goal

pub hear-heard-requires : goal.hear-heard-requires
hear-heard-requires g c = (facts _ c.args.self.now.good).n

pub sample-sampled-requires : goal.sample-sampled-requires
sample-sampled-requires g c = (facts _ c.args.self.now.good).n

pub returns : goal.returns
returns g c =
    let b = c.args.self.now in
    c.events_of.ensures
    ∙ events_mask b.handler b.wires b.good b.off c.sample-sampled.result.assigned
    (c.sample-sampled.ensures.assigns
    ∙ ap (λ (v : Heard). bits_of 4 (assigned b.handler v))
    (c.hear-heard.ensures ∙ ap (λ (x : Input). heard b.handler x.sample (record { clears = 0; raises = 0; begins = false })) c.input.ensures))

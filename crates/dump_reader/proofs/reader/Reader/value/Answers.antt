-- `Reader::value` meets its contract.
-- Assumes nothing.
use Prim.Native.Nat.{◌^◌}
use mathlib.Core.Path.{ap, ◌∙◌}
use Rattle.bits.specs.Bits.{fits}
use Rattle.rules.specs.Map.{decode, bits}
use Rattle.rules.specs.declared.Register.{Register}
use Rattle.dump_reader.proofs.StageLaws.{below_limit}
use Rattle.dump_reader.proofs.reader.Reader.value.Goals as goal

pub returns : goal.returns
returns c =
    c.number.ensures (fits (bits (decode c.args.n c.args.r)))
    (below_limit _ _ (c.limit.ensures ∙ ap (λ (q : Register). 2 ^ bits q) c.register_at.ensures))

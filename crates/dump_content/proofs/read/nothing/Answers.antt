-- `read::nothing` meets its contract.
-- Assumes nothing.
use Rattle.dump_content.proofs.ReadLaws.{nothing_is}
use Rattle.dump_content.proofs.read.nothing.Goals as goal

pub returns : goal.returns
returns c =
    let d = c.default.ensures in
    nothing_is c.args.u c.refused.result c.default.result c.refused.ensures (λ i. record { state = d.0 i; count = d.1.0 i; accum = d.1.1 i })

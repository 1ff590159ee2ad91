-- `replay::start` is safe: what is made for as many alerts as the edition speaks of is admitted.
-- Assumes nothing.
use Rattle.std.proofs.Common.{◌≤◌, arith}
use Rattle.trace_rules.specs.Edition.{alerts}
use Rattle.replay.proofs.Starts.{made_admits}
use Rattle.replay.proofs.start.Goals as goal

pub run-requires : goal.run-requires
run-requires g c =
    let few : c.args.n ≤ alerts c.args.edition = omega arith in
    (rw c.new-made.ensures (made_admits c.args.edition _ few), c.requires)

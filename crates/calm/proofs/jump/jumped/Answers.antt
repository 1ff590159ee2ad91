-- `jumped` meets its contract.
-- Assumes nothing.
use Rattle.calm_laws.specs.Stand.{jumped}
use native.Mathlib.Omega.{arith}
use Rattle.calm_laws.proofs.Jumps.{count_room}
use Rattle.calm_laws.proofs.Standing.{stands_most}
use Rattle.calm.proofs.jump.jumped.Goals as goal

pub count_after-requires : goal.count_after-requires
count_after-requires c =
    rw (c.counts.ensures, c.state_of.ensures) (count_room c.args.s c.args.c c.args.n c.requires.0 (omega arith) c.requires.1)

pub accum_after-requires : goal.accum_after-requires
accum_after-requires c = omega (arith, stands_most c.args.s c.args.c c.requires.0, c.requires.1)

pub returns : goal.returns
unfolding jumped
returns c = simp (c.accum_after.ensures, c.count_after.ensures, c.counts.ensures, c.state_of.ensures)

-- `run` meets its contract.
-- Assumes nothing.
use Prim.Native.Nat.{◌-◌}
use native.Mathlib.Omega.{arith}
use borrow.Author.Rules.{rules}
use Rattle.calm.proofs.Resting.{fits_by, whole}
use Rattle.calm.proofs.ticking.Ticking.run.Goals as goal

pub rest-requires : goal.rest-requires
rest-requires g c =
    (search rules, (fits_by c.args.self.now c.walk-2.new.self c.walk-2.result c.walk-2.ensures, omega (arith, c.if-n-le-SETTLE.false, c.requires)))

pub returns : goal.returns
returns g c =
    whole c.args.self.now c.walk-2.new.self c.rest.new.self c.step.new.self (c.args.n - 3 - 1) c.args.n c.walk-2.result c.step.result c.walk-2.ensures
    c.rest.ensures (omega (arith, c.if-n-le-SETTLE.false)) c.step.ensures

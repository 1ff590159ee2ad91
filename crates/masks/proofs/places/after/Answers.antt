-- `places::after` meets its contract.
-- Assumes nothing.
use Prim.Native.Nat.{◌-◌}
use native.Mathlib.Omega.{arith}
use Rattle.bits.proofs.FirstLaws.{one_shl}
use Rattle.masks.proofs.Firsts.{rest_of}
use Rattle.masks.proofs.places.after.Goals as goal

pub returns : goal.returns
returns c = rw (one_shl 64 (63 - c.args.i) (omega arith)) (rest_of c.args.w c.args.i c.requires)

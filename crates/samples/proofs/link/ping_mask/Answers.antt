-- `link::ping_mask` meets its contract.
-- Assumes nothing.
use Prim.Native.Nat.{ℕ, ◌*◌, ◌^◌, ◌%◌, ◌<◌}
use mathlib.Core.Path.{◌≡◌}
use mathlib.Core.Bool.{Bool, true, false, ◌&&◌}
use mir.Val.{bool_byte}
use native.Mathlib.Omega.{arith}
use native.Mathlib.Nat.{zero-mul}
use lib.Dec.{eqb}
use Rattle.bits.specs.Bits.{bit}
use Rattle.bits.proofs.BitLaws.{bit_none}
use Rattle.samples.proofs.LineMasks.{one_mask}
use Rattle.samples.proofs.link.ping_mask.Goals as goal

shifted : (opens : Bool) (e l : ℕ) → e < 4 → bit (bool_byte opens * 2 ^ e % 4294967296) l ≡ (opens && eqb l e)
shifted true e l h = one_mask 0 e (omega arith) h l
shifted false e l h = rw zero-mul (bit_none l)

pub returns : goal.returns
returns c = λ l. rw c.from.ensures (shifted c.args.opens c.args.e l c.requires)

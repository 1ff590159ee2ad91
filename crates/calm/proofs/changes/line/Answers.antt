-- `line` meets its contract.
-- Assumes nothing.
use mathlib.Core.Path.{◌≡◌, refl, ◌∙◌}
use mathlib.Core.Bool.{Bool, true, false}
use Prim.Native.Nat.{◌≤◌}
use native.Mathlib.Omega.{arith}
use mir.Val.{bool_byte}
use Rattle.bits.specs.Bits.{bit, num}
use Rattle.calm.proofs.changes.line.Goals as goal

byte_num : (b : Bool) → (bool_byte b ≡ num b) × (num b ≤ 1)
byte_num true = (refl, omega arith)
byte_num false = (refl, omega arith)

pub returns : goal.returns
unfolding bit
returns c = let n = byte_num _ in (c.from.ensures ∙ n.0, omega (arith, c.from.ensures, n.0, n.1))

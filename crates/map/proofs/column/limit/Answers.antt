-- `column::limit` meets its contract: no register has more than 32 bits, so nothing is shifted out.
-- Assumes nothing.
use Prim.Native.Nat.{ℕ, ◌^◌, ◌<◌}
use mathlib.Core.Path.{ap, ◌∙◌}
use native.Mathlib.Omega.{arith}
use native.Mathlib.Nat.{one-mul}
use lib.Pow.{shl_exact}
use Rattle.laws.proofs.Map.RowLaws.{most_bits}
use Rattle.rules.specs.Map.{bits}
use Rattle.rules.specs.declared.Row.{Row}
use Rattle.map.proofs.column.limit.Goals as goal

pub returns : goal.returns
unfolding bits
returns c =
    let b : ℕ = c.row_of.result.bits in
    let l : b < 64 = rw c.row_of.ensures (omega (arith, most_bits c.args.q)) in
    shl_exact 1 b 64 (omega arith) (omega (arith, l)) ∙ one-mul (2 ^ b) ∙ ap (λ (r : Row). 2 ^ r.bits) c.row_of.ensures

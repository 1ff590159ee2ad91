-- `number::block_at` meets its contract: the lengths' offsets, and those past the last register.
-- Assumes nothing.
use Prim.Native.Nat.{◌-◌}
use mathlib.Core.Path.{sym, ap, ◌∙◌}
use native.Mathlib.Omega.{arith}
use borrow.Author.Tests.{lt-ltb}
use Rattle.laws.proofs.Map.MapLaws.{block_at_law, block_none}
use Rattle.rules.specs.Map.{block_at}
use Rattle.rules.specs.declared.Setting.TheVariants.{PhaseCyc}
use Rattle.map.proofs.number.block_at.Goals as goal

pub returns-in-7-to-10 : goal.returns-in-7-to-10
returns-in-7-to-10 c =
    let o = c.args.o in
    let k = c.args.k in
    sym (block_at_law k (PhaseCyc (o - 7)) (lt-ltb (o - 7) 4 (omega arith))) ∙ ap (block_at k) (omega arith)

pub returns-in_default : goal.returns-in_default
returns-in_default c = sym (block_none c.args.k c.args.o (omega arith))

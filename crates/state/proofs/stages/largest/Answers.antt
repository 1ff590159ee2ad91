-- `stages::largest` meets its contract: after i codes the largest fits a width exactly if those i codes do.
-- Assumes nothing.
use Prim.Native.Nat.{◌^◌}
use mathlib.Core.Path.{◌≡◌, ap, ◌∙◌}
use mathlib.Core.Bool.{Bool, ◌&&◌}
use native.Mathlib.Omega.{arith}
use native.Mathlib.Numerals.{add-one}
use borrow.Author.Rules.{rules}
use borrow.Author.Tests.{le-leb}
use lib.ListN.{get_or}
use Rattle.bits.specs.Index.{all_to}
use Rattle.rules.specs.Valid.{code_fits}
use Rattle.state.proofs.stages.largest.Goals as goal

pub loop-i-init : goal.loop-i-init
unfolding all_to
loop-i-init c = (search rules, λ b. le-leb 0 (2 ^ b) (omega arith))

pub loop-i-preserved : goal.loop-i-preserved
unfolding all_to
loop-i-preserved c =
    let l = c.loop-i in
    let x = get_or c.args.xs.now l.i 0 in
    (search rules, λ b. rw add-one (c.larger-r.ensures (2 ^ b) ∙ ap (λ (t : Bool). t && code_fits b x) (l.invariant.1 b)))

pub returns : goal.returns
returns c = let e : c.loop-i.i ≡ c.args.n = omega arith in rw e at c.loop-i.invariant.1

-- `valid::union` meets its contract: after i entries the union fits a width exactly if those i entries do.
-- Assumes nothing.
use mathlib.Core.Path.{◌≡◌, ap, ◌∙◌}
use mathlib.Core.Bool.{Bool, ◌&&◌}
use native.Mathlib.Omega.{arith}
use native.Mathlib.Numerals.{add-one}
use borrow.Author.Rules.{rules}
use lib.ListN.{get_or}
use Rattle.bits.specs.Bits.{fits}
use Rattle.bits.specs.Index.{all_to}
use Rattle.state.proofs.Widths.{fits_or, fits_zero}
use Rattle.state.proofs.valid.union.Goals as goal

pub loop-i-init : goal.loop-i-init
unfolding all_to
loop-i-init c = (search rules, λ b. fits_zero b)

pub loop-i-preserved : goal.loop-i-preserved
unfolding all_to
loop-i-preserved c =
    let l = c.loop-i in
    let x = get_or c.args.xs.now l.i 0 in
    (search rules, λ b. rw add-one (fits_or b l.r x ∙ ap (λ (t : Bool). t && fits b x) (l.invariant.1 b)))

pub returns : goal.returns
returns c = let e : c.loop-i.i ≡ c.args.n = omega arith in rw e at c.loop-i.invariant.1

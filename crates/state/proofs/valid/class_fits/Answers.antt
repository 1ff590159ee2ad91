-- `valid::class_fits` meets its contract: the registers of 16 and 32 bits need no test.
-- Assumes nothing.
use Prim.Native.Nat.{ℕ}
use lib.ListN.{get_or}
use mir.Syntax.{w32}
use mir.Val.{Fits}
use Rattle.state.proofs.Widths.{class_narrow}
use borrow.Author.Rules.{rules}
use Rattle.state.proofs.valid.class_fits.Goals as goal

pub returns : goal.returns
returns c =
    let k = c.args.c in
    let l : (p : ℕ) → Fits w32 (get_or k.lengths p 0) = λ p. search rules in
    rw c.count_fits.ensures (class_narrow k (search rules) (search rules) (search rules) (search rules) (λ p. (l p).fits))

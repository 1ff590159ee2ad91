-- `locals::occur` meets its contract. The invariant: the local alerts below j are noted.
-- Assumes nothing.
use mathlib.Core.Path.{◌≡◌, sym}
use lib.ListN.{length}
use native.Mathlib.Numerals.{add-one}
use native.Mathlib.Omega.{arith}
use borrow.Author.Rules.{rules}
use Rattle.bits.specs.Bits.{bit}
use Rattle.rules.specs.State.{local_count}
use Rattle.events.proofs.Notes.{noted_start, noted_long, noted_step}
use Rattle.samples.proofs.locals.occur.Goals as goal

pub loop-j-init : goal.loop-j-init
loop-j-init c = (search rules, noted_start _ _ _ _ (search rules))

pub slice_bounds-mark-end : goal.slice_bounds-mark-end
slice_bounds-mark-end c =
    let l = c.loop-j in
    let e : length l.cause ≡ local_count = noted_long _ _ _ _ _ _ _ l.invariant.1 in sym e

pub mark-requires : goal.mark-requires
mark-requires c =
    let l = c.loop-j in
    let e : length l.cause ≡ local_count = noted_long _ _ _ _ _ _ _ l.invariant.1 in omega (arith, e, l.invariant.0)

pub loop-j-preserved : goal.loop-j-preserved
unfolding bit
loop-j-preserved c =
    let l = c.loop-j in
    (search rules, rw (add-one, c.class_bit-hits.ensures, c.mark.ensures, c.does_occur-on.ensures) (noted_step _ _ _ _ _ _ _ l.invariant.1 (search rules)))

pub returns : goal.returns
returns c = let e : c.loop-j.j ≡ local_count = omega arith in rw e at c.loop-j.invariant.1

-- `gather::gather` meets its contract. The invariant: the alerts that have had their turn are noted.
-- Assumes nothing.
use Prim.Native.Nat.{◌+◌, ◌*◌, ◌<◌}
use mathlib.Core.Path.{sym}
use native.Mathlib.Numerals.{add-one}
use native.Mathlib.Omega.{arith}
use borrow.Author.Rules.{rules}
use Rattle.rules.specs.State.{most}
use Rattle.events.specs.Gathered.{among_words}
use Rattle.events.proofs.Notes.{noted_start, noted_long, noted_cut}
use Rattle.events.proofs.Noting.{noted_turn, noted_word}
use Rattle.events.proofs.Turns.{counted_below, left_start, left_here, left_after}
use Rattle.events.proofs.gather.gather.Goals as goal

pub loop-v-init : goal.loop-v-init
loop-v-init c = (search rules, noted_start _ _ _ _ (search rules))

pub loop-left-init : goal.loop-left-init
loop-left-init c =
    let l = c.loop-v in
    let a = c.args in
    (l.v * 64, left_start a.n a.events.now l.v c.live.result c.live.ensures, λ before s. s)

pub bounds-en-i : goal.bounds-en-i
-- the alert whose turn it is is one of those below n
bounds-en-i c =
    omega (arith, c.requires, counted_below c.args.n c.args.events.now (c.loop-v.v * 64 + c.first-b.result) (left_here _ _ _ _ c.loop-left.invariant.1 _ c.first-b.ensures))

pub bounds-class-i : goal.bounds-class-i
bounds-class-i c =
    omega (arith, c.requires, counted_below c.args.n c.args.events.now (c.loop-v.v * 64 + c.first-b.result) (left_here _ _ _ _ c.loop-left.invariant.1 _ c.first-b.ensures))

pub slice_bounds-mark-end : goal.slice_bounds-mark-end
slice_bounds-mark-end c = sym (noted_long _ _ _ _ _ _ _ (c.loop-left.invariant.2 c.args.before c.loop-v.invariant.1))

pub mark-requires : goal.mark-requires
mark-requires c =
    let b : c.loop-v.v * 64 + c.first-b.result < most = omega (arith, c.requires, counted_below c.args.n c.args.events.now (c.loop-v.v * 64 + c.first-b.result) (left_here _ _ _ _ c.loop-left.invariant.1 _ c.first-b.ensures)) in
    omega (arith, b, noted_long _ _ _ _ _ _ _ (c.loop-left.invariant.2 c.args.before c.loop-v.invariant.1))

pub after-left-requires : goal.after-left-requires
after-left-requires c = c.first-b.ensures

pub loop-left-smaller : goal.loop-left-smaller
loop-left-smaller c = c.after-left.ensures.less

pub loop-left-preserved : goal.loop-left-preserved
loop-left-preserved c =
    let b : c.loop-v.v * 64 + c.first-b.result < most = omega (arith, c.requires, counted_below c.args.n c.args.events.now (c.loop-v.v * 64 + c.first-b.result) (left_here _ _ _ _ c.loop-left.invariant.1 _ c.first-b.ensures)) in
    let l = c.loop-left.invariant in
    let a = c.args in
    let p = c.first-b.ensures in (
      _,
      left_after _ _ _ _ l.1 _ p _ c.after-left.ensures,
      λ before s.
          rw (c.mark.ensures, c.class_bit-hits.ensures)
          (noted_turn a.n a.events.now a.en.now _ _ _ _ _ _ l.1 _ _ (l.2 before s) _ p b),
    )

pub loop-v-preserved : goal.loop-v-preserved
loop-v-preserved c =
    let l = c.loop-left.invariant in
    let o = c in
    let a = o.args in
    (search rules, rw add-one (noted_word a.n a.events.now a.en.now _ _ _ _ _ _ l.1 _ _ (l.2 a.before o.loop-v.invariant.1) c.loop-left-test.false))

pub returns : goal.returns
returns c =
    let a = c in
    noted_cut (among_words a.args.events.now a.args.en.now) _ _ _ _ _ _ _ (omega (arith, a.requires)) c.loop-v.invariant.1

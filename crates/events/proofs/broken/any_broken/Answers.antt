-- `broken::any_broken` meets its contract. The invariant: none of the alerts that have had their turn is enabled and has equal wires.
-- Assumes nothing.
use Prim.Native.Nat.{◌+◌, ◌*◌}
use native.Mathlib.Numerals.{add-one}
use native.Mathlib.Omega.{arith}
use borrow.Author.Rules.{rules}
use borrow.Author.Tests.{ne_eqb, eq-eqb}
use Rattle.events.proofs.Turns.{counted_below, left_start, left_here, left_after}
use Rattle.events.proofs.Unbroken.{unbroken_start, unbroken_turn, unbroken_word, unbroken_end, broken_turn}
use Rattle.events.proofs.broken.any_broken.Goals as goal

pub loop-v-init : goal.loop-v-init
loop-v-init c = (search rules, unbroken_start _ _ _)

pub loop-left-init : goal.loop-left-init
loop-left-init c =
    let l = c.loop-v in
    let a = c.args in
    (l.v * 64, left_start a.n a.equal.now l.v c.live.result c.live.ensures, l.invariant.1)

pub bounds-en-v : goal.bounds-en-v
bounds-en-v c =
    let l = c.loop-left.invariant in
    let a = c in
    let v = c.loop-v.v in
    omega (arith, a.requires, counted_below a.args.n a.args.equal.now (v * 64 + c.first-b.result) (left_here _ _ _ _ l.1 _ c.first-b.ensures))

pub returns-then-en-v-eq1 : goal.returns-then-en-v-eq1
returns-then-en-v-eq1 c =
    let l = c.loop-left.invariant in
    let a = c.args in
    broken_turn a.n a.equal.now a.en.now _ _ _ l.1 _ c.first-b.ensures (eq-eqb _ _ c.if-en-v-eq1.true)

pub after-left-requires : goal.after-left-requires
after-left-requires c = c.first-b.ensures

pub loop-left-smaller : goal.loop-left-smaller
loop-left-smaller c = c.after-left.ensures.less

pub loop-left-preserved : goal.loop-left-preserved
loop-left-preserved c =
    let l = c.loop-left.invariant in
    let p = c.first-b.ensures in
    (_, left_after _ _ _ _ l.1 _ p _ c.after-left.ensures, unbroken_turn _ _ _ _ _ _ l.1 _ p l.2 (ne_eqb _ _ c.if-en-v-eq1.false))

pub loop-v-preserved : goal.loop-v-preserved
loop-v-preserved c =
    let l = c.loop-left.invariant in
    (search rules, rw add-one (unbroken_word _ _ _ _ _ _ l.1 l.2 c.loop-left-test.false))

pub returns : goal.returns
returns c =
    let l = c.loop-v in
    unbroken_end _ _ _ _ (omega (arith, c.requires)) l.invariant.1

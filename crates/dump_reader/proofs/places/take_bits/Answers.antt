-- `places::take_bits` meets its contract.
-- Assumes nothing.
use Prim.Native.Nat.{ℕ, ◌+◌, ◌*◌, ◌^◌, ◌<◌}
use mathlib.Core.Path.{◌≡◌, sym, ap, ap₂, ◌∙◌, subst}
use mathlib.Core.Bool.{false}
use native.Mathlib.Numerals.{add-one}
use native.Mathlib.Omega.{arith}
use borrow.Author.Rules.{rules}
use lib.ListN.{get_or, drop}
use Rattle.bits.specs.Bits.{num, word_of}
use Rattle.bits.proofs.BitLaws.{num_lt}
use Rattle.formats.specs.BitList.{bits_of_bytes, filled}
use Rattle.formats.proofs.BitAtLaws.{filled_next, filled_lt}
use Rattle.dump_reader.proofs.places.take_bits.Goals as goal

pub loop-i-init : goal.loop-i-init
unfolding word_of
loop-i-init c = search rules

pub overflow_mul-v : goal.overflow_mul-v
overflow_mul-v c =
    let l = c in
    let bs = drop l.args.at (bits_of_bytes l.args.bytes.now) in
    let h : filled l.loop-i.i bs < 2 ^ 63 = filled_lt l.loop-i.i 63 bs (search rules) in
    omega (arith, l.loop-i.invariant.1)

pub overflow_add-v : goal.overflow_add-v
overflow_add-v c =
    let l = c in
    let a = l.args in
    let bs = drop a.at (bits_of_bytes a.bytes.now) in
    let h : filled l.loop-i.i bs < 2 ^ 63 = filled_lt l.loop-i.i 63 bs (search rules) in
    let b = get_or (bits_of_bytes a.bytes.now) (a.at + l.loop-i.i) false in
    let d : num b < 2 = num_lt b in
    omega (arith, l.loop-i.invariant.1, c.bit_at.ensures)

pub loop-i-preserved : goal.loop-i-preserved
loop-i-preserved c =
    let l = c in
    let a = l.args in
    let bs = drop a.at (bits_of_bytes a.bytes.now) in
    (search rules, ap₂ (λ (x y : ℕ). 2 * x + y) l.loop-i.invariant.1 c.bit_at.ensures ∙ filled_next a.bytes.now a.at l.loop-i.i ∙ ap (λ (k : ℕ). filled k bs) (sym (add-one l.loop-i.i)))

pub returns : goal.returns
returns c =
    let l = c in
    let a = l.args in
    let bs = drop a.at (bits_of_bytes a.bytes.now) in
    let e : l.loop-i.i ≡ a.w = omega arith in
    let v : l.loop-i.v ≡ filled a.w bs = l.loop-i.invariant.1 ∙ ap (λ (k : ℕ). filled k bs) e in
    (v, subst (λ (x : ℕ). x < 2 ^ a.w) (sym v) (filled_lt a.w a.w bs (omega arith)))

-- `shown::codes_at` meets its contract.
-- Assumes nothing.
use Prim.Native.Nat.{ℕ, ◌+◌, ◌-◌, ◌*◌, ◌<◌}
use mathlib.Core.Path.{◌≡◌, ap, ◌∙◌}
use native.Mathlib.Omega.{arith}
use Rattle.dump_rules.specs.Shown.{ShownStage}
use Rattle.dump_content.specs.Places.{stage_at_bit}
use Rattle.dump_content.proofs.Filling.{stored, store_none, store_turn, skip_turn, store_all}
use Rattle.dump_content.proofs.shown.codes_at.Goals as goal

pub loop-i-init : goal.loop-i-init
loop-i-init c = let a = c.args in store_none (λ j. stage_at_bit a.bytes.now (a.at + 48 * j)) a.k

pub loop-i-preserved-then-r-lt-REGISTERS : goal.loop-i-preserved-then-r-lt-REGISTERS
loop-i-preserved-then-r-lt-REGISTERS c =
    let a = c.args in
    let l = c.loop-i in
    let g : ℕ → ShownStage = λ j. stage_at_bit a.bytes.now (a.at + 48 * j) in
    let e : l.i ≡ l.i - 1 + 1 = omega (arith, c.loop-i-test.true) in
    let h : l.i - 1 < a.k = omega (arith, c.loop-i-test.true) in
    store_turn g a.k l.out (l.i - 1) _ _ h (l.invariant ∙ ap (stored g a.k) e) c.take_bits-r.ensures.0 c.take_bits.ensures.0 c.if-r-lt-REGISTERS.true

pub loop-i-preserved : goal.loop-i-preserved
loop-i-preserved c =
    let a = c.args in
    let l = c.loop-i in
    let g : ℕ → ShownStage = λ j. stage_at_bit a.bytes.now (a.at + 48 * j) in
    let e : l.i ≡ l.i - 1 + 1 = omega (arith, c.loop-i-test.true) in
    let h : l.i - 1 < a.k = omega (arith, c.loop-i-test.true) in
    skip_turn g a.k l.out (l.i - 1) _ h (l.invariant ∙ ap (stored g a.k) e) c.take_bits-r.ensures.0 c.if-r-lt-REGISTERS.false

pub returns : goal.returns
returns c =
    let a = c.args in
    store_all (λ j. stage_at_bit a.bytes.now (a.at + 48 * j)) a.k c.loop-i.out c.loop-i.i (omega (arith, c.loop-i-test.false)) c.loop-i.invariant

-- `shown::flags_at` meets its contract.
-- Assumes nothing.
use Prim.Native.Nat.{ℕ, ◌+◌}
use mathlib.Core.Path.{◌≡◌, sym, ap, ap₂, ◌∙◌}
use mathlib.Core.Bool.{Bool}
use native.Mathlib.Omega.{arith}
use native.Mathlib.Nat.{add-zero}
use lib.ListN.{length}
use Rattle.bits.specs.Bits.{num, word_of}
use Rattle.dump_map.specs.Kinds.{has_kind}
use Rattle.dump_map.proofs.CountLaws.{place_none, place_next}
use Rattle.dump_rules.specs.Shown.{picks, limit}
use Rattle.rules.specs.Map.{decode}
use Rattle.dump_content.specs.Places.{number_at, flag_at_bit}
use Rattle.dump_content.proofs.Filling.{fill_none, fill_turn, fill_skip, fill_all}
use Rattle.dump_content.proofs.shown.flags_at.Goals.{then-has, else-has}
use Rattle.dump_content.proofs.shown.flags_at.Goals as goal

pub loop-r-init : goal.loop-r-init
loop-r-init c =
    let a = c.args in
    (omega arith, place_none (λ x. has_kind a.kind (decode a.n x)) a.at, fill_none limit (flag_at_bit a.kind a.bytes.now a.n a.at))

pub loop-r-preserved : goal.loop-r-preserved
unfolding word_of
loop-r-preserved c =
    let a = c.args in
    let l = c.loop-r in
    let p : ℕ → Bool = λ x. has_kind a.kind (decode a.n x) in
    let i = c.loop-r.invariant in
    let f = flag_at_bit a.kind a.bytes.now a.n a.at in
    let e : c.has.result ≡ p l.r = c.has.ensures ∙ ap (has_kind a.kind) c.register_at.ensures in
    elim c.if-has.branch [
      | then-has w ↦ (
          let t : num (p l.r) ≡ 1 = ap num (sym e ∙ w.if-has.true) in (
            (let h = w.p-is in omega arith),
            w.p-is ∙ place_next p a.at l.r l.p 1 i.1 (sym t),
            w.out-is ∙ fill_turn limit f l.out l.r _ c.loop-r-test.true i.2 (w.take_bits.ensures.0 ∙ ap₂ (λ (x y : ℕ). number_at a.bytes.now x y) i.1 (sym t)),
          )
          )
      | else-has w ↦ (
          let t : num (p l.r) ≡ 0 = ap num (sym e ∙ w.if-has.false) in (
            (let h = w.p-is in omega arith),
            w.p-is ∙ sym (add-zero l.p) ∙ place_next p a.at l.r l.p 0 i.1 (sym t),
            w.out-is ∙ fill_skip limit f l.out l.r i.2 (ap (λ (y : ℕ). number_at a.bytes.now (a.at + length (picks p 0 l.r)) y) t),
          )
          )
    ]

pub returns : goal.returns
returns c =
    let a = c.args in
    fill_all limit (flag_at_bit a.kind a.bytes.now a.n a.at) c.loop-r.out c.loop-r.r c.loop-r-test.false c.loop-r.invariant.2

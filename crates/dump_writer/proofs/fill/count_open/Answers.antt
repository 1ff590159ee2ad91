-- `fill::count_open` meets its contract.
-- Assumes nothing.
use Prim.Native.Nat.{ℕ, ◌≤◌}
use mathlib.Core.Path.{◌≡◌, refl, sym, ap, ◌∙◌, subst}
use mathlib.Core.Bool.{not}
use native.Mathlib.Omega.{arith}
use lib.Dec.{eqb}
use Rattle.bits.specs.Bits.{num}
use Rattle.rules.specs.Map.{decode}
use Rattle.rules.specs.Stages.{stage, is_open}
use Rattle.dump_rules.specs.Shown.{picks}
use Rattle.dump_map.proofs.CountLaws.{count_on, num_le}
use Rattle.dump_writer.proofs.fill.count_open.Goals as goal

pub loop-r-init : goal.loop-r-init
unfolding picks
loop-r-init c = (omega arith, refl)

pub loop-r-preserved : goal.loop-r-preserved
loop-r-preserved c =
    let a = c.args in
    let l = c.loop-r in
    let i = l.invariant in
    let e : c.from-m.result ≡ num (is_open a.h.now.stages (decode a.h.now.n l.r)) =
    c.from-m.ensures ∙ ap (λ (v : ℕ). num (not (eqb v 0))) (c.stage_in.ensures ∙ ap (stage a.h.now) c.register_at.ensures) in
    let h : c.from-m.result ≤ 1 = subst (λ (v : ℕ). v ≤ 1) (sym e) (num_le (is_open a.h.now.stages (decode a.h.now.n l.r))) in
    (omega arith, count_on (λ x. is_open a.h.now.stages (decode a.h.now.n x)) l.r l.m c.from-m.result i.1 e)

-- `Kind::count` meets its contract.
-- Assumes nothing.
use Prim.Native.Nat.{ℕ, ◌-◌, ◌≤◌}
use mathlib.Core.Path.{◌≡◌, sym, ap, ◌∙◌, subst}
use native.Mathlib.Omega.{arith}
use Rattle.bits.specs.Bits.{num}
use Rattle.rules.specs.Map.{decode}
use Rattle.dump_rules.proofs.PickLaws.{many}
use Rattle.dump_map.specs.Kinds.{has_kind}
use Rattle.dump_map.proofs.CountLaws.{count_turn, count_none, num_le}
use Rattle.dump_map.proofs.Kind.count.Goals as goal

pub loop-r-init : goal.loop-r-init
loop-r-init c = (omega arith, omega arith, count_none (λ x. has_kind c.args.self (decode c.args.n x)) c.args.a)

pub loop-r-preserved : goal.loop-r-preserved
loop-r-preserved c =
    let a = c.args in
    let i = c.loop-r.invariant in
    let h : c.from-m.result ≤ 1 = subst (λ (z : ℕ). z ≤ 1) (sym c.from-m.ensures) (num_le c.has_at.result) in
    (omega arith, omega arith, count_turn (λ x. has_kind a.self (decode a.n x)) a.a c.loop-r.r c.loop-r.m c.from-m.result (omega arith) i.2 (c.from-m.ensures ∙ ap num c.has_at.ensures))

pub returns : goal.returns
returns c =
    let a = c.args in
    let i = c.loop-r.invariant in
    let e : c.loop-r.r - a.a ≡ a.b - a.a = omega arith in
    (i.2 ∙ ap (many (λ x. has_kind a.self (decode a.n x)) a.a) e, omega arith)

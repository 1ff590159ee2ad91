-- `Shadowed::is_left` meets its contract.
-- Assumes nothing.
use Prim.Native.Nat.{◌≤◌}
use mathlib.Core.Path.{◌∙◌}
use native.Mathlib.Omega.{arith}
use Rattle.std.specs.Prelude.{Some, None}
use Rattle.dump_map.proofs.CountLaws.{counted_few, first_decides}
use Rattle.dump_reader.proofs.StageLaws.{left_in}
use Rattle.dump_reader.proofs.stages.Shadowed.is_left.Goals as goal

pub overflow_add-result-in-Some : goal.overflow_add-result-in-Some
overflow_add-result-in-Some c = let s = c.args.self in omega (arith, counted_few s.n s.from s.below s.total s.counted, c.in-Some.ensures.in_limit)

pub overflow_add-result-in-Some-2 : goal.overflow_add-result-in-Some-2
overflow_add-result-in-Some-2 c = let s = c.args.self in omega (arith, counted_few s.n s.from s.below s.total s.counted, c.in-Some.ensures.in_limit)

pub overflow_add-result-in-Some-3 : goal.overflow_add-result-in-Some-3
overflow_add-result-in-Some-3 c = let s = c.args.self in omega (arith, counted_few s.n s.from s.below s.total s.counted, c.in-Some.ensures.in_limit)

pub returns-in-Some : goal.returns-in-Some
returns-in-Some c =
    let s = c.args.self in
    let a = c.args in
    let f = c.in-Some.ensures in
    let x : s.from ≤ c.max.result = omega arith in
    let y : a.lo ≤ c.max.result = omega arith in
    left_in s.n s.from s.below s.total a.k _ c.in-Some.r _ s.counted (omega (arith, f.from)) f.in_limit f.shadowed c.count-passed.ensures.0
    ∙ first_decides s.n s.from a.k a.lo a.span c.max.result (Some c.in-Some.r) x y (λ z h l. omega arith) f

pub returns-in-None : goal.returns-in-None
returns-in-None c =
    let s = c.args.self in
    let a = c.args in
    let x : s.from ≤ c.max.result = omega arith in
    let y : a.lo ≤ c.max.result = omega arith in
    first_decides s.n s.from a.k a.lo a.span c.max.result None x y (λ z h l. omega arith) c.in-None.ensures

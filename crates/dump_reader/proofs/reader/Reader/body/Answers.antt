-- `Reader::body` meets its contract.
-- Assumes nothing.
use Prim.Native.Nat.{◌^◌, ◌<◌}
use mathlib.Core.Path.{refl}
use native.Mathlib.Omega.{arith}
use lib.Dec.{eqb, leb}
use Rattle.dump_rules.specs.Reader.{shadowed_from}
use Rattle.dump_reader.proofs.StageLaws.{small}
use Rattle.dump_reader.proofs.WholeLaws.{zero_only}
use Rattle.dump_reader.proofs.BodyLaws.{classes_on, classes_failed, causes_on, causes_failed, locks_on, locks_failed, zeros_on, zeros_failed, count_on, count_failed, most_rule}
use Rattle.dump_reader.proofs.reader.Reader.body.Goals as goal

pub returns-in_err-classes : goal.returns-in_err-classes
returns-in_err-classes c = classes_failed c.args.n _ _ _ _ c.in_err-classes.ensures c.from_residual.ensures.1

pub returns-in_err-any : goal.returns-in_err-any
returns-in_err-any c =
    let n = c.args.n in
    classes_on n _ _ _ _ _ c.in_ok-classes.ensures
    (causes_failed n _ _ _ _ _ c.how_many-causes.ensures.0 c.in_err-any.ensures c.from_residual-in_err-any.ensures.1)

pub returns-in_err-any-2 : goal.returns-in_err-any-2
returns-in_err-any-2 c =
    let n = c.args.n in
    classes_on n _ _ _ _ _ c.in_ok-classes.ensures
    (causes_on n _ _ _ _ _ _ c.how_many-causes.ensures.0 c.in_ok-any.ensures
    (locks_failed n _ _ _ _ _ c.how_many-locks.ensures.0 c.in_err-any-2.ensures c.from_residual-in_err-any-2.ensures.1))

pub returns-in_err-number : goal.returns-in_err-number
returns-in_err-number c =
    let n = c.args.n in
    classes_on n _ _ _ _ _ c.in_ok-classes.ensures
    (causes_on n _ _ _ _ _ _ c.how_many-causes.ensures.0 c.in_ok-any.ensures
    (locks_on n _ _ _ _ _ _ c.how_many-locks.ensures.0 c.in_ok-any-2.ensures
    (zeros_failed n _ _ _ _ _ _ _ c.how_many-causes.ensures.0 c.how_many-locks.ensures.0 c.zeros_behind.ensures.0 (c.in_err-number.ensures (eqb 0) zero_only) c.from_residual-in_err-number.ensures.1)))

pub returns-in_err-m : goal.returns-in_err-m
returns-in_err-m c =
    let n = c.args.n in
    classes_on n _ _ _ _ _ c.in_ok-classes.ensures
    (causes_on n _ _ _ _ _ _ c.how_many-causes.ensures.0 c.in_ok-any.ensures
    (locks_on n _ _ _ _ _ _ c.how_many-locks.ensures.0 c.in_ok-any-2.ensures
    (zeros_on n _ _ _ _ _ _ _ _ c.how_many-causes.ensures.0 c.how_many-locks.ensures.0 c.zeros_behind.ensures.0 (c.in_ok-number.ensures (eqb 0) zero_only)
    (count_failed n _ _ _ _ (c.in_err-m.ensures (λ k. leb k (shadowed_from n 0)) (most_rule n _ _ c.all-shadowed.ensures.0 c.most.ensures)) c.from_residual-in_err-m.ensures.1))))

pub stages-requires : goal.stages-requires
stages-requires c =
    let q = c.in_ok-m.ensures (λ k. leb k (shadowed_from c.args.n 0)) (most_rule c.args.n _ _ c.all-shadowed.ensures.0 c.most.ensures) in
    let h : c.in_ok-m.m < 2 ^ 16 = small _ _ 16 _ (q.value _ refl) in
    (c.all-shadowed.ensures.1, omega arith)

pub returns : goal.returns
returns c =
    let n = c.args.n in
    classes_on n _ _ _ _ _ c.in_ok-classes.ensures
    (causes_on n _ _ _ _ _ _ c.how_many-causes.ensures.0 c.in_ok-any.ensures
    (locks_on n _ _ _ _ _ _ c.how_many-locks.ensures.0 c.in_ok-any-2.ensures
    (zeros_on n _ _ _ _ _ _ _ _ c.how_many-causes.ensures.0 c.how_many-locks.ensures.0 c.zeros_behind.ensures.0 (c.in_ok-number.ensures (eqb 0) zero_only)
    (count_on n _ _ _ _ _ _ c.all-shadowed.ensures.0 (c.in_ok-m.ensures (λ k. leb k (shadowed_from n 0)) (most_rule n _ _ c.all-shadowed.ensures.0 c.most.ensures)) c.stages.ensures))))

-- `lifecycle_of` meets its contract.
-- Assumes nothing.
use mathlib.Core.Path.{◌≡◌, sym}
use borrow.Author.Tests.{ne_eqb}
use Rattle.policy.specs.Plan.{lifecycle_of}
use Rattle.policy.specs.declared.Lifecycle.{Lifecycle}
use Rattle.installer.proofs.lifecycle_of.Goals as goal

pub returns-in-0 : goal.returns-in-0
unfolding lifecycle_of
returns-in-0 c = rw c.in-0.is

pub returns-in-1 : goal.returns-in-1
unfolding lifecycle_of
returns-in-1 c = rw c.in-1.is

pub returns-in-2 : goal.returns-in-2
unfolding lifecycle_of
returns-in-2 c = rw c.in-2.is

pub returns-in-3 : goal.returns-in-3
unfolding lifecycle_of
returns-in-3 c = rw c.in-3.is

pub returns-in-4 : goal.returns-in-4
unfolding lifecycle_of
returns-in-4 c = rw c.in-4.is

pub returns-in-5 : goal.returns-in-5
unfolding lifecycle_of
returns-in-5 c = rw c.in-5.is

pub returns-in_default : goal.returns-in_default
unfolding lifecycle_of
returns-in_default c =
    let r = c.in_default.in_default-own.rest in
    let e : lifecycle_of c.args.n ≡ Lifecycle.ProdEnd =
    simp
    (ne_eqb _ _ r.0.0.0.0.0.1, ne_eqb _ _ r.0.0.0.0.1, ne_eqb _ _ r.0.0.0.1, ne_eqb _ _ r.0.0.1, ne_eqb _ _ r.0.1, ne_eqb _ _ r.1) in
    sym e

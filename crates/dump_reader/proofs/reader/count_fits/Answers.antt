-- `reader::count_fits` meets its contract.
-- Assumes nothing.
use Rattle.class_rules.specs.Class.{state_of}
use borrow.Author.Tests.{ne_eqb}
use Rattle.dump_reader.proofs.reader.count_fits.Goals as goal

pub returns-in-1 : goal.returns-in-1
unfolding state_of
returns-in-1 c = rw c.in-1.is

pub returns-in-3 : goal.returns-in-3
unfolding state_of
returns-in-3 c = rw c.in-3.is

pub returns-in-4 : goal.returns-in-4
unfolding state_of
returns-in-4 c = rw c.in-4.is

pub returns-in-5 : goal.returns-in-5
unfolding state_of
returns-in-5 c = rw c.in-5.is

pub returns-in-6 : goal.returns-in-6
unfolding state_of
returns-in-6 c = rw c.in-6.is

pub returns-in-7 : goal.returns-in-7
unfolding state_of
returns-in-7 c = rw c.in-7.is

pub returns-in_default : goal.returns-in_default
unfolding state_of
returns-in_default c =
    simp (ne_eqb _ _ c.in_default.in_default-own.rest.0.0.0.0.0.1, ne_eqb _ _ c.in_default.in_default-own.rest.0.0.0.0.1, ne_eqb _ _ c.in_default.in_default-own.rest.0.0.0.1, ne_eqb _ _ c.in_default.in_default-own.rest.0.0.1, ne_eqb _ _ c.in_default.in_default-own.rest.0.1, ne_eqb _ _ c.in_default.in_default-own.rest.1)

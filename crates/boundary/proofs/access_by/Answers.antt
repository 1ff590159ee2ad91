-- `access_by` gives the access that a kind's number names, with 0 for what the kind does not use.
-- Assumes nothing.
use borrow.Author.Tests.{ne_eqb}
use Rattle.boundary.proofs.access_by.Goals as goal

pub returns-in-0 : goal.returns-in-0
returns-in-0 c = simp (c.access_of.ensures, c.in-0.is)

pub returns-in-2 : goal.returns-in-2
returns-in-2 c = simp (c.access_of-in-2.ensures, c.in-2.is)

pub returns-in_default : goal.returns-in_default
returns-in_default c =
    let r = c.in_default.in_default-own.rest in simp (c.access_of-in_default.ensures, ne_eqb _ _ r.0.1, ne_eqb _ _ r.1)

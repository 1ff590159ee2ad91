-- `put_all` meets its contract.
-- Assumes nothing.
use native.Mathlib.Numerals.{add-one}
use Rattle.installer.proofs.AskParts.{turn, turns_done, turn_stops}
use Rattle.installer.proofs.ask.put_all.Goals as goal

pub returns-in_err-put_twice : goal.returns-in_err-put_twice
returns-in_err-put_twice c = turn_stops _ _ _ _ _ _ _ c.loop-r-test.true c.in_err-put_twice.ensures c.from_residual.ensures.1 c.loop-r.invariant

pub loop-r-preserved : goal.loop-r-preserved
loop-r-preserved c = rw add-one (turn _ _ _ _ _ c.loop-r-test.true c.in_ok-put_twice.ensures c.loop-r.invariant)

pub returns : goal.returns
returns c = turns_done _ _ _ _ c.loop-r-test.false c.loop-r.invariant

-- `install` meets its contract: one part more in each turn of its three loops.
-- Assumes nothing.
use native.Mathlib.Numerals.{add-one}
use Rattle.installer.proofs.AskParts.{none, more, parts_done, part_stops, goes_over, stops_over}
use Rattle.policy.specs.Plan.{plan_of}
use Rattle.installer.proofs.plan.install.Goals as goal

pub loop-i-init : goal.loop-i-init
loop-i-init c = none _ _

pub returns-in_err-put_alert : goal.returns-in_err-put_alert
unfolding plan_of
returns-in_err-put_alert c =
    stops_over _ _ _ _ _ _ (part_stops _ _ _ _ _ _ _ c.loop-i-test.true c.loop-i.invariant c.in_err-put_alert.ensures) c.from_residual.ensures.1

pub loop-i-preserved : goal.loop-i-preserved
loop-i-preserved c = rw add-one (more _ _ _ _ _ c.loop-i.invariant c.in_ok-put_alert.ensures)

pub loop-k-init : goal.loop-k-init
loop-k-init c = none _ _

pub returns-in_err-put_class : goal.returns-in_err-put_class
unfolding plan_of
returns-in_err-put_class c =
    goes_over _ _ _ _ _ (parts_done _ _ _ _ _ c.loop-i.auto.i-end c.loop-i-test.false c.loop-i.invariant)
    (stops_over _ _ _ _ _ _ (part_stops _ _ _ _ _ _ _ c.loop-k-test.true c.loop-k.invariant c.in_err-put_class.ensures)
    c.from_residual-in_err-put_class.ensures.1)

pub loop-k-preserved : goal.loop-k-preserved
loop-k-preserved c = rw add-one (more _ _ _ _ _ c.loop-k.invariant c.in_ok-put_class.ensures)

pub loop-a-init : goal.loop-a-init
loop-a-init c = none _ _

pub returns-in_err-lock_alert : goal.returns-in_err-lock_alert
unfolding plan_of
returns-in_err-lock_alert c =
    goes_over _ _ _ _ _ (parts_done _ _ _ _ _ c.loop-i.auto.i-end c.loop-i-test.false c.loop-i.invariant)
    (goes_over _ _ _ _ _ (parts_done _ _ _ _ _ c.loop-k.auto.k-end c.loop-k-test.false c.loop-k.invariant)
    (stops_over _ _ _ _ _ _ (part_stops _ _ _ _ _ _ _ c.loop-a-test.true c.loop-a.invariant c.in_err-lock_alert.ensures)
    c.from_residual-in_err-lock_alert.ensures.1))

pub loop-a-preserved : goal.loop-a-preserved
loop-a-preserved c = rw add-one (more _ _ _ _ _ c.loop-a.invariant c.in_ok-lock_alert.ensures)

pub returns : goal.returns
unfolding plan_of
returns c =
    goes_over _ _ _ _ _ (parts_done _ _ _ _ _ c.loop-i.auto.i-end c.loop-i-test.false c.loop-i.invariant)
    (goes_over _ _ _ _ _ (parts_done _ _ _ _ _ c.loop-k.auto.k-end c.loop-k-test.false c.loop-k.invariant)
    (goes_over _ _ _ _ _ (parts_done _ _ _ _ _ c.loop-a.auto.a-end c.loop-a-test.false c.loop-a.invariant) c.lock_class.ensures))

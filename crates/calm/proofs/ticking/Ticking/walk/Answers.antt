-- `walk` meets its contract.
-- Assumes nothing.
use native.Mathlib.Numerals.{add-one}
use Rattle.calm.proofs.Walking.{walk_none, walk_next}
use Rattle.calm.proofs.ticking.Ticking.walk.Goals as goal

pub loop-i-init : goal.loop-i-init
loop-i-init g c = walk_none _ _ c.given_output-output.ensures

pub loop-i-preserved : goal.loop-i-preserved
loop-i-preserved g c =
    rw (add-one c.loop-i.i)
    (walk_next c.args.self.now c.loop-i.self c.step-output.new.self c.loop-i.i c.loop-i.output c.step-output.result c.loop-i.invariant
    (rw (← add-one c.loop-i.i) c.step-output.ensures))

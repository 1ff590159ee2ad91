-- `stages::alerts_fit` meets its contract: each column's largest code fits its field exactly if the column does.
-- Assumes nothing.
use mathlib.Core.Path.{◌≡◌, ap₂}
use mathlib.Core.Bool.{◌&&◌}
use native.Mathlib.Omega.{arith}
use lib.ListN.{length}
use Rattle.rules.specs.State.{most}
use borrow.Author.Rules.{rules}
use Rattle.state.proofs.stages.alerts_fit.Goals as goal

pub largest-requires : goal.largest-requires
largest-requires c = let e : length c.args.a.en ≡ most = search rules in omega arith

pub largest-requires-2 : goal.largest-requires-2
largest-requires-2 c = let e : length c.args.a.class ≡ most = search rules in omega arith

pub returns : goal.returns
returns c = ap₂ ◌&&◌ (c.largest.ensures 1) (c.largest-2.ensures 2)

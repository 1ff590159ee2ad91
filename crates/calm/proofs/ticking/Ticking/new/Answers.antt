-- `new` meets its contract.
-- Assumes nothing.
use mathlib.Core.Path.{◌∙◌}
use native.Mathlib.Omega.{arith}
use Rattle.laws.specs.OutputMasks.{lines_on}
use Rattle.rules.specs.Tick.{lines}
use Rattle.calm.proofs.ticking.Ticking.new.Goals as goal

pub invariant_of-result : goal.invariant_of-result
unfolding lines lines_on
invariant_of-result g c =
    record {
      good = c.requires.0;
      off = c.requires.1;
      lit = c.from.ensures ∙ c.lines_on.ensures;
      room = rw c.new.ensures (omega (arith, c.requires.2));
    }

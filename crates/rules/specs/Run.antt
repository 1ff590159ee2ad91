-- A list of ticks, one after another ("By demand 2 a batch is the list of its records' ticks").
-- Assumes nothing.
use Rattle.std.specs.Prelude.{List, [], ◌∷◌}
use Rattle.rules.specs.Tick.{ticked}
use Rattle.rules.specs.declared.Handler.{Handler}
use Rattle.rules.specs.declared.Input.{Input}
use Rattle.rules.specs.declared.Ticked.{Ticked}

-- the state after the ticks with these inputs
unfoldable pub run : Handler → List Input → Handler
run h [] = h
run h (x ∷ xs) = run (ticked h x).handler xs

-- what each of them gives
unfoldable pub ticks : Handler → List Input → List Ticked
ticks h [] = []
ticks h (x ∷ xs) = let t = ticked h x in t ∷ ticks t.handler xs

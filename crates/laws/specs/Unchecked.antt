-- A list of ticks with no look at refusal 7, for a caller that has looked once.
-- Assumes nothing.
use Rattle.std.specs.Prelude.{List, [], ◌∷◌}
use Rattle.rules.specs.Tick.{after, tick}
use Rattle.rules.specs.declared.Handler.{Handler}
use Rattle.rules.specs.declared.Input.{Input}
use Rattle.rules.specs.declared.Ticked.{Ticked}

-- the state after the ticks with these inputs
unfoldable pub run_unchecked : Handler → List Input → Handler
run_unchecked h [] = h
run_unchecked h (x ∷ xs) = run_unchecked (after h x) xs

-- what each of them gives
unfoldable pub ticks_unchecked : Handler → List Input → List Ticked
ticks_unchecked h [] = []
ticks_unchecked h (x ∷ xs) = tick h x ∷ ticks_unchecked (after h x) xs

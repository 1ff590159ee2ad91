-- Worked examples that pin request (iii), up to 248 alerts, where a look at every alert is long, by computation.
-- Assumes nothing.
use mathlib.Core.Path.{◌≡◌, refl}
use mathlib.Core.Bool.{true}
use Rattle.rules.specs.State.{new_handler}
use Rattle.rules.specs.Valid.{valid}
use Rattle.rules.proofs.Scenes.{rules}

-- "Source document 004 names 248 as the most"
count : valid (new_handler 248) ≡ true
unfolding rules
count = refl

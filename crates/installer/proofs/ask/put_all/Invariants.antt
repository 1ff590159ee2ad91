use mathlib.Core.Path.{◌≡◌}
use lib.ListN.{drop}
use Rattle.policy.specs.Install.{under, install}
use Rattle.installer.specs.Results.{twice_each}
use Rattle.installer.proofs.ask.put_all.Given as goal

-- the settings that are left give what all of them give
abbrev pub invariant-loop-r : goal.invariant-loop-r
invariant-loop-r l = install (under l.h) (twice_each (drop l.r-index l.settings)) ≡ install (under l.fn.h) (twice_each l.settings)

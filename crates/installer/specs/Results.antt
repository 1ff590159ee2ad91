-- What a part of a boot leaves and returns, as the boot's progress.
-- Assumes nothing.
use Rattle.std.specs.Prelude.{ℕ, false, List, [], ◌∷◌, ◌++◌, replicate, Result, Ok, Err}
use Rattle.policy.specs.Install.{Ask, under, twice}
use Rattle.policy.specs.Progress.{Progress}
use Rattle.rules.specs.declared.Handler.{Handler}
use Rattle.installer.specs.declared.ask.Stop.{Stop}

-- in the state h it goes on, or has stopped
abbrev pub progress_of : Handler → Result (Unit {0}) Stop → Progress
progress_of h (Ok u) = under h
progress_of h (Err s) = record { reached = record { handler = h; answer = s.answer; register = s.register; spare = replicate 6 0 }; going = false }

-- shadowed registers, each written twice with its value and read back
unfoldable pub twice_each : List (ℕ × ℕ) → List Ask
twice_each [] = []
twice_each (x ∷ xs) = twice x.0 x.1 ++ twice_each xs

-- How the cases of document 01, "Ticks to reproduce", are played: inputs, and what is read after them.
-- Assumes nothing.
use Rattle.std.specs.Prelude.{ℕ, suc, cond, List, [], ◌∷◌, map, eqb, ℤ}
use Rattle.rules.specs.Answer.{number}
use Rattle.rules.specs.Access.{value}
use Rattle.trace_rules.specs.Record.{carried}
use Rattle.rules.specs.Run.{run, ticks}
use Rattle.rules.specs.Scenes as scenes
use Rattle.rules.specs.Scenes.{rest, raise, both_high}
use Rattle.rules.specs.Stages.{stage}
use Rattle.rules.specs.declared.Access.{Access}
use Rattle.trace_rules.specs.declared.Edition.{Edition}
use Rattle.rules.specs.declared.Handler.{Handler}
use Rattle.rules.specs.declared.Input.{Input}
use Rattle.rules.specs.declared.Register.{Register}
use Rattle.rules.specs.declared.Ticked.{Ticked}

-- alert 0 at (1,0), an event if its receiver is ready, and at (1,1)
abbrev pub rise : Access → Input
rise x = raise 0 x

abbrev pub broken : Access → Input
broken x = both_high 0 x

-- an access by document 01's numbers, as a record of 24 bytes gives it
abbrev pub old : Access → Access
old x = carried Edition.Alerts64 x

-- the ticks that give a register a value: request (v), two equal writes
abbrev pub configure : Register → ℕ → List Input
configure q v = map rest (scenes.configure q v)

-- what each of the ticks xs answers
abbrev pub answers : Handler → List Input → List ℤ
answers h xs = map (λ (t : Ticked). number t.answer) (ticks h xs)

-- what register q holds after the ticks xs, and after each of them
abbrev pub holds : Handler → List Input → Register → ℕ
holds h xs q = value (run h xs) q

abbrev pub held_by : Handler → List Input → Register → List ℕ
held_by h xs q = map (λ (t : Ticked). value t.handler q) (ticks h xs)

-- its stage after each of them, 0 for none and the staged value plus 1
abbrev pub staged_by : Handler → List Input → Register → List ℕ
staged_by h xs q = map (λ (t : Ticked). stage t.handler q) (ticks h xs)

-- where a list of values, of ticks numbered from t on, differs from the value before it, old at first: each such tick with its value
abbrev pub changes : ℕ → ℕ → List ℕ → List (ℕ × ℕ)
changes t old [] = []
changes t old (v ∷ vs) = cond (eqb v old) (changes (suc t) v vs) ((t, v) ∷ changes (suc t) v vs)

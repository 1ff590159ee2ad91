-- A batch after some of its records.
-- Assumes nothing.
use Rattle.std.specs.Prelude.{ℕ, ◌≤◌, ◌≡◌, List, ◌++◌, map, length, take, drop}
use Rattle.rules.specs.Run.{run, ticks}
use Rattle.rules.specs.declared.Handler.{Handler}
use Rattle.rules.specs.declared.Input.{Input}
use Rattle.trace_rules.specs.Word.{word_of}

-- the ticks with the first i of the inputs xs have led from h to g, and their words stand in the list, whose later words are as they were
pub record Running (h : Handler) (xs : List Input) (old : List ℕ) (g : Handler) (out : List ℕ) (i : ℕ) : Type 0 where
  pub within : i ≤ length xs
  pub state : g ≡ run h (take i xs)
  pub words : out ≡ map word_of (ticks h (take i xs)) ++ drop i old
  pub same : length out ≡ length old

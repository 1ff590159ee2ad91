-- Request (xii): what a calm call promises of what it gives and of the lent list.
-- Assumes nothing.
use Rattle.std.specs.Prelude.{ℕ, ◌≡◌, List}
use Rattle.calm_rules.specs.Call.{calmed, calmed_list}
use Rattle.calm_rules.specs.declared.Calmed.{Calmed}
use Rattle.rules.specs.declared.Handler.{Handler}
use Rattle.rules.specs.declared.Wires.{Wires}

-- from the list at entry to the list `left` at exit
pub record CalmedBy (h : Handler) (w : Wires) (n : ℕ) (list : List ℕ) (r : Calmed) (left : List ℕ) : Type 0 where
  pub gives : r ≡ calmed h w n list
  pub leaves : left ≡ calmed_list h w n list

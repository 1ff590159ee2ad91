-- An accepted clear, as facts.
-- Assumes nothing.
use Rattle.std.specs.Prelude.{ℕ, ◌≡◌, false}
use Rattle.rules.specs.Access.{locked}
use Rattle.rules.specs.Map.{decode}
use Rattle.rules.specs.declared.Access.{Access}
use Rattle.rules.specs.declared.Access.TheVariants.{Write}
use Rattle.rules.specs.declared.Handler.{Handler}
use Rattle.rules.specs.declared.Register.TheVariants.{Block}
use Rattle.rules.specs.declared.Setting.TheVariants.{Clr}

-- the access writes 1 to the CLR of class k, which is not locked
pub record ClearedBy (h : Handler) (x : Access) (k : ℕ) : Type 0 where
  pub number : ℕ
  pub access : x ≡ Write number 1
  pub names : decode h.n number ≡ Block Clr k
  pub free : locked h (Block Clr k) ≡ false

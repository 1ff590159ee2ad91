-- How far a boot came, and whether it goes on.
-- Assumes nothing.
use Rattle.std.specs.Prelude.{Bool}
use Rattle.policy.specs.declared.Installed.{Installed}

pub record Progress : Type 0 where
  pub reached : Installed
  pub going : Bool

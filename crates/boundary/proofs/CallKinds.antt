-- The access that a caller's numbers name, kind by kind: whatever stands in a number that the kind does not use.
-- Assumes nothing.
use Prim.Native.Nat.{ℕ, ◌≤◌}
use mathlib.Core.Path.{◌≡◌, refl}
use Rattle.trace_laws.proofs.RecordLaws.{kind_over}
use Rattle.trace_rules.specs.Record.{access_of}
use Rattle.rules.specs.declared.Access.{Access}
use Rattle.boundary.specs.Input.{access_by}

module _ (r v : ℕ) where
  none_by : access_by 0 r v ≡ Access.Nothing
  unfolding access_of
  none_by = refl

  read_by : access_by 1 r v ≡ Access.Read r
  unfolding access_of
  read_by = refl

  write_by : access_by 2 r v ≡ Access.Write r v
  unfolding access_of
  write_by = refl

  -- a kind over 2 is a malformed record
  other_by : (k : ℕ) → 3 ≤ k → access_by k r v ≡ Access.Malformed
  other_by k h = kind_over k _ _ h

-- `mark` meets its contract: the table is the papers', entry by entry.
-- Assumes nothing.
use Prim.Native.Nat.{ℕ}
use mathlib.Core.Path.{refl}
use mathlib.Core.List.{[]}
use denote.Enum.Enum.{tag}
use denote.Enum.Declared.{intoss}
use denote.Struct.Field.{rows}
use lib.ListN.{replicate}
use Rattle.bits.specs.Index.{each_from}
use Rattle.policy.specs.Table.{mark_at}
use Rattle.policy.specs.contracts.Lifecycle.{as_values}
use Rattle.policy.specs.declared.Lifecycle.{Lifecycle}
use Rattle.installer.proofs.Marks.{entry_is}
use Rattle.installer.proofs.table.mark.Goals as goal

-- the number that the code casts a lifecycle to
abbrev column : Lifecycle → ℕ
column l = tag (replicate 6 (rows [])) (intoss (replicate 6 []) (as_values l))

pub returns : goal.returns
unfolding each_from mark_at
returns c = entry_is column _ refl refl refl refl refl refl c.args.l c.args.i c.requires

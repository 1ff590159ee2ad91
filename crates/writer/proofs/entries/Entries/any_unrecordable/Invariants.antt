use mathlib.Core.Path.{◌≡◌}
use mathlib.Core.Bool.{false}
use Rattle.bits.specs.Index.{any_to}
use Rattle.writer.specs.EntryParts.{unrecordable_at}
use Rattle.writer.proofs.entries.Entries.any_unrecordable.Given as goal

abbrev pub invariant-loop-i : goal.invariant-loop-i
invariant-loop-i l = any_to (unrecordable_at l.self.lists) l.i ≡ false

-- `Entries::any_unrecordable` meets its contract: none of the entries before i is without a record.
-- Assumes nothing.
use mathlib.Core.Path.{refl, sym, ap, ◌∙◌}
use mathlib.Core.Bool.{not}
use native.Mathlib.Omega.{arith}
use native.Mathlib.Numerals.{add-one}
use Rattle.bits.specs.Index.{any_to}
use Rattle.bits.proofs.IndexLaws.{any_at}
use Rattle.writer.proofs.entries.Entries.any_unrecordable.Goals as goal

pub returns-then-not-is_recordable : goal.returns-then-not-is_recordable
returns-then-not-is_recordable c =
    sym (any_at _ _ c.loop-i.i (omega arith) (ap not (rw c.access.ensures at (sym c.is_recordable.ensures ∙ c.if-not-is_recordable.true))))

pub loop-i-init : goal.loop-i-init
unfolding any_to
loop-i-init c = refl

pub loop-i-preserved : goal.loop-i-preserved
unfolding any_to
loop-i-preserved c =
    let held = rw c.access.ensures at (sym c.is_recordable.ensures ∙ c.if-not-is_recordable.false) in
    rw add-one (simp (c.loop-i.invariant, held))

-- `put` meets its contract: the refusals in their order, and else the records.
-- Assumes nothing.
use mathlib.Core.Path.{refl, sym, ◌∙◌}
use native.Mathlib.Omega.{arith}
use Rattle.std.proofs.lemmas.Result.{err_from_is_err_and}
use Rattle.writer.proofs.WriteOutcomes.{wrote_uneven, wrote_unrecordable, wrote_short, wrote_records}
use Rattle.writer.proofs.put.Goals as goal

pub returns-in_err-entries : goal.returns-in_err-entries
returns-in_err-entries c =
    let uneven = c.in_err-entries.ensures in
    let p = err_from_is_err_and c.from_residual.result c.from_residual.ensures.1 in
    rw (p.1, p.2, uneven.0) (wrote_uneven _ _ _ uneven.1 refl)

pub returns-then-any_unrecordable : goal.returns-then-any_unrecordable
returns-then-any_unrecordable c =
    let same = c.in_ok-entries.ensures in
    rw (← same) (wrote_unrecordable _ _ c.in_ok-entries.entries.is_even _ (sym c.any_unrecordable.ensures ∙ c.if-any_unrecordable.true) refl)

pub returns-then-out-count : goal.returns-then-out-count
returns-then-out-count c =
    let same = c.in_ok-entries.ensures in
    rw (← same) (wrote_short _ _ c.in_ok-entries.entries.is_even _ (sym c.any_unrecordable.ensures ∙ c.if-any_unrecordable.false) (omega (arith, c.count.ensures)) refl)

pub returns : goal.returns
returns c =
    let same = c.in_ok-entries.ensures in (
      omega (arith, c.count.ensures, c.count-2.ensures),
      rw (← same, c.count-2.ensures) (wrote_records _ _ c.in_ok-entries.entries.is_even _ (sym c.any_unrecordable.ensures ∙ c.if-any_unrecordable.false) (omega (arith, c.count.ensures)) c.put_all.ensures),
    )

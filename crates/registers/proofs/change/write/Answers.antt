-- `change::write` meets its contract.
-- Assumes nothing.
use mathlib.Core.Path.{sym, ◌∙◌}
use Rattle.registers.proofs.Accesses.{later_written}
use Rattle.registers.proofs.change.write.Goals as goal

pub returns-else-is_first : goal.returns-else-is_first
returns-else-is_first c =
    let a = c.args in
    rw (c.store.ensures, c.drop_stage.ensures) (later_written a.h.now a.q a.v (sym c.is_first.ensures ∙ c.if-is_first.false))

-- `note::mark` meets its contract. A cause that is not set is the cause that stood there.
-- Assumes nothing.
use mathlib.Core.Path.{sym}
use lib.Seq.{set-get_or}
use Rattle.events.proofs.note.mark.Goals as goal

pub returns-then-on : goal.returns-then-on
returns-then-on c = simp c.if-on.true

pub returns-else-on : goal.returns-else-on
returns-else-on c = rw c.if-on.false (sym (set-get_or c.args.causes.now c.args.i 0))

-- `dump` meets its contract: what the boundary's call ensures, part by part.
-- Assumes nothing.
use borrow.Author.Rules.{rules}
use Rattle.everything.proofs.Said.{dump_said}
use Rattle.surface.proofs.dump.Goals as goal

pub returns-clause-said : goal.returns-clause-said
returns-clause-said c = dump_said _ _ _ _ (search rules)

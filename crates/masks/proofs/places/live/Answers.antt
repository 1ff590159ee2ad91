-- `places::live` meets its contract, for a word with none, some and all of its alerts below n.
-- Assumes nothing.
use borrow.Author.Rules.{rules}
use Rattle.masks.proofs.Live.{none_live, some_live, all_live}
use Rattle.masks.proofs.places.live.Goals as goal

pub returns-then-n-b : goal.returns-then-n-b
returns-then-n-b c i h = none_live c.args.n c.args.b i h (search rules)

pub returns-then-n-b-lt64 : goal.returns-then-n-b-lt64
returns-then-n-b-lt64 c i h = some_live c.args.n c.args.b i h (search rules)

pub returns-else-n-b-lt64 : goal.returns-else-n-b-lt64
returns-else-n-b-lt64 c i h = all_live c.args.n c.args.b i h (search rules)

-- `places::first` meets its contract.
-- Assumes nothing.
use borrow.Author.Rules.{rules}
use Rattle.masks.proofs.Firsts.{first_of}
use Rattle.masks.proofs.places.first.Goals as goal

pub returns : goal.returns
returns c = first_of c.args.w (search rules) (search rules)

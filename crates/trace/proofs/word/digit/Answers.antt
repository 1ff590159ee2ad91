-- `word::digit` meets its contract.
-- Assumes nothing.
use mathlib.Core.Path.{sym}
use borrow.Author.Rules.{rules}
use Rattle.trace.proofs.Digits.{num_bit}
use Rattle.trace.proofs.word.digit.Goals as goal

pub returns : goal.returns
returns c = (sym (num_bit c.args.x c.args.k), search rules)

-- `put` meets its contract.
-- Assumes nothing.
use Rattle.installer.proofs.AskParts.{goes, stops, last}
use Rattle.installer.proofs.ask.put.Goals as goal

pub returns-in_err-ask : goal.returns-in_err-ask
returns-in_err-ask c = stops _ _ _ _ _ _ c.in_err-ask.ensures c.from_residual.ensures.1

pub returns : goal.returns
returns c = goes _ _ _ _ _ c.in_ok-ask.ensures (last _ _ _ c.ask-2.ensures)

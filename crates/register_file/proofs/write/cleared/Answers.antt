-- `write::cleared` meets its contract.
-- Assumes nothing.
use Rattle.register_file.proofs.Stores.{clear_bits}
use Rattle.register_file.proofs.write.cleared.Goals as goal

pub returns : goal.returns
returns c = clear_bits c.args.state c.args.v c.requires

-- `write::raised` meets its contract.
-- Assumes nothing.
use Rattle.register_file.proofs.Stores.{raise_bits}
use Rattle.register_file.proofs.write.raised.Goals as goal

pub returns : goal.returns
returns c = raise_bits c.args.state c.args.v c.requires

-- `Shadowed::all` meets its contract.
-- Assumes nothing.
use Rattle.dump_map.proofs.CountLaws.{counted_none}
use Rattle.dump_reader.proofs.stages.Shadowed.all.Goals as goal

pub invariant_of-result : goal.invariant_of-result
invariant_of-result c = record { counted = counted_none c.args.n _ c.how_many.ensures.0 }

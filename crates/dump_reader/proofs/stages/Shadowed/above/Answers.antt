-- `Shadowed::above` meets its contract.
-- Assumes nothing.
use native.Mathlib.Omega.{arith}
use Rattle.dump_map.proofs.CountLaws.{counted_on, counted_few}
use Rattle.dump_reader.proofs.stages.Shadowed.above.Goals as goal

pub overflow_add-result-2 : goal.overflow_add-result-2
overflow_add-result-2 c = let s = c.args.self in omega (arith, counted_few s.n s.from s.below s.total s.counted)

pub invariant_of-result : goal.invariant_of-result
invariant_of-result c =
    let s = c.args.self in
    record { counted = counted_on s.n s.from s.below s.total c.args.r c.count.result s.counted (omega arith) c.requires.1 c.count.ensures.0 }

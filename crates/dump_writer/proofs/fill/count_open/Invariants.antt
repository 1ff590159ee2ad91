use Prim.Native.Nat.{◌≤◌}
use mathlib.Core.Path.{◌≡◌}
use Rattle.rules.specs.Map.{decode}
use Rattle.rules.specs.Stages.{is_open}
use Rattle.dump_rules.proofs.PickLaws.{many}
use Rattle.dump_writer.proofs.fill.count_open.Given as goal

abbrev pub invariant-loop-r : goal.invariant-loop-r
invariant-loop-r l = (l.m ≤ l.r) × (l.m ≡ many (λ x. is_open l.h.stages (decode l.h.n x)) 0 l.r)

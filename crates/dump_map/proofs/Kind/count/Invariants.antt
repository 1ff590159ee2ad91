use Prim.Native.Nat.{◌-◌, ◌≤◌}
use mathlib.Core.Path.{◌≡◌}
use Rattle.rules.specs.Map.{decode}
use Rattle.dump_rules.proofs.PickLaws.{many}
use Rattle.dump_map.specs.Kinds.{has_kind}
use Rattle.dump_map.proofs.Kind.count.Given as goal

abbrev pub invariant-loop-r : goal.invariant-loop-r
invariant-loop-r l = (l.r - l.fn.a ≤ l.fn.b - l.fn.a) × (l.m ≤ l.r - l.fn.a) × (l.m ≡ many (λ x. has_kind l.self (decode l.n x)) l.fn.a (l.r - l.fn.a))

use Prim.Native.Nat.{◌+◌, ◌≤◌}
use mathlib.Core.Path.{◌≡◌}
use Rattle.bits.specs.Index.{each}
use Rattle.dump_map.specs.Kinds.{has_kind}
use Rattle.dump_rules.specs.Shown.{limit}
use Rattle.dump_rules.proofs.PickLaws.{many}
use Rattle.rules.specs.Map.{decode}
use Rattle.dump_content.specs.Places.{flag_at_bit}
use Rattle.dump_content.proofs.Filling.{up_to}
use Rattle.dump_content.proofs.shown.flags_at.Given as goal

abbrev pub invariant-loop-r : goal.invariant-loop-r
invariant-loop-r l =
    (l.p ≤ l.at + l.r)
    × (l.p ≡ l.at + many (λ x. has_kind l.kind (decode l.n x)) 0 l.r)
    × (l.out ≡ each limit (up_to (flag_at_bit l.kind l.bytes l.n l.at) l.r))

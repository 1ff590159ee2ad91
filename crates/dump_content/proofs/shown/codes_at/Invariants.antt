use mathlib.Core.Path.{◌≡◌}
use Prim.Native.Nat.{◌+◌, ◌*◌}
use Rattle.dump_content.specs.Places.{stage_at_bit}
use Rattle.dump_content.proofs.Filling.{stored}
use Rattle.dump_content.proofs.shown.codes_at.Given as goal

abbrev pub invariant-loop-i : goal.invariant-loop-i
invariant-loop-i l = l.out ≡ stored (λ j. stage_at_bit l.bytes (l.at + 48 * j)) l.k l.i

use Prim.Native.Nat.{◌-◌, ◌*◌, ◌≤◌}
use mathlib.Core.Path.{◌≡◌}
use lib.ListN.{length, drop}
use Rattle.formats.specs.Format.{chain}
use Rattle.dump_rules.specs.Dump.{mark}
use Rattle.dump_rules.specs.Reader.{mark_chain}
use Rattle.dump_reader.specs.Steps.{step_at}
use Rattle.dump_reader.proofs.reader.Reader.mark.Given as goal

abbrev pub invariant-loop-i : goal.invariant-loop-i
invariant-loop-i l =
    (l.i ≤ length l.self.bytes.now)
    × (step_at (chain mark_chain 4 mark) l.self.bytes.now 0 ≡ step_at (chain mark_chain (4 - l.i) (drop l.i mark)) l.self.bytes.now (8 * l.i))

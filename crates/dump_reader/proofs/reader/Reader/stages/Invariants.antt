use Prim.Native.Nat.{◌-◌}
use mathlib.Core.Path.{◌≡◌}
use Rattle.formats.specs.Format.{chain}
use Rattle.dump_rules.specs.Reader.{stage_chain}
use Rattle.dump_reader.specs.Steps.{step_at}
use Rattle.dump_reader.proofs.reader.Reader.stages.Given as goal

abbrev pub invariant-loop-i : goal.invariant-loop-i
invariant-loop-i l =
    (l.left.n ≡ l.fn.left.n)
    × (l.self.bytes.now ≡ l.fn.self.bytes.now)
    × (step_at (chain (stage_chain l.fn.left.n) l.m 0) l.fn.self.bytes.now l.fn.self.at ≡ step_at (chain (stage_chain l.fn.left.n) (l.m - l.i) l.left.from) l.self.bytes.now l.self.at)

use Prim.Native.Nat.{◌-◌}
use mathlib.Core.Path.{◌≡◌}
use Rattle.formats.specs.Format.{Chain, chain, repeated}
use Rattle.dump_rules.specs.Shown.{ShownClass}
use Rattle.dump_rules.specs.Reader.{class_format, no_class, classes_format}
use Rattle.dump_reader.specs.Steps.{step_at}
use Rattle.dump_reader.proofs.reader.Reader.classes.Given as goal

-- the format of one class, that the loop repeats
abbrev pub four : Chain (Unit {0}) ShownClass
four = repeated class_format no_class

abbrev pub invariant-loop-class : goal.invariant-loop-class
invariant-loop-class l =
    (l.self.bytes.now ≡ l.fn.self.bytes.now)
    × (step_at classes_format l.fn.self.bytes.now l.fn.self.at ≡ step_at (chain four (4 - l._class) tt) l.self.bytes.now l.self.at)

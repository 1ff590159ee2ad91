-- What a dump shows of a cause, a lock and the classes, as the writer takes it from the state.
-- Assumes nothing.
use Rattle.std.specs.Prelude.{ℕ, ◌-◌, List, get_or}
use Rattle.bits.specs.Index.{each}
use Rattle.class_rules.specs.Class.{no_class}
use Rattle.class_rules.specs.declared.Class.{Class}
use Rattle.dump_map.specs.declared.Kind.{Kind}
use Rattle.dump_rules.specs.Shown.{ShownClass}
use Rattle.rules.specs.Access.{value}
use Rattle.rules.specs.declared.Handler.{Handler}
use Rattle.rules.specs.declared.Register.{Register}

-- what a dump shows of a cause or a lock
abbrev pub flag_of : Kind → Handler → Register → ℕ
flag_of Kind.Cause h q = value h q
flag_of Kind.Lock h q = 1 - value h q
flag_of Kind.Shadowed h q = value h q

-- what a dump shows of the classes
abbrev pub shown_class : Class → ShownClass
shown_class c = record { state = c.state; count = c.count; accum = c.accum }

abbrev pub shown_classes : List Class → List ShownClass
shown_classes cs = each 4 (λ k. shown_class (get_or cs k no_class))

-- The four registers of an alert or a local alert, told apart.
-- Assumes nothing.
use Rattle.std.specs.Prelude.{Bool, eqb}
use Rattle.rules.specs.State.{field_index}
use Rattle.rules.specs.declared.Field.{Field}

-- are they the same of REGWEN, EN, CLASS and CAUSE?
abbrev pub same_field : Field → Field → Bool
same_field f g = eqb (field_index f) (field_index g)

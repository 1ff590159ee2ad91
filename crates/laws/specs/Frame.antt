-- The registers that steps 2 to 4 of a tick change by themselves.
-- Assumes nothing.
use Rattle.std.specs.Prelude.{Bool}
use Rattle.rules.specs.Map.{row}
use Rattle.rules.specs.declared.Register.{Register}

-- INTR_STATE, CAUSE, and of a class CLR_REGWEN, ACCUM_CNT, ESC_CNT and STATE
abbrev pub moves_itself : Register → Bool
moves_itself q = (row q).moves

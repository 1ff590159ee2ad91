-- Which registers a handler of n alerts has ("Register map").
-- Assumes nothing.
use Rattle.std.specs.Prelude.{ℕ, Bool, true, false, ◌&&◌, ltb}
use Rattle.rules.specs.State.{local_count, class_count}
use Rattle.rules.specs.declared.Register.{Register}
use Rattle.rules.specs.declared.Register.TheVariants.{Only, Local, Alert, Block, Unassigned}
use Rattle.rules.specs.declared.Setting.{Setting}
use Rattle.rules.specs.declared.Setting.TheVariants.{Ctrl, ClrRegwen, Clr, AccumCnt, AccumThresh, TimeoutCyc, PhaseCyc, EscCnt}

-- a block has the lengths of phases 0 to 3
abbrev pub setting_exists : Setting → Bool
setting_exists Setting.Regwen = true
setting_exists Ctrl = true
setting_exists ClrRegwen = true
setting_exists Clr = true
setting_exists AccumCnt = true
setting_exists AccumThresh = true
setting_exists TimeoutCyc = true
setting_exists (PhaseCyc p) = ltb p 4
setting_exists EscCnt = true
setting_exists Setting.State = true

-- the register is in the map of a handler of n alerts: local alerts 0 to 6, alerts below N, classes 0 to 3
abbrev pub in_map : ℕ → Register → Bool
in_map n (Only o) = true
in_map n (Local f j) = ltb j local_count
in_map n (Alert f i) = ltb i n
in_map n (Block s k) = ltb k class_count && setting_exists s
in_map n Unassigned = false

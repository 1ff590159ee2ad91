-- What one class gets in the tick of state g and input x, beside an event (`event_in` of the rules): an access to its own block, changes of its interrupt
-- bits by software.
-- Assumes nothing.
use Rattle.std.specs.Prelude.{ℕ, Bool, cond}
use Rattle.std.specs.Bool.{xor}
use Rattle.bits.specs.Bits.{bit}
use Rattle.laws.specs.Block.{names_block}
use Rattle.rules.specs.Access.{acted}
use Rattle.rules.specs.declared.Access.{Access}
use Rattle.rules.specs.declared.Handler.{Handler}

-- an access to class k's own block: any that names a register of it, reads and refused ones too
abbrev pub is_own : Handler → Access → ℕ → Bool
is_own g a k = names_block g a k

-- all others count as none
abbrev pub own : Handler → Access → ℕ → Access
own g a k = cond (is_own g a k) a Access.Nothing

-- step 1 changes bit k of INTR_STATE, or of INTR_ENABLE: a write that leaves a bit as it is, is no change
abbrev pub changes_state : Handler → Access → ℕ → Bool
changes_state g a k = xor (bit g.interrupts.state k) (bit (acted g a).interrupts.state k)

abbrev pub changes_enable : Handler → Access → ℕ → Bool
changes_enable g a k = xor (bit g.interrupts.enable k) (bit (acted g a).interrupts.enable k)

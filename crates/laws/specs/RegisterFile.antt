-- The registers as one file: what a write makes of each ("Register map", and step 1 of "One tick").
-- Assumes nothing.
use Rattle.std.specs.Prelude.{ℕ, Bool, true, false, cond, not, ◌&&◌, ◌||◌, eqb}
use Rattle.bits.specs.Bits.{bit, bits_of}
use Rattle.rules.specs.Access.{accepted, is_first, field_stored, store}
use Rattle.rules.specs.Map.{decode, number_of, is_register, setting_row, row}
use Rattle.rules.specs.declared.Access.{Access}
use Rattle.rules.specs.declared.Access.TheVariants.{Nothing, Read, Write, Malformed}
use Rattle.rules.specs.declared.Handler.{Handler}
use Rattle.rules.specs.declared.Register.{Register}
use Rattle.rules.specs.declared.Register.TheVariants.{Only, Local, Alert, Block, Unassigned}
use Rattle.rules.specs.declared.Setting.{Setting}
use Rattle.rules.specs.declared.Single.{Single}
use Rattle.rules.specs.declared.Single.TheVariants.{IntrState, IntrEnable, IntrTest, PingRegwen, PingTimeout, PingEnable}
use Rattle.rules.specs.declared.Way.{Way}
use Rattle.rules.specs.declared.Way.TheVariants.{Both, OneClears, OneSets, ReadOnly, WriteOnly}

-- it takes what is written as it is
abbrev pub as_written : Way → Bool
as_written Both = true
as_written OneClears = false
as_written OneSets = false
as_written ReadOnly = false
as_written WriteOnly = false

-- what a register of a block holds once v is stored: CLR holds nothing, and no write is accepted at a read-only one
abbrev pub setting_stored : Setting → ℕ → ℕ → ℕ
setting_stored s old v = cond (as_written (setting_row s).way) v old

abbrev pub single_target : Single → Single
single_target IntrState = IntrState
single_target IntrEnable = IntrEnable
single_target IntrTest = IntrState
single_target PingRegwen = PingRegwen
single_target PingTimeout = PingTimeout
single_target PingEnable = PingEnable

-- the register that a write at q changes: INTR_TEST writes INTR_STATE, every other one itself
abbrev pub target : Register → Register
target (Only o) = Only (single_target o)
target (Local f j) = Local f j
target (Alert f i) = Alert f i
target (Block s k) = Block s k
target Unassigned = Unassigned

-- in INTR_STATE a 1 clears, in INTR_TEST a 1 sets; request (ix): in the ping timer's enable "a written 0 does nothing"
abbrev pub single_stored : Single → ℕ → ℕ → ℕ
single_stored IntrState old v = bits_of 4 (λ k. bit old k && not (bit v k))
single_stored IntrEnable old v = v
single_stored IntrTest old v = bits_of 4 (λ k. bit old k || bit v k)
single_stored PingRegwen old v = v
single_stored PingTimeout old v = v
single_stored PingEnable old v = cond (eqb v 0) old v

-- what it holds once v is written at q
abbrev pub new_value : Register → ℕ → ℕ → ℕ
new_value (Only o) old v = single_stored o old v
new_value (Local f j) old v = field_stored f old v
new_value (Alert f i) old v = field_stored f old v
new_value (Block s k) old v = setting_stored s old v
new_value Unassigned old v = old

-- a write at q changes p: registers are told apart by their numbers
abbrev pub writes : Register → Register → Bool
writes q p = eqb (number_of (target q)) (number_of p)

-- an accepted write that is no first write to a shadowed register
abbrev pub stores : Handler → ℕ → ℕ → Bool
stores h r v = accepted h (Write r v) && not (is_first h (decode h.n r))

-- the access changes p
abbrev pub commits : Handler → Access → Register → Bool
commits h Nothing p = false
commits h (Read r) p = false
commits h (Write r v) p = stores h r v && writes (decode h.n r) p
commits h Malformed p = false

-- the state with what the access stores
abbrev pub stored_by : Handler → Access → Handler
stored_by h Nothing = h
stored_by h (Read r) = h
stored_by h (Write r v) = cond (stores h r v) (store h (decode h.n r) v) h
stored_by h Malformed = h

-- what a register that held old then holds
abbrev pub committed : Handler → Access → ℕ → ℕ
committed h Nothing old = old
committed h (Read r) old = old
committed h (Write r v) old = new_value (decode h.n r) old v
committed h Malformed old = old

-- a register that reads as what is written: not write only, not read only, no 1 clears in it, and a 0 does not leave it
abbrev pub plain : Register → Bool
plain q = is_register q && as_written (row q).way

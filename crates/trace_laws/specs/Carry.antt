-- "Register map" as document 01 numbers it: what a record of 24 bytes says.
-- Assumes nothing.
use Rattle.std.specs.Prelude.{ℕ, ◌+◌, ◌*◌}
use Rattle.rules.specs.Map.{offset}
use Rattle.rules.specs.State.{field_index}
use Rattle.rules.specs.declared.Register.{Register}
use Rattle.rules.specs.declared.Register.TheVariants.{Only, Local, Alert, Block, Unassigned}
use Rattle.rules.specs.declared.Single.{Single}
use Rattle.rules.specs.declared.Single.TheVariants.{IntrState, IntrEnable, IntrTest, PingRegwen, PingTimeout, PingEnable}

-- the ping timer's registers of request (ix) have none: 3 stands for what is unassigned
abbrev pub single_number64 : Single → ℕ
single_number64 IntrState = 0
single_number64 IntrEnable = 1
single_number64 IntrTest = 2
single_number64 PingRegwen = 3
single_number64 PingTimeout = 3
single_number64 PingEnable = 3

-- 0 to 2; 16+j, 24+j, 32+j, 40+j; 64+i, 128+i, 192+i, 256+i; 320+16k and the offset
abbrev pub number64 : Register → ℕ
number64 (Only o) = single_number64 o
number64 (Local f j) = 16 + 8 * field_index f + j
number64 (Alert f i) = 64 + 64 * field_index f + i
number64 (Block s k) = 320 + 16 * k + offset s
number64 Unassigned = 3

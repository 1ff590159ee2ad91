-- What a write makes of a class's block.
-- Assumes nothing.
use Rattle.std.specs.Prelude.{ℕ, ◌+◌, ◌≡◌, Bool, false, cond, not, ◌&&◌, eqb}
use Rattle.class_rules.specs.declared.Class.{Class}
use Rattle.bits.specs.Bits.{fits}
use Rattle.rules.specs.Access.{with_setting, locks_silly, setting_is_clr, named}
use Rattle.rules.specs.Map.{decode, setting_bits, setting_row, only_read}
use Rattle.rules.specs.Stages.{setting_stage, with_setting_stage}
use Rattle.rules.specs.declared.Access.{Access}
use Rattle.rules.specs.declared.Access.TheVariants.{Nothing, Read, Write, Malformed}
use Rattle.rules.specs.declared.ClassStages.{ClassStages}
use Rattle.rules.specs.declared.Guard.{Guard}
use Rattle.rules.specs.declared.Guard.TheVariants.{Free, ByRegwen, ByClrRegwen}
use Rattle.rules.specs.declared.Handler.{Handler}
use Rattle.rules.specs.declared.Register.{Register}
use Rattle.rules.specs.declared.Register.TheVariants.{Only, Local, Alert, Block, Unassigned}
use Rattle.rules.specs.declared.Setting.{Setting}

-- what v stored at q makes of class k
abbrev pub class_stored : Register → ℕ → ℕ → Class → Class
class_stored (Only o) v k c = c
class_stored (Local f j) v k c = c
class_stored (Alert f i) v k c = c
class_stored (Block s j) v k c = cond (eqb k j) (with_setting s v c) c
class_stored Unassigned v k c = c

-- a register of the block is locked while what guards it is 0
abbrev pub shut_by : Guard → Class → Bool
shut_by Free c = false
shut_by ByRegwen c = eqb c.regwen 0
shut_by ByClrRegwen c = eqb c.clrwen 0

abbrev pub setting_locked : Setting → Class → Bool
setting_locked s c = shut_by (setting_row s).guard c

-- a write of v at a register of the block is accepted: not read only, not too wide, no lock of a silly threshold, not locked, and not unlike an open
-- stage of the block's stages b
unfoldable pub block_accepts : Setting → ℕ → Class → ClassStages → Bool
block_accepts s v c b =
    not (only_read (setting_row s).way)
    && (fits (setting_bits s) v
    && (not (locks_silly s v c)
    && (not (setting_locked s c && not ((setting_row s).lock && eqb v 0))
    && not (not (eqb (setting_stage s b) 0) && not (eqb (setting_stage s b) (v + 1))))))

-- a first write to it would be staged
abbrev pub block_first : Setting → ClassStages → Bool
block_first s b = (setting_row s).shadowed && not (not (eqb (setting_stage s b) 0))

-- the block after a write
unfoldable pub block_written : Setting → ℕ → Class → ClassStages → Class
block_written s v c b = cond (block_accepts s v c b && not (block_first s b)) (with_setting s v c) c

-- the block's stages without that of one register
unfoldable pub block_dropped : Setting → ClassStages → ClassStages
block_dropped s b = cond (not (eqb (setting_stage s b) 0)) (with_setting_stage s 0 b) b

-- and after a write that is not refused with 2, 4 or 14: a first one is staged, any other leaves no stage, refused with 3 or 12 too
unfoldable pub block_staged : Setting → ℕ → Class → ClassStages → ClassStages
block_staged s v c b =
    cond (not (only_read (setting_row s).way) && (fits (setting_bits s) v && not (locks_silly s v c))) (cond (block_accepts s v c b && block_first s b) (with_setting_stage s (v + 1) b) (block_dropped s b)) b

-- it is an accepted clear
unfoldable pub block_clears : Setting → ℕ → Class → ClassStages → Bool
block_clears s v c b = block_accepts s v c b && (setting_is_clr s && eqb v 1)

-- is it a register of class k's block?
abbrev pub of_block : ℕ → Register → Bool
of_block k (Only o) = false
of_block k (Local f j) = false
of_block k (Alert f i) = false
of_block k (Block s j) = eqb k j
of_block k Unassigned = false

-- the access is a write to class k's block
abbrev pub writes_block : Handler → Access → ℕ → Bool
writes_block h Nothing k = false
writes_block h (Read r) k = false
writes_block h (Write r v) k = of_block k (decode h.n r)
writes_block h Malformed k = false

-- the access names a register of class k's block
abbrev pub names_block : Handler → Access → ℕ → Bool
names_block h x k = of_block k (named h x)

-- STATE, ESC_CNT and ACCUM_CNT of d are those of c
abbrev pub Unmoved : Class → Class → Type 0
Unmoved c d = (d.state ≡ c.state) × (d.count ≡ c.count) × (d.accum ≡ c.accum)

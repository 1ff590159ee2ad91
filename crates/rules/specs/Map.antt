-- "Register map": numbers, and a row for each register.
-- Assumes nothing.
use Rattle.std.specs.Prelude.{ℕ, ◌+◌, ◌-◌, ◌*◌, ◌/◌, ◌%◌, Bool, true, false, cond, ◌&&◌, eqb, leb, ltb}
use Rattle.rules.specs.State.{field_index}
use Rattle.rules.specs.declared.Field.{Field}
use Rattle.rules.specs.declared.Guard.{Guard}
use Rattle.rules.specs.declared.Guard.TheVariants.{Free, ByRegwen, ByClrRegwen}
use Rattle.rules.specs.declared.Register.{Register}
use Rattle.rules.specs.declared.Register.TheVariants.{Only, Local, Alert, Block, Unassigned}
use Rattle.rules.specs.declared.Row.{Row}
use Rattle.rules.specs.declared.Setting.{Setting}
use Rattle.rules.specs.declared.Setting.TheVariants.{Ctrl, ClrRegwen, Clr, AccumCnt, AccumThresh, TimeoutCyc, PhaseCyc, EscCnt}
use Rattle.rules.specs.declared.Single.{Single}
use Rattle.rules.specs.declared.Single.TheVariants.{IntrState, IntrEnable, IntrTest, PingRegwen, PingTimeout, PingEnable}
use Rattle.rules.specs.declared.Way.{Way}
use Rattle.rules.specs.declared.Way.TheVariants.{Both, OneClears, OneSets, ReadOnly, WriteOnly}

-- ── numbers ──

-- field f of alert i is at (1 + f) strides and i; the classes follow the four fields, 16 numbers each
abbrev pub stride : ℕ
stride = 256

abbrev pub class_base : ℕ
class_base = 5 * stride

-- the numbers from first on, count of them
abbrev pub within : ℕ → ℕ → ℕ → Bool
within first count r = leb first r && ltb r (first + count)

-- the register at +o in the block of class k
unfoldable pub block_at : ℕ → ℕ → Register
block_at k o =
    cond (eqb o 0) (Block Setting.Regwen k)
    (cond (eqb o 1) (Block Ctrl k)
    (cond (eqb o 2) (Block ClrRegwen k)
    (cond (eqb o 3) (Block Clr k)
    (cond (eqb o 4) (Block AccumCnt k)
    (cond (eqb o 5) (Block AccumThresh k)
    (cond (eqb o 6) (Block TimeoutCyc k)
    (cond (within 7 4 o) (Block (PhaseCyc (o - 7)) k)
    (cond (eqb o 11) (Block EscCnt k) (cond (eqb o 12) (Block Setting.State k) Unassigned)))))))))

-- alert i exists for i below N
abbrev pub alert_at : ℕ → Field → ℕ → Register
alert_at n f i = cond (ltb i n) (Alert f i) Unassigned

-- the register number selects one of these ranges; all other numbers are unassigned
unfoldable pub decode : ℕ → ℕ → Register
decode n r =
    cond (eqb r 0) (Only IntrState)
    (cond (eqb r 1) (Only IntrEnable)
    (cond (eqb r 2) (Only IntrTest)
    (cond (eqb r 4) (Only PingRegwen)
    (cond (eqb r 5) (Only PingTimeout)
    (cond (eqb r 6) (Only PingEnable)
    (cond (within 16 7 r) (Local Field.Regwen (r - 16))
    (cond (within 24 7 r) (Local Field.En (r - 24))
    (cond (within 32 7 r) (Local Field.Class (r - 32))
    (cond (within 40 7 r) (Local Field.Cause (r - 40))
    (cond (within stride stride r) (alert_at n Field.Regwen (r - stride))
    (cond (within (2 * stride) stride r) (alert_at n Field.En (r - 2 * stride))
    (cond (within (3 * stride) stride r) (alert_at n Field.Class (r - 3 * stride))
    (cond (within (4 * stride) stride r) (alert_at n Field.Cause (r - 4 * stride))
    (cond (within class_base (16 * 4) r) (block_at ((r - class_base) / 16) ((r - class_base) % 16)) Unassigned))))))))))))))

abbrev pub offset : Setting → ℕ
offset Setting.Regwen = 0
offset Ctrl = 1
offset ClrRegwen = 2
offset Clr = 3
offset AccumCnt = 4
offset AccumThresh = 5
offset TimeoutCyc = 6
offset (PhaseCyc p) = 7 + p
offset EscCnt = 11
offset Setting.State = 12

abbrev pub single_number : Single → ℕ
single_number IntrState = 0
single_number IntrEnable = 1
single_number IntrTest = 2
single_number PingRegwen = 4
single_number PingTimeout = 5
single_number PingEnable = 6

-- a register's number; 3 stands for those that are unassigned
unfoldable pub number_of : Register → ℕ
number_of (Only o) = single_number o
number_of (Local f j) = 16 + 8 * field_index f + j
number_of (Alert f i) = (1 + field_index f) * stride + i
number_of (Block s k) = class_base + 16 * k + offset s
number_of Unassigned = 3

abbrev pub is_register : Register → Bool
is_register (Only o) = true
is_register (Local f j) = true
is_register (Alert f i) = true
is_register (Block s k) = true
is_register Unassigned = false

-- ── what is known of each register: the map's table, a row for each ──

-- a row: bits, way, guard, whether it is a lock, whether steps 2 to 4 of a tick move it, whether it is shadowed: EN and CLASS of alerts and
-- local alerts, CTRL, ACCUM_THRESH, TIMEOUT_CYC and the phase lengths, and the ping timer's timeout
abbrev line : ℕ → Way → Guard → Bool → Bool → Bool → Row
line b w g l m s = record { bits = b; way = w; guard = g; lock = l; moves = m; shadowed = s }

-- of a register that there is one of
abbrev pub single_row : Single → Row
single_row IntrState = line 4 OneClears Free false true false
single_row IntrEnable = line 4 Both Free false false false
single_row IntrTest = line 4 WriteOnly Free false false false
-- request (ix): "registers 4 (REGWEN), 5 (timeout, 16 bits) and 6 (enable, 1 bit ..). The first locks 5 and 6; 5 is shadowed"
single_row PingRegwen = line 1 Both ByRegwen true false false
single_row PingTimeout = line 16 Both ByRegwen false false true
single_row PingEnable = line 1 OneSets ByRegwen false false false

-- of an alert or a local alert
abbrev pub field_row : Field → Row
field_row Field.Regwen = line 1 Both ByRegwen true false false
field_row Field.En = line 1 Both ByRegwen false false true
field_row Field.Class = line 2 Both ByRegwen false false true
field_row Field.Cause = line 1 OneClears Free false true false

-- of a class's block
abbrev pub setting_row : Setting → Row
setting_row Setting.Regwen = line 1 Both ByRegwen true false false
setting_row Ctrl = line 14 Both ByRegwen false false true
setting_row ClrRegwen = line 1 Both ByClrRegwen true true false
setting_row Clr = line 1 WriteOnly ByClrRegwen false false false
setting_row AccumCnt = line 16 ReadOnly Free false true false
setting_row AccumThresh = line 16 Both ByRegwen false false true
setting_row TimeoutCyc = line 32 Both ByRegwen false false true
setting_row (PhaseCyc p) = line 32 Both ByRegwen false false true
setting_row EscCnt = line 32 ReadOnly Free false true false
setting_row Setting.State = line 3 ReadOnly Free false true false

abbrev pub row : Register → Row
row (Only o) = single_row o
row (Local f j) = field_row f
row (Alert f i) = field_row f
row (Block s k) = setting_row s
row Unassigned = line 0 Both Free false false false

-- ── its columns ──

abbrev pub single_bits : Single → ℕ
single_bits o = (single_row o).bits

abbrev pub field_bits : Field → ℕ
field_bits f = (field_row f).bits

abbrev pub setting_bits : Setting → ℕ
setting_bits s = (setting_row s).bits

unfoldable pub bits : Register → ℕ
bits q = (row q).bits

abbrev pub only_written : Way → Bool
only_written Both = false
only_written OneClears = false
only_written OneSets = false
only_written ReadOnly = false
only_written WriteOnly = true

unfoldable pub write_only : Register → Bool
write_only q = only_written (row q).way

abbrev pub only_read : Way → Bool
only_read Both = false
only_read OneClears = false
only_read OneSets = false
only_read ReadOnly = true
only_read WriteOnly = false

unfoldable pub read_only : Register → Bool
read_only q = only_read (row q).way

-- is it a REGWEN or CLR_REGWEN?
unfoldable pub is_lock : Register → Bool
is_lock q = (row q).lock

-- does it take two equal writes?
unfoldable pub is_shadowed : Register → Bool
is_shadowed q = (row q).shadowed

-- the lock of the alert or local alert that q belongs to, lock s of its class, and of the single registers the ping timer's
abbrev pub lock_of : Setting → Register → Register
lock_of s (Only o) = Only PingRegwen
lock_of s (Local f j) = Local Field.Regwen j
lock_of s (Alert f i) = Alert Field.Regwen i
lock_of s (Block t k) = Block s k
lock_of s Unassigned = Unassigned

abbrev pub guard_by : Guard → Register → Register
guard_by Free q = Unassigned
guard_by ByRegwen q = lock_of Setting.Regwen q
guard_by ByClrRegwen q = lock_of ClrRegwen q

-- the REGWEN or CLR_REGWEN that guards a register, and `Unassigned` where none does
unfoldable pub guard : Register → Register
guard q = guard_by (row q).guard q

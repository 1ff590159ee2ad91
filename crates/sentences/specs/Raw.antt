-- What the sentences read of a state and of the wires: a raw field for each thing that document 01 names, and no definition of the rules.
-- Assumes nothing.
use Rattle.std.specs.Prelude.{ℕ, ◌-◌, ◌/◌, ◌%◌, Bool, List, [], get_or}
use Rattle.bits.specs.Bits.{bit}
use Rattle.class_rules.specs.declared.Class.{Class}
use Rattle.rules.specs.declared.ClassStages.{ClassStages}
use Rattle.rules.specs.declared.Field.{Field}
use Rattle.rules.specs.declared.Handler.{Handler}
use Rattle.rules.specs.declared.Register.{Register}
use Rattle.rules.specs.declared.Register.TheVariants.{Only, Local, Alert, Block, Unassigned}
use Rattle.rules.specs.declared.Setting.{Setting}
use Rattle.rules.specs.declared.Setting.TheVariants.{Ctrl, ClrRegwen, Clr, AccumCnt, AccumThresh, TimeoutCyc, PhaseCyc, EscCnt}
use Rattle.rules.specs.declared.Single.TheVariants.{IntrState, IntrEnable, IntrTest, PingRegwen, PingTimeout, PingEnable}
use Rattle.rules.specs.declared.Wires.{Wires}

-- ── alert i has bit 63 - i % 64 of word i / 64: of the wires and of the receivers ──

abbrev pub bit_of_alert : List ℕ → ℕ → Bool
bit_of_alert ws i = bit (get_or ws (i / 64) 0) (63 - i % 64)

abbrev pub positive : Wires → ℕ → Bool
positive w i = bit_of_alert w.pos i

abbrev pub negative : Wires → ℕ → Bool
negative w i = bit_of_alert w.neg i

-- the two bits that say where its receiver stands, the level of its ping pair, and whether a ping is open
abbrev pub pausing : Handler → ℕ → Bool
pausing g i = bit_of_alert g.links.receivers.pausing i

abbrev pub busy : Handler → ℕ → Bool
busy g i = bit_of_alert g.links.receivers.busy i

abbrev pub level : Handler → ℕ → Bool
level g i = bit_of_alert g.links.receivers.level i

abbrev pub pending : Handler → ℕ → Bool
pending g i = bit_of_alert g.links.receivers.pending i

-- request (ix): the ping of line e is open; line 0 is the lowest bit
abbrev pub line_pending : Handler → ℕ → Bool
line_pending g e = bit g.links.lines e

-- ── request (xi): the sender of line e; line 0 is the lowest bit ──

-- the line was on in the last tick; it was, and was off in the tick before that
abbrev pub line_on : Handler → ℕ → Bool
line_on g e = bit g.links.senders.on e

abbrev pub line_first : Handler → ℕ → Bool
line_first g e = bit g.links.senders.first e

-- a sound receiver of its pair: the pair was on in the last tick, the second bit that says where it stands, and its answer in the coming tick
abbrev pub pair_last : Handler → ℕ → Bool
pair_last g e = bit g.links.senders.last e

abbrev pub pair_deep : Handler → ℕ → Bool
pair_deep g e = bit g.links.senders.deep e

abbrev pub right_answer : Handler → ℕ → Bool
right_answer g e = bit g.links.senders.answer e

-- ── entry k of the four classes and of their stages; an array has its four entries, and past them there is none: never read ──

abbrev pub no_class : Class
no_class = record { lengths = []; timeout = 0; count = 0; ctrl = 0; accum = 0; thresh = 0; regwen = 0; clrwen = 0; state = 0 }

abbrev pub class_of : Handler → ℕ → Class
class_of h k = get_or h.classes k no_class

abbrev pub no_stages : ClassStages
no_stages = record { lengths = []; timeout = 0; ctrl = 0; thresh = 0 }

abbrev pub stages_of : Handler → ℕ → ClassStages
stages_of h k = get_or h.stages.classes k no_stages

-- ── what a register holds ──

abbrev pub local_list : Handler → Field → List ℕ
local_list h Field.Regwen = h.locals.regwen
local_list h Field.En = h.locals.en
local_list h Field.Class = h.locals.class
local_list h Field.Cause = h.locals.cause

abbrev pub alert_list : Handler → Field → List ℕ
alert_list h Field.Regwen = h.alerts.regwen
alert_list h Field.En = h.alerts.en
alert_list h Field.Class = h.alerts.class
alert_list h Field.Cause = h.alerts.cause

-- "CLR holds no value"
abbrev pub setting_in : Class → Setting → ℕ
setting_in c Setting.Regwen = c.regwen
setting_in c Ctrl = c.ctrl
setting_in c ClrRegwen = c.clrwen
setting_in c Clr = 0
setting_in c AccumCnt = c.accum
setting_in c AccumThresh = c.thresh
setting_in c TimeoutCyc = c.timeout
setting_in c (PhaseCyc p) = get_or c.lengths p 0
setting_in c EscCnt = c.count
setting_in c Setting.State = c.state

-- INTR_TEST holds no value either: both are write only
abbrev pub held : Handler → Register → ℕ
held h (Only IntrState) = h.interrupts.state
held h (Only IntrEnable) = h.interrupts.enable
held h (Only IntrTest) = 0
held h (Only PingRegwen) = h.timer.regwen
held h (Only PingTimeout) = h.timer.timeout
held h (Only PingEnable) = h.timer.enable
held h (Local f j) = get_or (local_list h f) j 0
held h (Alert f i) = get_or (alert_list h f) i 0
held h (Block s k) = setting_in (class_of h k) s
held h Unassigned = 0

-- ── what a stage holds, in one code: 0 where none is open, the staged value plus 1 where one is. What is not shadowed has none ──

abbrev pub local_stage_list : Handler → Field → List ℕ
local_stage_list h Field.Regwen = []
local_stage_list h Field.En = h.stages.locals.en
local_stage_list h Field.Class = h.stages.locals.class
local_stage_list h Field.Cause = []

abbrev pub alert_stage_list : Handler → Field → List ℕ
alert_stage_list h Field.Regwen = []
alert_stage_list h Field.En = h.stages.alerts.en
alert_stage_list h Field.Class = h.stages.alerts.class
alert_stage_list h Field.Cause = []

abbrev pub setting_stage_in : ClassStages → Setting → ℕ
setting_stage_in c Setting.Regwen = 0
setting_stage_in c Ctrl = c.ctrl
setting_stage_in c ClrRegwen = 0
setting_stage_in c Clr = 0
setting_stage_in c AccumCnt = 0
setting_stage_in c AccumThresh = c.thresh
setting_stage_in c TimeoutCyc = c.timeout
setting_stage_in c (PhaseCyc p) = get_or c.lengths p 0
setting_stage_in c EscCnt = 0
setting_stage_in c Setting.State = 0

abbrev pub code : Handler → Register → ℕ
code h (Only IntrState) = 0
code h (Only IntrEnable) = 0
code h (Only IntrTest) = 0
code h (Only PingRegwen) = 0
code h (Only PingTimeout) = h.stages.timeout
code h (Only PingEnable) = 0
code h (Local f j) = get_or (local_stage_list h f) j 0
code h (Alert f i) = get_or (alert_stage_list h f) i 0
code h (Block s k) = setting_stage_in (stages_of h k) s
code h Unassigned = 0

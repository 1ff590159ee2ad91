-- Request (v), shadow writes: the stages of the shadowed registers, by register.
-- Assumes nothing.
use Rattle.std.specs.Prelude.{ℕ, ◌+◌, Bool, cond, not, List, [], eqb, get_or}
use Rattle.bits.specs.Index.{each}
use Rattle.rules.specs.Map.{offset, single_number}
use Rattle.rules.specs.State.{most, local_count, class_count, field_index, put}
use Rattle.rules.specs.declared.AlertStages.{AlertStages}
use Rattle.rules.specs.declared.ClassStages.{ClassStages}
use Rattle.rules.specs.declared.Field.{Field}
use Rattle.rules.specs.declared.Handler.{Handler}
use Rattle.rules.specs.declared.LocalStages.{LocalStages}
use Rattle.rules.specs.declared.Register.{Register}
use Rattle.rules.specs.declared.Register.TheVariants.{Only, Local, Alert, Block, Unassigned}
use Rattle.rules.specs.declared.Setting.{Setting}
use Rattle.rules.specs.declared.Setting.TheVariants.{Ctrl, ClrRegwen, Clr, AccumCnt, AccumThresh, TimeoutCyc, PhaseCyc, EscCnt}
use Rattle.rules.specs.declared.Single.{Single}
use Rattle.rules.specs.declared.Single.TheVariants.{IntrState, IntrEnable, IntrTest, PingRegwen, PingTimeout, PingEnable}
use Rattle.rules.specs.declared.Stages.{Stages}

-- ── a stage's code: 0 for none, the staged value plus 1; a register that is not shadowed has none ──

abbrev pub local_stages : Field → LocalStages → List ℕ
local_stages Field.Regwen l = []
local_stages Field.En l = l.en
local_stages Field.Class l = l.class
local_stages Field.Cause l = []

abbrev pub alert_stages : Field → AlertStages → List ℕ
alert_stages Field.Regwen a = []
alert_stages Field.En a = a.en
alert_stages Field.Class a = a.class
alert_stages Field.Cause a = []

abbrev pub setting_stage : Setting → ClassStages → ℕ
setting_stage Setting.Regwen c = 0
setting_stage Ctrl c = c.ctrl
setting_stage ClrRegwen c = 0
setting_stage Clr c = 0
setting_stage AccumCnt c = 0
setting_stage AccumThresh c = c.thresh
setting_stage TimeoutCyc c = c.timeout
setting_stage (PhaseCyc p) c = get_or c.lengths p 0
setting_stage EscCnt c = 0
setting_stage Setting.State c = 0

-- past the four classes there is none
abbrev pub no_class_stages : ClassStages
no_class_stages = record { lengths = []; timeout = 0; ctrl = 0; thresh = 0 }

abbrev pub class_stages : Stages → ℕ → ClassStages
class_stages s k = get_or s.classes k no_class_stages

-- of the registers that there is one of, the ping timer's timeout alone is shadowed
abbrev pub single_stage : Single → Stages → ℕ
single_stage IntrState s = 0
single_stage IntrEnable s = 0
single_stage IntrTest s = 0
single_stage PingRegwen s = 0
single_stage PingTimeout s = s.timeout
single_stage PingEnable s = 0

unfoldable pub stage_in : Stages → Register → ℕ
stage_in s (Only o) = single_stage o s
stage_in s (Local f j) = get_or (local_stages f s.locals) j 0
stage_in s (Alert f i) = get_or (alert_stages f s.alerts) i 0
stage_in s (Block t k) = setting_stage t (class_stages s k)
stage_in s Unassigned = 0

abbrev pub stage : Handler → Register → ℕ
stage h q = stage_in h.stages q

abbrev pub is_open : Stages → Register → Bool
is_open s q = not (eqb (stage_in s q) 0)

-- ── the stages with the code c at one register ──

abbrev pub with_local_stages : Field → List ℕ → LocalStages → LocalStages
with_local_stages f x l = record { en = cond (eqb (field_index f) 1) x l.en; class = cond (eqb (field_index f) 2) x l.class }

abbrev pub with_alert_stages : Field → List ℕ → AlertStages → AlertStages
with_alert_stages f x a = record { en = cond (eqb (field_index f) 1) x a.en; class = cond (eqb (field_index f) 2) x a.class }

abbrev pub with_setting_stage : Setting → ℕ → ClassStages → ClassStages
with_setting_stage s v c =
    record {
      lengths = each 4 (λ p. cond (eqb (offset s) (offset (PhaseCyc p))) v (get_or c.lengths p 0));
      timeout = cond (eqb (offset s) (offset TimeoutCyc)) v c.timeout;
      ctrl = cond (eqb (offset s) (offset Ctrl)) v c.ctrl;
      thresh = cond (eqb (offset s) (offset AccumThresh)) v c.thresh;
    }

unfoldable pub with_stage : Register → ℕ → Stages → Stages
with_stage (Only o) c s =
    record {
      classes = s.classes;
      alerts = s.alerts;
      locals = s.locals;
      timeout = cond (eqb (single_number o) (single_number PingTimeout)) c s.timeout;
    }
with_stage (Local f j) c s =
    record {
      classes = s.classes;
      alerts = s.alerts;
      locals = with_local_stages f (put local_count (local_stages f s.locals) 0 j c) s.locals;
      timeout = s.timeout;
    }
with_stage (Alert f i) c s =
    record {
      classes = s.classes;
      alerts = with_alert_stages f (put most (alert_stages f s.alerts) 0 i c) s.alerts;
      locals = s.locals;
      timeout = s.timeout;
    }
with_stage (Block t k) c s =
    record {
      classes = put class_count s.classes no_class_stages k (with_setting_stage t c (class_stages s k));
      alerts = s.alerts;
      locals = s.locals;
      timeout = s.timeout;
    }
with_stage Unassigned c s = s

-- the first of two writes is staged
abbrev pub staged : Register → ℕ → Stages → Stages
staged q v s = with_stage q (v + 1) s

-- a stage that is open is dropped
unfoldable pub dropped : Register → Stages → Stages
dropped q s = cond (is_open s q) (with_stage q 0 s) s

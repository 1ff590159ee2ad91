-- A tick of which nothing is heard: all wires at (0,1), what comes of it, and which registers may still move by themselves.
-- Assumes nothing.
use Rattle.std.specs.Prelude.{ℕ, ◌<◌, ◌≡◌, Bool, true, false}
use Rattle.rules.specs.Samples.{positive, negative, alert_event, occurs}
use Rattle.rules.specs.State.{most, local_count}
use Rattle.rules.specs.declared.Handler.{Handler}
use Rattle.rules.specs.declared.Heard.{Heard}
use Rattle.rules.specs.declared.Register.{Register}
use Rattle.rules.specs.declared.Register.TheVariants.{Only, Local, Alert, Block, Unassigned}
use Rattle.rules.specs.declared.Setting.{Setting}
use Rattle.rules.specs.declared.Setting.TheVariants.{Ctrl, ClrRegwen, Clr, AccumCnt, AccumThresh, TimeoutCyc, PhaseCyc, EscCnt}
use Rattle.rules.specs.declared.Wires.{Wires}

pub record AtRest (w : Wires) : Type 0 where
  pub low : (i : ℕ) → i < most → positive w i ≡ false
  pub high : (i : ℕ) → i < most → negative w i ≡ true

-- nothing comes of what step 2 hears: no enabled alert has an event, and no local alert occurs
pub record Silent (g : Handler) (v : Heard) : Type 0 where
  pub alerts : (i : ℕ) → i < most → alert_event g v i ≡ false
  pub locals : (j : ℕ) → j < local_count → occurs g v j ≡ false

-- STATE, ESC_CNT and CLR_REGWEN: a class in Timeout or a phase moves without an event
abbrev pub setting_runs : Setting → Bool
setting_runs Setting.Regwen = false
setting_runs Ctrl = false
setting_runs ClrRegwen = true
setting_runs Clr = false
setting_runs AccumCnt = false
setting_runs AccumThresh = false
setting_runs TimeoutCyc = false
setting_runs (PhaseCyc p) = false
setting_runs EscCnt = true
setting_runs Setting.State = true

abbrev pub runs : Register → Bool
runs (Only o) = false
runs (Local f j) = false
runs (Alert f i) = false
runs (Block s k) = setting_runs s
runs Unassigned = false

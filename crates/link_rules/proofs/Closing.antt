-- Request (xi), what an escalation closes: opening, answers and failing come before it.
-- Assumes nothing.
use Prim.Native.Nat.{ℕ}
use mathlib.Core.Path.{◌≡◌, refl}
use mathlib.Core.Bool.{Bool}
use Rattle.link_rules.specs.LinePing.{closing}
use Rattle.link_rules.specs.Pings.{asks}
use Rattle.link_rules.specs.Timer.{opens, open_now, fails}
use Rattle.link_rules.specs.declared.Meets.{Meets}
use Rattle.link_rules.specs.declared.Turn.{Turn}

module _ (c : Bool) (m : Meets) (t : Turn) where
  pub closing_opens : opens (closing c m) t ≡ opens m t
  unfolding opens
  closing_opens = refl

  pub closing_open : open_now (closing c m) t ≡ open_now m t
  unfolding open_now opens
  closing_open = refl

  pub closing_fails : fails (closing c m) t ≡ fails m t
  unfolding fails open_now opens
  closing_fails = refl

  pub closing_asks : (i : ℕ) → asks (closing c m) t i ≡ asks m t i
  unfolding opens
  closing_asks i = refl

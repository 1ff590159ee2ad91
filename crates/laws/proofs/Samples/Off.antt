-- Request (ix), a tick in which the timer does not run: it asks for nothing, nothing fails, and its turn stays, unless it begins.
-- Assumes nothing.
use Prim.Native.Nat.{ℕ}
use mathlib.Core.Path.{◌≡◌, ap}
use mathlib.Core.Bool.{Bool, true, false, cond, not, ◌&&◌}
use lib.Dec.{eqb}
use Rattle.link_rules.specs.Pings.{asks, line_after}
use Rattle.link_rules.specs.Timer.{is_line, line_of, opens, open_now, open_after, fails, first_turn, turned}
use Rattle.link_rules.specs.declared.Meets.{Meets}
use Rattle.link_rules.specs.declared.Turn.{Turn}

module _ (m : Meets) (t : Turn) (r : m.runs ≡ false) where
  pub off_opens : opens m t ≡ false
  unfolding opens
  off_opens = rw r

  pub off_open : open_now m t ≡ false
  unfolding open_now
  off_open = rw r

  pub off_fails : fails m t ≡ false
  unfolding fails
  off_fails = rw off_open

  pub off_asks : (i : ℕ) → asks m t i ≡ false
  off_asks i = ap (λ (b : Bool). b && (not (is_line t) && eqb i t.alert)) off_opens

  -- "When 6 becomes 1 .., that tick's word sets the next turn"
  pub off_turned : turned m t ≡ cond m.begins (first_turn m.word) t
  unfolding turned
  off_turned = rw r

  -- a line's ping that is not open stays so
  pub off_line : (was : Bool) (e : ℕ) → was ≡ false → line_after m t was e ≡ false
  off_line was e w = go (is_line t && eqb e (line_of t))
    where
      go : (b : Bool) → cond b (open_after m t) was ≡ false
      go true = rw off_open
      go false = w

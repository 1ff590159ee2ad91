-- Request (xii), "every tick at which a line changed": the words of a calm call tell the lines of each of its ticks. proofs/Tells.antt proves the claim of
-- every state that refusal 7 does not meet, for every number of ticks that a call takes.
-- Assumes nothing.
use Rattle.std.specs.Prelude.{ℕ, suc, ◌-◌, ◌%◌, ◌^◌, ◌≤◌, ◌<◌, ◌≡◌, ◌≢◌, cond, List, [], ◌∷◌, leb, get_or, length}
use Rattle.bits.specs.Bits.{bits_of, field, place}
use Rattle.rules.specs.Tick.{lines}
use Rattle.rules.specs.declared.Handler.{Handler}
use Rattle.rules.specs.declared.Wires.{Wires}
use Rattle.calm_rules.specs.Ticks.{calm_output, calm_changes}

-- ── a word: "lines (4 bits, line 0 first), 28 zeros, tick" ──

-- its lines: line e is bit 63 - e
abbrev pub lines_in : ℕ → ℕ
lines_in x = bits_of 4 (place x)

abbrev pub tick_in : ℕ → ℕ
tick_in x = x % 2 ^ 32

-- ── the lines of tick t: those of the last word whose tick is at most t, else those of tick 0 ──

unfoldable pub lines_by : ℕ → List ℕ → ℕ → ℕ
lines_by given [] t = given
lines_by given (x ∷ xs) t = lines_by (cond (leb (tick_in x) t) (lines_in x) given) xs t

-- ── the claim, of n calm ticks of the state h on the wires w ──

pub record Tells (h : Handler) (w : Wires) (n : ℕ) : Type 0 where
  -- the lines of each tick, the given state's being tick 0
  pub each_tick : (t : ℕ) → t ≤ n → lines_by (lines h) (calm_changes h w n) t ≡ (calm_output h w t).lines
  -- "in order", "(the first is 1)", and one word for a tick
  pub rising : (i : ℕ) → suc i < length (calm_changes h w n) → tick_in (get_or (calm_changes h w n) i 0) < tick_in (get_or (calm_changes h w n) (suc i) 0)
  pub within : (i : ℕ) → i < length (calm_changes h w n) → (1 ≤ tick_in (get_or (calm_changes h w n) i 0)) × (tick_in (get_or (calm_changes h w n) i 0) ≤ n)
  -- "at which a line changed": the lines of a word are not those of the tick before
  pub changed :
      (i : ℕ) → i < length (calm_changes h w n)
      → lines_in (get_or (calm_changes h w n) i 0) ≢ (calm_output h w (tick_in (get_or (calm_changes h w n) i 0) - 1)).lines
  pub zeros : (i : ℕ) → i < length (calm_changes h w n) → field 32 28 (get_or (calm_changes h w n) i 0) ≡ 0

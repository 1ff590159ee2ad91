-- Request (xii): the claims of calm calls taken apart, each part at full strength over every state, wires and number of ticks.
-- Assumes nothing.
use Prim.Native.Nat.{ℕ, suc, ◌+◌, ◌-◌, ◌^◌, ◌%◌, ◌≤◌, ◌<◌}
use mathlib.Core.Path.{◌≡◌}
use mathlib.Core.Logic.{◌≢◌}
use mathlib.Core.Bool.{true, false}
use mathlib.Core.List.{List, ◌++◌, map}
use lib.IntN.{pos}
use lib.ListN.{get_or, length, take}
use Rattle.std.specs.Prelude.{Ok}
use Rattle.bits.specs.Bits.{bits_of, field, place}
use Rattle.calm_rules.specs.Call.{calm_verdict, calmed, calmed_list}
use Rattle.calm_rules.specs.Ticks.{calm_output, calm_changes}
use Rattle.calm_rules.specs.declared.Calmed.{Calmed}
use Rattle.rules.specs.State.{is_on}
use Rattle.rules.specs.Tick.{lines}
use Rattle.rules.specs.Valid.{valid}
use Rattle.rules.specs.declared.Handler.{Handler}
use Rattle.rules.specs.declared.Wires.{Wires}
use Rattle.calm_laws.specs.Tells.{lines_by}
use Rattle.calm_laws.proofs.Tells.{tells}
use Rattle.calm_laws.proofs.TwoCalls.{two_calls}

-- ── two calls, of m and n ticks, and one of m + n, each with a list of 20 entries at least ──

module _ (h : Handler) (w : Wires) (m n : ℕ) (us vs ws : List ℕ) (v : valid h ≡ true) (off : is_on h ≡ false)
    (lu : 20 ≤ length us) (lv : 20 ≤ length vs) (lw : 20 ≤ length ws) where
  abbrev first : Calmed
  first = calmed h w m us

  abbrev second : Calmed
  second = calmed first.handler w n vs

  abbrev one : Calmed
  one = calmed h w (m + n) ws

  runs : calm_verdict first.handler vs ≡ Ok tt
  runs = (two_calls h w m n us vs ws v off lu lv lw).runs_on

  states : second.handler ≡ one.handler
  states = (two_calls h w m n us vs ws v off lu lv lw).state

  answers : (x y : ℕ) → first.answer ≡ pos x → second.answer ≡ pos y → one.answer ≡ pos (x + y)
  answers = (two_calls h w m n us vs ws v off lu lv lw).answers

  words : (x y : ℕ) → first.answer ≡ pos x → second.answer ≡ pos y
      → take (x + y) (calmed_list h w (m + n) ws) ≡ take x (calmed_list h w m us) ++ map (λ (z : ℕ). z + m) (take y (calmed_list first.handler w n vs))
  words = (two_calls h w m n us vs ws v off lu lv lw).changes

  outputs : 1 ≤ n → second.output ≡ one.output
  outputs = (two_calls h w m n us vs ws v off lu lv lw).outputs

  interrupts_and_lines : (second.output.interrupts ≡ one.output.interrupts) × (second.output.lines ≡ one.output.lines)
  interrupts_and_lines = ((two_calls h w m n us vs ws v off lu lv lw).interrupts, (two_calls h w m n us vs ws v off lu lv lw).lines)

-- ── the words of n ticks ──

module _ (h : Handler) (w : Wires) (n : ℕ) (v : valid h ≡ true) (l : n < 2 ^ 32) where
  abbrev changes : List ℕ
  changes = calm_changes h w n

  each_tick : (t : ℕ) → t ≤ n → lines_by (lines h) changes t ≡ (calm_output h w t).lines
  each_tick = (tells h w n v l).each_tick

  rising : (i : ℕ) → suc i < length changes → get_or changes i 0 % 4294967296 < get_or changes (suc i) 0 % 4294967296
  rising = (tells h w n v l).rising

  within : (i : ℕ) → i < length changes → (1 ≤ get_or changes i 0 % 4294967296) × (get_or changes i 0 % 4294967296 ≤ n)
  within = (tells h w n v l).within

  changed : (i : ℕ) → i < length changes → bits_of 4 (place (get_or changes i 0)) ≢ (calm_output h w (get_or changes i 0 % 4294967296 - 1)).lines
  changed = (tells h w n v l).changed

  zeros : (i : ℕ) → i < length changes → field 32 28 (get_or changes i 0) ≡ 0
  zeros = (tells h w n v l).zeros

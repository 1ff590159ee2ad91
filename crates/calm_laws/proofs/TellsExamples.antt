-- The words of calm ticks at work: what they tell, by computation and by the theorem.
-- Assumes nothing.
use Prim.Native.Nat.{ℕ, ◌≤◌}
use mathlib.Core.Path.{◌≡◌, refl}
use mathlib.Core.List.{List, [], ◌∷◌, map}
use native.Mathlib.Omega.{arith}
use Rattle.rules.proofs.Scenes.{rules, lengths}
use Rattle.rules.specs.Scenes.{raise, rest, none}
use Rattle.rules.specs.Run.{run}
use Rattle.rules.specs.Tick.{lines}
use Rattle.rules.specs.declared.Handler.{Handler}
use Rattle.rules.specs.declared.Wires.{Wires}
use Rattle.calm_rules.specs.Ticks.{calm_run, calm_output, change_word, calm_changes}
use Rattle.calm_laws.specs.Tells.{lines_in, tick_in, lines_by}
use Rattle.calm_laws.proofs.Tells.{tells}

-- names every definition that an example computes with
unfoldable calm : ℕ → ℕ
unfolding rules calm_run calm_output change_word calm_changes lines_by
calm n = n

-- ── one word: lines 0 and 3 in tick 258 ──

one_word : (lines_in 0x9000000000000102 ≡ 9) × (tick_in 0x9000000000000102 ≡ 258)
unfolding calm
one_word = (refl, refl)

-- ── line 2 on in tick 0, line 0 from tick 5 on, lines 0 and 3 from 258 on, none in the last tick of the longest call ──

abbrev list : List ℕ
list = 0x8000000000000005 ∷ 0x9000000000000102 ∷ 0x00000000FFFFFFFF ∷ []

last_at_most : map (lines_by 4 list) (0 ∷ 4 ∷ 5 ∷ 257 ∷ 258 ∷ 4294967294 ∷ 4294967295 ∷ []) ≡ 4 ∷ 4 ∷ 1 ∷ 1 ∷ 9 ∷ 9 ∷ 0 ∷ []
unfolding calm
last_at_most = refl

-- ── class 0 in the first tick of Phase 0, which has 2 ticks, as the others; line e is mapped to Phase e ──

abbrev begun : Handler
begun = run (lengths 2 2 2 2) (raise 0 none ∷ [])

abbrev wires : Wires
wires = (rest none).sample.alerts

-- line 0 is on in ticks 0 and 1, line 1 in 2 and 3, line 2 in 4 and 5; six ticks give three words, and no tick none
words : (calm_changes begun wires 6 ≡ 0x4000000000000002 ∷ 0x2000000000000004 ∷ 0x1000000000000006 ∷ []) × (calm_changes begun wires 0 ≡ [])
unfolding calm
words = (refl, refl)

told : map (lines_by (lines begun) (calm_changes begun wires 6)) (0 ∷ 1 ∷ 2 ∷ 3 ∷ 4 ∷ 5 ∷ 6 ∷ []) ≡ 1 ∷ 1 ∷ 2 ∷ 2 ∷ 4 ∷ 4 ∷ 8 ∷ []
unfolding calm
told = refl

-- tick 3 is told by the list of any longer call
any_longer : (n : ℕ) → 3 ≤ n → n ≤ 4294967295 → lines_by 1 (calm_changes begun wires n) 3 ≡ 2
unfolding calm
any_longer n l m = (tells begun wires n refl (omega arith)).each_tick 3 l

-- Worked examples that pin what is each class's own, with four classes side by side, by computation (request (x) rests on it).
-- Assumes nothing.
use Prim.Native.Nat.{ℕ, ◌+◌, ◌-◌}
use mathlib.Core.Path.{◌≡◌, refl}
use mathlib.Core.List.{List, [], ◌∷◌, ◌++◌, map}
use lib.ListN.{replicate}
use Rattle.rules.specs.Access.{value}
use Rattle.rules.specs.Run.{run}
use Rattle.rules.specs.Stages.{stage}
use Rattle.rules.specs.State.{reset_class, with_classes}
use Rattle.rules.specs.declared.Handler.{Handler}
use Rattle.rules.specs.declared.Input.{Input}
use Rattle.rules.specs.declared.Register.TheVariants.{Block}
use Rattle.rules.specs.declared.Setting.{Setting}
use Rattle.rules.specs.declared.Setting.TheVariants.{Clr, AccumCnt, AccumThresh}
use Rattle.rules.specs.Scenes.{ones, wired, wire, rest, raise, pause, none, write}
use Rattle.rules.proofs.Scenes.{rules, settings, station}

-- ── alert k is enabled in class k; the classes have these thresholds, and stay long in Phase 0 ──

abbrev four : ℕ → ℕ → ℕ → ℕ → Handler
four a b c d =
    with_classes (map (λ t. settings 0x393D t 0 (99 ∷ 0 ∷ 0 ∷ 0 ∷ [])) (a ∷ b ∷ c ∷ d ∷ []))
    (station 4 (1 ∷ 1 ∷ 1 ∷ 1 ∷ replicate 244 0) (0 ∷ 1 ∷ 2 ∷ 3 ∷ replicate 244 0) 0 reset_class)

-- register s of each class
abbrev each_class : Setting → Handler → List ℕ
each_class s h = map (λ k. value h (Block s k)) (0 ∷ 1 ∷ 2 ∷ 3 ∷ [])

-- an event of all four, and the wires at rest until the receivers are ready again
abbrev all : List Input
all = wired (wire 0 + wire 1 + wire 2 + wire 3) (ones - wire 0 - wire 1 - wire 2 - wire 3) none ∷ pause

-- ── each class counts its own events ──

abbrev some : List Input
some = raise 1 none ∷ raise 3 none ∷ pause ++ (raise 3 none ∷ raise 0 none ∷ pause) ++ (raise 3 none ∷ raise 1 none ∷ [])

counts_own : each_class AccumCnt (run (four 9 9 9 9) some) ≡ 1 ∷ 2 ∷ 0 ∷ 3 ∷ []
unfolding rules
counts_own = refl

-- ── a trigger reads its own class's threshold: of four classes with events in the same ticks each starts at its own ──

triggers_own : (each_class Setting.State (run (four 3 0 2 1) all) ≡ 0 ∷ 4 ∷ 0 ∷ 0 ∷ [])
    × (each_class Setting.State (run (four 3 0 2 1) (all ++ all)) ≡ 0 ∷ 4 ∷ 0 ∷ 4 ∷ [])
    × (each_class Setting.State (run (four 3 0 2 1) (all ++ all ++ all)) ≡ 0 ∷ 4 ∷ 4 ∷ 4 ∷ [])
    × (each_class Setting.State (run (four 3 0 2 1) (all ++ all ++ all ++ all)) ≡ 4 ∷ 4 ∷ 4 ∷ 4 ∷ [])
unfolding rules
triggers_own = (refl, refl, refl, refl)

-- ── a clear is of its own class: state and ACCUM_CNT of the others stay ──

clears_own : (each_class Setting.State (run (four 0 0 0 0) (all ++ (rest (write (Block Clr 2) 1) ∷ []))) ≡ 4 ∷ 4 ∷ 0 ∷ 4 ∷ [])
    × (each_class AccumCnt (run (four 0 0 0 0) (all ++ (rest (write (Block Clr 2) 1) ∷ []))) ≡ 1 ∷ 1 ∷ 0 ∷ 1 ∷ [])
unfolding rules
clears_own = (refl, refl)

-- ── a stage is of its own block: the same value written to two blocks is staged in each, and the second write to one commits there alone ──

abbrev first_writes : List Input
first_writes = map rest (write (Block AccumThresh 1) 7 ∷ write (Block AccumThresh 2) 7 ∷ [])

abbrev second_write : List Input
second_write = map rest (write (Block AccumThresh 1) 7 ∷ [])

abbrev each_stage : Handler → List ℕ
each_stage h = map (λ k. stage h (Block AccumThresh k)) (0 ∷ 1 ∷ 2 ∷ 3 ∷ [])

stages_own : (each_stage (run (four 3 0 2 1) first_writes) ≡ 0 ∷ 8 ∷ 8 ∷ 0 ∷ [])
    × (each_class AccumThresh (run (four 3 0 2 1) first_writes) ≡ 3 ∷ 0 ∷ 2 ∷ 1 ∷ [])
    × (each_stage (run (four 3 0 2 1) (first_writes ++ second_write)) ≡ 0 ∷ 0 ∷ 8 ∷ 0 ∷ [])
    × (each_class AccumThresh (run (four 3 0 2 1) (first_writes ++ second_write)) ≡ 3 ∷ 7 ∷ 2 ∷ 1 ∷ [])
unfolding rules
stages_own = (refl, refl, refl, refl)

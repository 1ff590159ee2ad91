-- Worked examples that pin step 4 in the phases, over many ticks, by computation.
-- Assumes nothing.
use Prim.Native.Nat.{ℕ}
use mathlib.Core.Path.{◌≡◌, refl}
use mathlib.Core.List.{List, [], ◌∷◌, ◌++◌, map}
use lib.ListN.{replicate}
use Rattle.rules.specs.Access.{value}
use Rattle.rules.specs.Run.{run, ticks}
use Rattle.rules.specs.Scenes.{rest, raise, none, write, configure}
use Rattle.rules.specs.State.{class_at}
use Rattle.rules.specs.Tick.{ticked}
use Rattle.rules.specs.declared.Access.{Access}
use Rattle.rules.specs.declared.Handler.{Handler}
use Rattle.rules.specs.declared.Input.{Input}
use Rattle.rules.specs.declared.Register.TheVariants.{Block}
use Rattle.rules.specs.declared.Setting.{Setting}
use Rattle.rules.specs.declared.Setting.TheVariants.{Ctrl, PhaseCyc, EscCnt}
use Rattle.rules.specs.declared.Ticked.{Ticked}
use Rattle.rules.proofs.Scenes.{rules, lengths, started}

-- a register of class 0 after these ticks
abbrev holds : Handler → List Input → Setting → ℕ
holds h xs s = value (run h xs) (Block s 0)

abbrev state : Handler → List Input → ℕ
state h xs = holds h xs Setting.State

-- a write acts in its own tick: EN or all lines off in a phase, which goes on; a length shortened below the count
abbrev lines_off : Access
lines_off = write (Block Ctrl 0) 0x3903

in_phase_law : (state started (map rest (configure (Block Ctrl 0) 0) ++ (rest none ∷ [])) ≡ 4)
    × (holds started (rest lines_off ∷ rest lines_off ∷ []) EscCnt ≡ 3)
    × (state started (rest lines_off ∷ rest lines_off ∷ replicate 10 (rest none)) ≡ 3)
    × ((ticked (run started (rest lines_off ∷ [])) (rest lines_off)).output.lines ≡ 0)
    × (state started (rest none ∷ map rest (configure (Block (PhaseCyc 0) 0) 1)) ≡ 5)
unfolding rules
in_phase_law = (refl, refl, refl, refl, refl)

-- "Phase p .. to the next phase, count 1 (after Phase 3 Terminal, count 0); else add 1": STATE and ESC_CNT after each tick from the start on
abbrev places : Handler → ℕ → List (List ℕ)
places h count =
    map (λ (t : Ticked). (class_at t.handler 0).state ∷ (class_at t.handler 0).count ∷ []) (ticks h (raise 0 none ∷ replicate count (rest none)))

phases : places (lengths 3 0 2 5) 12
    ≡ (4 ∷ 1 ∷ [])
    ∷ (4 ∷ 2 ∷ [])
    ∷ (4 ∷ 3 ∷ [])
    ∷ (5 ∷ 1 ∷ [])
    ∷ (6 ∷ 1 ∷ [])
    ∷ (6 ∷ 2 ∷ [])
    ∷ (7 ∷ 1 ∷ [])
    ∷ (7 ∷ 2 ∷ [])
    ∷ (7 ∷ 3 ∷ [])
    ∷ (7 ∷ 4 ∷ [])
    ∷ (7 ∷ 5 ∷ [])
    ∷ replicate 2 (3 ∷ 0 ∷ [])
unfolding rules
phases = refl

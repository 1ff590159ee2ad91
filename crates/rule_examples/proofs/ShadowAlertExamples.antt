-- Worked examples that pin request (v), local 5: when it does not occur, its own registers, and what else happens in its tick, by computation.
-- Assumes nothing.
use Prim.Native.Nat.{ℕ}
use mathlib.Core.Path.{◌≡◌, refl}
use mathlib.Core.List.{List, [], ◌∷◌, map}
use lib.ListN.{set, replicate}
use Rattle.rules.specs.Access.{value}
use Rattle.rules.specs.Run.{run}
use Rattle.rules.specs.Scenes.{rest, raise, both_high, none}
use Rattle.rules.specs.State.{new_handler, reset_class, with_locals, with_classes}
use Rattle.rules.specs.declared.Access.{Access}
use Rattle.rules.specs.declared.Access.TheVariants.{Read, Write}
use Rattle.rules.specs.declared.Field.{Field}
use Rattle.rules.specs.declared.Handler.{Handler}
use Rattle.rules.specs.declared.Input.{Input}
use Rattle.rules.specs.declared.Register.{Register}
use Rattle.rules.specs.declared.Register.TheVariants.{Only, Local, Block}
use Rattle.rules.specs.declared.Setting.TheVariants.{AccumCnt}
use Rattle.rules.specs.declared.Single.TheVariants.{IntrState}
use Rattle.rules.proofs.Scenes.{rules, settings, zeros, station, watched}

abbrev holds : Handler → List Access → Register → ℕ
holds h xs q = value (run h (map rest xs)) q

-- "if enabled": a disabled local alert never occurs; nor by an equal write, a read, a 4, or a write that 3 refuses
quiet : (holds (watched 0) (Write 1285 7 ∷ Write 1285 8 ∷ []) (Local Field.Cause 5) ≡ 0)
    × (holds (watched 0) (Write 1285 7 ∷ Write 1285 8 ∷ []) (Only IntrState) ≡ 0)
    × (holds (watched 0) (Write 1285 7 ∷ Write 1285 8 ∷ Write 29 1 ∷ Write 29 1 ∷ none ∷ []) (Local Field.Cause 5) ≡ 0)
    × (holds (watched 1) (Write 1285 7 ∷ Write 1285 7 ∷ []) (Local Field.Cause 5) ≡ 0)
    × (holds (watched 1) (Write 1285 7 ∷ Read 1285 ∷ Write 1285 8 ∷ []) (Local Field.Cause 5) ≡ 0)
    × (holds (watched 1) (Write 1285 7 ∷ Write 1285 65536 ∷ []) (Local Field.Cause 5) ≡ 0)
    × (holds (watched 1) (Write 1285 7 ∷ Write 1280 0 ∷ Write 1285 8 ∷ []) (Local Field.Cause 5) ≡ 0)
unfolding rules
quiet = (refl, refl, refl, refl, refl, refl, refl)

-- a differing write to local 5's own EN or CLASS: EN and CLASS after step 1 are those before; what is staged at them acts on nothing
own_registers : (holds (watched 1) (Write 29 0 ∷ Write 29 1 ∷ []) (Local Field.Cause 5) ≡ 1)
    × (holds (watched 0) (Write 29 0 ∷ Write 29 1 ∷ []) (Local Field.Cause 5) ≡ 0)
    × (holds (watched 1) (Write 37 0 ∷ Write 37 2 ∷ []) (Only IntrState) ≡ 2)
    × (holds (watched 1) (Write 37 2 ∷ Write 1285 7 ∷ Write 1285 8 ∷ []) (Only IntrState) ≡ 2)
    × (holds (watched 0) (Write 29 1 ∷ Write 1285 7 ∷ Write 1285 8 ∷ []) (Local Field.Cause 5) ≡ 0)
unfolding rules
own_registers = (refl, refl, refl, refl, refl)

-- local 5 with what else happens in its tick: all classes have EN, local 2 is in class 0, local 5 in class k, alert 0 in class 2; every local alert
-- has this REGWEN and CAUSE; 7 is staged at 1285, and the tick writes 8
abbrev crowded : ℕ → ℕ → ℕ → Handler
crowded regwen cause k =
    with_classes (replicate 4 (settings 5 9 0 zeros))
    (with_locals
    (record { regwen = replicate 7 regwen; en = 0 ∷ 0 ∷ 1 ∷ 0 ∷ 0 ∷ 1 ∷ 0 ∷ []; class = set (replicate 7 0) 5 k; cause = replicate 7 cause })
    (station 1 (set (replicate 248 0) 0 1) (set (replicate 248 0) 0 2) 0 reset_class))

abbrev meets : Handler → (Access → Input) → Handler
meets h x = run h (rest (Write 1285 7) ∷ x (Write 1285 8) ∷ [])

-- with equal wires both local alerts occur, with a rise both classes have their event; each class can be local 5's; a lock and a cause do not hold it
crowd : ((meets (crowded 1 0 1) (both_high 0)).locals.cause ≡ 0 ∷ 0 ∷ 1 ∷ 0 ∷ 0 ∷ 1 ∷ 0 ∷ [])
    × (value (meets (crowded 1 0 1) (both_high 0)) (Only IntrState) ≡ 3)
    × (value (meets (crowded 1 0 1) (raise 0)) (Only IntrState) ≡ 6)
    × (map (λ k. value (meets (crowded 1 0 k) rest) (Only IntrState)) (0 ∷ 1 ∷ 2 ∷ 3 ∷ []) ≡ 1 ∷ 2 ∷ 4 ∷ 8 ∷ [])
    × (value (meets (crowded 0 1 3) rest) (Only IntrState) ≡ 8)
    × (value (meets (crowded 1 0 2) (raise 0)) (Block AccumCnt 2) ≡ 1)
unfolding rules
crowd = (refl, refl, refl, refl, refl, refl)

-- the cause is set where the class has no EN, and in a handler of no alerts
abbrev alone : ℕ → Handler
alone n =
    with_locals (record { regwen = replicate 7 1; en = replicate 7 1; class = replicate 7 3; cause = replicate 7 0 }) (new_handler n)

no_class : map (λ n. (meets (alone n) rest).locals.cause) (0 ∷ 1 ∷ []) ≡ replicate 2 (0 ∷ 0 ∷ 0 ∷ 0 ∷ 0 ∷ 1 ∷ 0 ∷ [])
unfolding rules
no_class = refl

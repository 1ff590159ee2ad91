-- Worked examples that pin request (v), shadow writes, by computation; rule_examples has every register (ShadowRegisterExamples) and
-- more of local 5 (ShadowAlertExamples).
-- Assumes nothing.
use Prim.Native.Nat.{ℕ}
use mathlib.Core.Path.{◌≡◌, refl}
use mathlib.Core.Bool.{false}
use mathlib.Core.List.{List, [], ◌∷◌, map}
use lib.IntN.{ℤ, pos}
use Rattle.rules.specs.Access.{value, acted, accessed}
use Rattle.rules.specs.Map.{decode}
use Rattle.rules.specs.Run.{run}
use Rattle.rules.specs.Stages.{stage}
use Rattle.rules.specs.State.{new_handler}
use Rattle.rules.specs.Tick.{ticked}
use Rattle.rules.specs.declared.Access.{Access}
use Rattle.rules.specs.declared.Access.TheVariants.{Read, Write}
use Rattle.rules.specs.declared.Field.{Field}
use Rattle.rules.specs.declared.Handler.{Handler}
use Rattle.rules.specs.declared.Register.{Register}
use Rattle.rules.specs.declared.Register.TheVariants.{Only, Local, Block}
use Rattle.rules.specs.declared.Setting.{Setting}
use Rattle.rules.specs.declared.Setting.TheVariants.{AccumCnt, AccumThresh}
use Rattle.rules.specs.Scenes.{rest, raise, none, refused}
use Rattle.rules.specs.declared.Single.TheVariants.{IntrState}
use Rattle.rules.proofs.Scenes.{rules, acts, answers, ready, watched}

-- ── accesses one after the other to ACCUM_THRESH of class 0, number 1285: the last answer, the value and the stage after it ──

pub record Seen : Type 0 where
  pub answer : ℤ
  pub held : ℕ
  pub code : ℕ

abbrev thresh : Register
thresh = Block AccumThresh 0

abbrev last : Handler → Access → List Access → ℤ
last h x [] = answers h x
last h x (y ∷ ys) = last (acted h x) y ys

abbrev seen : Access → List Access → Seen
seen x xs =
    let h = new_handler 1 in
    let g = acts h (x ∷ xs) in
    record { answer = last h x xs; held = value g thresh; code = stage g thresh }

abbrev gives : ℤ → ℕ → ℕ → Seen
gives a v c = record { answer = a; held = v; code = c }

-- "the first is staged, the second commits", also the value that is held already and the largest
commits : (seen (Write 1285 7) [] ≡ gives (pos 0) 0 8)
    × (seen (Write 1285 7) (Write 1285 7 ∷ []) ≡ gives (pos 0) 7 0)
    × (seen (Write 1285 7) (Write 1285 7 ∷ Write 1285 7 ∷ []) ≡ gives (pos 0) 7 8)
    × (seen (Write 1285 0) [] ≡ gives (pos 0) 0 1)
    × (seen (Write 1285 0) (Write 1285 0 ∷ []) ≡ gives (pos 0) 0 0)
    × (seen (Write 1285 65535) (Write 1285 65535 ∷ []) ≡ gives (pos 0) 65535 0)
unfolding rules
commits = (refl, refl, refl, refl, refl, refl)

-- "A differing second write drops the stage, changes nothing, answers -12": the next write is a first one
differs : (seen (Write 1285 7) (Write 1285 8 ∷ []) ≡ gives (refused 12) 0 0)
    × (seen (Write 1285 7) (Write 1285 0 ∷ []) ≡ gives (refused 12) 0 0)
    × (seen (Write 1285 0) (Write 1285 1 ∷ []) ≡ gives (refused 12) 0 0)
    × (seen (Write 1285 7) (Write 1285 8 ∷ Write 1285 8 ∷ []) ≡ gives (pos 0) 0 9)
    × (acts (new_handler 1) (Write 1285 7 ∷ Write 1285 8 ∷ []) ≡ new_handler 1)
unfolding rules
differs = (refl, refl, refl, refl, refl)

-- "A read of that register drops its stage", and of no other; it gives the value that the register holds
reads : (seen (Write 1285 7) (Read 1285 ∷ []) ≡ gives (pos 0) 0 0)
    × (seen (Write 1285 7) (Read 1285 ∷ Write 1285 7 ∷ []) ≡ gives (pos 0) 0 8)
    × (seen (Write 1285 7) (Read 1285 ∷ Write 1285 8 ∷ []) ≡ gives (pos 0) 0 9)
    × (seen (Write 1285 7) (Read 1301 ∷ Read 1286 ∷ Read 0 ∷ Read 1281 ∷ []) ≡ gives (pos 0x393C) 0 8)
    × (seen (Write 1285 7) (Access.Nothing ∷ []) ≡ gives (pos 0) 0 8)
unfolding rules
reads = (refl, refl, refl, refl, refl)

-- "A write refused with 1, 2 or 4 touches no stage", nor one refused with 5
keeps : (seen (Write 1285 7) (Write 1285 65536 ∷ []) ≡ gives (refused 4) 0 8)
    × (seen (Write 1285 7) (Write 1285 65536 ∷ Write 1285 7 ∷ []) ≡ gives (pos 0) 7 0)
    × (seen (Write 1285 7) (Write 1284 7 ∷ []) ≡ gives (refused 2) 0 8)
    × (seen (Write 1285 7) (Read 1283 ∷ []) ≡ gives (refused 2) 0 8)
    × (seen (Write 1285 7) (Write 1293 7 ∷ []) ≡ gives (refused 1) 0 8)
    × (seen (Write 1285 7) (Access.Malformed ∷ []) ≡ gives (refused 5) 0 8)
unfolding rules
keeps = (refl, refl, refl, refl, refl, refl)

-- "one refused with 3 drops the stage of that register", and a lock neither commits nor drops; "12 comes last in the order"
locks : (seen (Write 1285 7) (Write 1280 0 ∷ []) ≡ gives (pos 0) 0 8)
    × (seen (Write 1285 7) (Write 1280 0 ∷ Write 1285 7 ∷ []) ≡ gives (refused 3) 0 0)
    × (seen (Write 1285 7) (Write 1280 0 ∷ Write 1285 8 ∷ []) ≡ gives (refused 3) 0 0)
    × (seen (Write 1285 7) (Write 1280 0 ∷ Write 1285 65536 ∷ []) ≡ gives (refused 4) 0 8)
    × (seen (Write 1285 7) (Write 1280 0 ∷ Write 1286 7 ∷ []) ≡ gives (refused 3) 0 8)
    × (seen (Write 1285 7) (Write 1280 0 ∷ Write 1280 1 ∷ []) ≡ gives (refused 3) 0 8)
    × (seen (Write 1285 7) (Write 1280 0 ∷ Read 1285 ∷ []) ≡ gives (pos 0) 0 0)
    × (seen (Write 1285 7) (Write 1280 0 ∷ Write 1285 7 ∷ Write 1285 7 ∷ []) ≡ gives (refused 3) 0 0)
unfolding rules
locks = (refl, refl, refl, refl, refl, refl, refl, refl)

-- one stage for each register: two registers interleaved
abbrev interleaved : Handler
interleaved = acts (new_handler 1) (Write 1285 7 ∷ Write 1286 9 ∷ Write 512 1 ∷ Write 768 3 ∷ Write 1285 7 ∷ Write 1286 9 ∷ Write 768 3 ∷ Write 512 1 ∷ [])

each_its_own : map (λ r. value interleaved (decode 1 r)) (1285 ∷ 1286 ∷ 512 ∷ 768 ∷ []) ≡ 7 ∷ 9 ∷ 1 ∷ 3 ∷ []
unfolding rules
each_its_own = refl

-- ── local 5 ──

abbrev holds : Handler → List Access → Register → ℕ
holds h xs q = value (run h (map rest xs)) q

-- "makes local 5 occur in that tick if enabled": cause, interrupt, ACCUM_CNT and trigger, in that tick and once
local_5 : (holds (watched 1) (Write 1285 7 ∷ Write 1285 8 ∷ []) (Local Field.Cause 5) ≡ 1)
    × (holds (watched 1) (Write 1285 7 ∷ Write 1285 8 ∷ []) (Only IntrState) ≡ 2)
    × (holds (watched 1) (Write 1285 7 ∷ Write 1285 8 ∷ []) (Block AccumCnt 1) ≡ 1)
    × (holds (watched 1) (Write 1285 7 ∷ Write 1285 8 ∷ []) (Block Setting.State 1) ≡ 4)
    × (holds (watched 1) (Write 1285 7 ∷ Write 1285 8 ∷ none ∷ none ∷ []) (Block AccumCnt 1) ≡ 1)
    × ((run (watched 1) (map rest (Write 1285 7 ∷ Write 1285 8 ∷ []))).locals.cause ≡ 0 ∷ 0 ∷ 0 ∷ 0 ∷ 0 ∷ 1 ∷ 0 ∷ [])
    × ((accessed (acts (watched 1) (Write 1285 7 ∷ [])) (Write 1285 8)).effects ≡ record { clears = 0; raises = 32; begins = false })
unfolding rules
local_5 = (refl, refl, refl, refl, refl, refl, refl)

-- ── "A staged value acts on nothing" ──

-- thresholds, EN and CTRL that are staged leave an event as it was
inert : (value (run (ready 9) (rest (Write 1285 0) ∷ raise 0 none ∷ [])) (Block Setting.State 0) ≡ 0)
    × (value (run (ready 0) (rest (Write 1285 9) ∷ raise 0 none ∷ [])) (Block Setting.State 0) ≡ 4)
    × (value (run (ready 9) (rest (Write 512 0) ∷ raise 0 none ∷ [])) (Block AccumCnt 0) ≡ 1)
    × (value (run (ready 9) (rest (Write 768 3) ∷ raise 0 none ∷ [])) (Only IntrState) ≡ 1)
    × (value (run (ready 9) (rest (Write 1281 0) ∷ raise 0 none ∷ [])) (Block AccumCnt 0) ≡ 1)
    × (value (run (ready 9) (rest (Write 1286 1) ∷ raise 0 none ∷ [])) (Block Setting.State 0) ≡ 0)
    × ((ticked (run (ready 0) (rest (Write 1281 0) ∷ [])) (raise 0 none)).output.lines ≡ 1)
unfolding rules
inert = (refl, refl, refl, refl, refl, refl, refl)

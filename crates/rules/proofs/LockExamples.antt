-- Worked examples that pin request (vii), refusal 14, by computation.
-- Assumes nothing.
use Prim.Native.Nat.{ℕ, ◌+◌, ◌*◌}
use mathlib.Core.Path.{◌≡◌, refl}
use mathlib.Core.Bool.{false}
use mathlib.Core.List.{List, [], ◌∷◌, map}
use lib.IntN.{pos}
use lib.ListN.{set, replicate}
use Rattle.rules.specs.Access.{acted, effects}
use Rattle.rules.specs.State.{no_stages, with_stages}
use Rattle.rules.specs.declared.Access.TheVariants.{Read, Write}
use Rattle.rules.specs.declared.Handler.{Handler}
use Rattle.rules.specs.Scenes.{rest, gives, refused}
use Rattle.rules.proofs.Scenes.{rules, acts, answers, settings, zeros, station}

-- class k with this CTRL and ACCUM_THRESH, and the number of its REGWEN
abbrev with : ℕ → ℕ → ℕ → Handler
with k ctrl thresh = station 1 (replicate 248 0) (replicate 248 0) k (settings ctrl thresh 0 zeros)

-- "Writing 0 to a class REGWEN is refused with 14 while EN is 1, ACCUM_THRESH is 65535": of any class, with and without lines, by that class alone
silly : (map (λ (k : ℕ). answers (with k 0x393D 65535) (Write (1280 + 16 * k) 0)) (0 ∷ 1 ∷ 2 ∷ 3 ∷ []) ≡ replicate 4 (refused 14))
    × (answers (with 0 1 65535) (Write 1280 0) ≡ refused 14)
    × (map (λ (v : ℕ). answers (with 0 0x393D v) (Write 1280 0)) (0 ∷ 65534 ∷ 32767 ∷ []) ≡ replicate 3 (pos 0))
    × (answers (with 0 0x393E 65535) (Write 1280 0) ≡ pos 0)
    × (answers (with 1 0x393D 65535) (Write 1280 0) ≡ pos 0)
    × (acted (with 0 0x393D 65535) (Write 1280 0) ≡ with 0 0x393D 65535)
unfolding rules
silly = (refl, refl, refl, refl, refl, refl)

-- "14 follows 4", and it is a 0 that locks; "REGWEN is still 1": a locked one takes a 0 again; other locks are not asked
others : (answers (with 0 0x393D 65535) (Write 1280 2) ≡ refused 4)
    × (answers (with 0 0x393D 65535) (Write 1280 1) ≡ pos 0)
    × (answers (acted (with 0 0x393D 65534) (Write 1280 0)) (Write 1280 0) ≡ pos 0)
    × (answers (with 0 0x393D 65535) (Write 1282 0) ≡ pos 0)
    × (answers (with 0 0x393D 65535) (Write 256 0) ≡ pos 0)
    × (answers (with 0 0x393D 65535) (Write 16 0) ≡ pos 0)
    × (gives (with 0 0x393D 65535) (rest (Write 1280 0)) ≡ refused 14)
unfolding rules
others = (refl, refl, refl, refl, refl, refl, refl)

-- by that class alone, row by row, and of each class with no lines and with the next lower threshold
abbrev classes : List ℕ
classes = 0 ∷ 1 ∷ 2 ∷ 3 ∷ []

alone : (map (λ k. map (λ j. answers (with k 0x393D 65535) (Write (1280 + 16 * j) 0)) classes) classes
    ≡ map (λ k. set (replicate 4 (pos 0)) k (refused 14)) classes)
    × (map (λ (k : ℕ). answers (with k 1 65535) (Write (1280 + 16 * k) 0)) classes ≡ replicate 4 (refused 14))
    × (map (λ (k : ℕ). answers (with k 0x393D 65534) (Write (1280 + 16 * k) 0)) classes ≡ replicate 4 (pos 0))
unfolding rules
alone = (refl, refl, refl)

-- in each state, whatever TIMEOUT_CYC, ACCUM_CNT and the stages are, and no local alert is raised
abbrev busy : ℕ → ℕ → ℕ → Handler
busy ctrl thresh state =
    with_stages
    (record {
      classes = replicate 4 (record { lengths = replicate 4 10; timeout = 10; ctrl = 10; thresh = 10 });
      alerts = no_stages.alerts;
      locals = no_stages.locals;
      timeout = 10;
    })
    (station 1 (replicate 248 0) (replicate 248 0) 3
    (record { lengths = replicate 4 9; timeout = 9; count = 5; ctrl = ctrl; accum = 65535; thresh = thresh; regwen = 1; clrwen = 0; state = state }))

abbrev states : List ℕ
states = 0 ∷ 1 ∷ 3 ∷ 4 ∷ 5 ∷ 6 ∷ 7 ∷ []

each_state : (map (λ s. answers (busy 0x393D 65535 s) (Write 1328 0)) states ≡ replicate 7 (refused 14))
    × (map (λ s. answers (busy 0x393D 65534 s) (Write 1328 0)) states ≡ replicate 7 (pos 0))
    × (map (λ s. answers (busy 0x393C 65535 s) (Write 1328 0)) states ≡ replicate 7 (pos 0))
    × (acted (busy 0x393D 65535 4) (Write 1328 0) ≡ busy 0x393D 65535 4)
    × (effects (busy 0x393D 65535 4) (Write 1328 0) ≡ record { clears = 0; raises = 0; begins = false })
unfolding rules
each_state = (refl, refl, refl, refl, refl)

-- an already locked class that came in so: it takes a 0, and a 1 gets 3; 7 does not cover it
abbrev shut : Handler
shut =
    station 1 (replicate 248 0) (replicate 248 0) 0
    (record { lengths = zeros; timeout = 0; count = 0; ctrl = 0x393D; accum = 0; thresh = 65535; regwen = 0; clrwen = 1; state = 0 })

locked : (answers shut (Write 1280 0) ≡ pos 0) × (answers shut (Write 1280 1) ≡ refused 3) × (gives shut (rest (Write 1280 0)) ≡ pos 0)
unfolding rules
locked = (refl, refl, refl)

-- staged values do not count: not a staged 65535, nor a staged way out of it; 14 touches no stage
staged : (answers (acts (with 0 0x393D 7) (Write 1285 65535 ∷ [])) (Write 1280 0) ≡ pos 0)
    × (answers (acts (with 0 0x393D 65535) (Write 1285 7 ∷ [])) (Write 1280 0) ≡ refused 14)
    × (answers (acts (with 0 0x393C 65535) (Write 1281 0x393D ∷ [])) (Write 1280 0) ≡ pos 0)
    × (answers (acts (with 0 0x393D 65535) (Write 1285 7 ∷ Write 1280 0 ∷ Write 1285 7 ∷ [])) (Read 1285) ≡ pos 7)
unfolding rules
staged = (refl, refl, refl, refl)

-- Worked examples that pin request (v), shadow writes, at every register, by computation.
-- Assumes nothing.
use Prim.Native.Nat.{ℕ, ◌+◌, ◌-◌, ◌^◌}
use mathlib.Core.Path.{◌≡◌, refl}
use mathlib.Core.List.{List, [], ◌∷◌, ◌++◌, map}
use lib.ListN.{replicate}
use Rattle.bits.specs.Index.{each}
use Rattle.rules.specs.Access.{value, with_setting, acted, effects}
use Rattle.rules.specs.Map.{decode, bits}
use Rattle.rules.specs.Scenes.{refused}
use Rattle.rules.specs.Stages.{stage, with_stage}
use Rattle.rules.specs.State.{new_handler, no_stages, reset_class, with_locals, with_alerts, with_classes, with_stages, with_timer, with_local_column, with_alert_column}
use Rattle.rules.specs.declared.Access.TheVariants.{Read, Write}
use Rattle.rules.specs.declared.Field.{Field}
use Rattle.rules.specs.declared.Handler.{Handler}
use Rattle.rules.specs.declared.Setting.{Setting}
use Rattle.rules.specs.declared.Stages.{Stages}
use Rattle.rules.proofs.Scenes.{rules, acts, answers}

-- ── every shadowed register, and every other, by number: what it holds after one write and after two, of a handler of one alert ──

abbrev once : ℕ → ℕ → ℕ
once v r = value (acts (new_handler 1) (Write r v ∷ [])) (decode 1 r)

abbrev twice : ℕ → ℕ → ℕ
twice v r = value (acts (new_handler 1) (Write r v ∷ Write r v ∷ [])) (decode 1 r)

abbrev shadowed : List ℕ
shadowed = 5 ∷ 24 ∷ 30 ∷ 32 ∷ 38 ∷ 512 ∷ 768 ∷ 1285 ∷ 1286 ∷ 1287 ∷ 1288 ∷ 1289 ∷ 1290 ∷ 1333 ∷ 1334 ∷ 1335 ∷ 1338 ∷ []

two_writes : (map (once 1) shadowed ≡ replicate 17 0)
    × (map (twice 1) shadowed ≡ replicate 17 1)
    × (once 1 1281 ≡ 0x393C)
    × (twice 1 1281 ≡ 1)
    × (twice 0 1281 ≡ 0)
    × (twice (2 ^ 32 - 1) 1286 ≡ 2 ^ 32 - 1)
    × (map (once 0) (16 ∷ 256 ∷ 1280 ∷ 1282 ∷ []) ≡ replicate 4 0)
    × (once 9 1 ≡ 9)
unfolding rules
two_writes = (refl, refl, refl, refl, refl, refl, refl, refl)

-- ── each shadowed register of a handler of two alerts, by number ──

abbrev block : ℕ → List ℕ
block first = (first + 1) ∷ each 6 (λ o. first + 5 + o)

abbrev all : List ℕ
all = 5 ∷ each 7 (λ j. 24 + j) ++ each 7 (λ j. 32 + j) ++ 512 ∷ 513 ∷ 768 ∷ 769 ∷ block 1280 ++ block 1296 ++ block 1312 ++ block 1328

-- and those that are not shadowed, or not there
abbrev unshadowed : List ℕ
unshadowed = 0 ∷ 1 ∷ 2 ∷ 3 ∷ 4 ∷ 6 ∷ 16 ∷ 22 ∷ 40 ∷ 46 ∷ 256 ∷ 257 ∷ 514 ∷ 1024 ∷ 1280 ∷ 1282 ∷ 1283 ∷ 1284 ∷ 1291 ∷ 1292 ∷ 1328 ∷ 1340 ∷ []

-- after a first write of 1 to it: its stage; the stage after a write of 0, of 2^32 and after a read; what a 0 raises; and what it holds after a 1
abbrev story : ℕ → List ℕ
story r =
    let q = decode 2 r in
    let h = acted (new_handler 2) (Write r 1) in
    let g = acted h (Write r 0) in
    stage h q ∷ stage g q ∷ stage (acted h (Write r (2 ^ 32))) q ∷ stage (acted h (Read r)) q ∷ (effects h (Write r 0)).raises ∷ value (acted h (Write r 1)) q ∷ []

each_register : map story all ≡ replicate 47 (2 ∷ 0 ∷ 2 ∷ 0 ∷ 32 ∷ 1 ∷ [])
unfolding rules
each_register = refl

-- the first write leaves what it held; a second one that differs in its highest bit alone gets 12
highest : (map (λ r. value (acted (new_handler 2) (Write r 1)) (decode 2 r)) all ≡ map (λ r. value (new_handler 2) (decode 2 r)) all)
    × (map (λ r. answers (acted (new_handler 2) (Write r 0)) (Write r (2 ^ (bits (decode 2 r) - 1)))) all ≡ replicate 47 (refused 12))
unfolding rules
highest = (refl, refl)

-- with every lock at 0 and a 1 staged: the stage after a write of 1, of 0 and after a read, and what the writes raise
abbrev shut : ℕ → Handler
shut r =
    let h = new_handler 2 in
    with_stages (with_stage (decode 2 r) 2 no_stages)
    (with_classes (replicate 4 (with_setting Setting.Regwen 0 reset_class))
    (with_locals (with_local_column Field.Regwen (replicate 7 0) h.locals)
    (with_alerts (with_alert_column Field.Regwen (replicate 248 0) h.alerts) (with_timer (record { timeout = 0; regwen = 0; enable = 0 }) h))))

abbrev locked_story : ℕ → List ℕ
locked_story r =
    let q = decode 2 r in
    let h = shut r in
    stage (acted h (Write r 1)) q ∷ stage (acted h (Write r 0)) q ∷ stage (acted h (Read r)) q ∷ (effects h (Write r 1)).raises ∷ (effects h (Write r 0)).raises ∷ []

each_locked : (map locked_story all ≡ replicate 47 (replicate 5 0)) × (map (λ r. answers (shut r) (Write r 1)) all ≡ replicate 47 (refused 3))
unfolding rules
each_locked = (refl, refl)

-- with a 1 staged at every register: a read and a differing write drop the stage of their register, an equal write commits, and every other one stays
abbrev opened : Handler
opened =
    with_stages
    (record {
      classes = replicate 4 (record { lengths = replicate 4 2; timeout = 2; ctrl = 2; thresh = 2 });
      alerts = record { en = replicate 248 2; class = replicate 248 2 };
      locals = record { en = replicate 7 2; class = replicate 7 2 };
      timeout = 2;
    })
    (new_handler 2)

abbrev without : ℕ → Stages
without r = with_stage (decode 2 r) 0 opened.stages

other_stages : (map (λ r. (acted opened (Read r)).stages) all ≡ map without all)
    × (map (λ r. (acted opened (Write r 0)).stages) all ≡ map without all)
    × (map (λ r. (acted opened (Write r 1)).stages) all ≡ map without all)
    × (map (λ r. (acted opened (Read r)).stages) unshadowed ≡ map (λ _. opened.stages) unshadowed)
    × (map (λ r. (acted opened (Write r 0)).stages) unshadowed ≡ map (λ _. opened.stages) unshadowed)
unfolding rules
other_stages = (refl, refl, refl, refl, refl)

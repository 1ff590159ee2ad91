-- Worked examples that pin where each stage stands, by computation.
-- Assumes nothing.
use Prim.Native.Nat.{ℕ, ◌+◌, ◌-◌, ◌^◌}
use mathlib.Core.Path.{◌≡◌, refl}
use mathlib.Core.Bool.{true, false}
use mathlib.Core.List.{List, [], ◌∷◌, map}
use lib.ListN.{set, replicate}
use Rattle.bits.specs.Index.{each}
use Rattle.class_rules.specs.declared.Class.{Class}
use Rattle.rules.specs.Map.{decode}
use Rattle.rules.specs.Stages.{stage_in, with_stage, dropped}
use Rattle.rules.specs.State.{new_handler, no_stages, with_stages}
use Rattle.rules.specs.Valid.{valid}
use Rattle.rules.specs.declared.Access.TheVariants.{Write}
use Rattle.rules.specs.declared.ClassStages.{ClassStages}
use Rattle.rules.specs.declared.Handler.{Handler}
use Rattle.rules.specs.declared.Register.TheVariants.{Only, Unassigned}
use Rattle.rules.specs.declared.Single.TheVariants.{IntrState, IntrEnable, IntrTest}
use Rattle.rules.specs.declared.Stages.{Stages}
use Rattle.rules.proofs.Scenes.{rules, acts}

-- ── one code for each register, all different ──

abbrev class_codes : ℕ → ClassStages
class_codes b = record { lengths = (b + 4) ∷ (b + 5) ∷ (b + 6) ∷ (b + 7) ∷ []; timeout = b + 3; ctrl = b + 1; thresh = b + 2 }

abbrev every : Stages
every =
    record {
      classes = class_codes 3000 ∷ class_codes 3100 ∷ class_codes 3200 ∷ class_codes 3300 ∷ [];
      alerts = record { en = each 248 (λ i. 1000 + i); class = each 248 (λ i. 2000 + i) };
      locals = record { en = each 7 (λ i. 100 + i); class = each 7 (λ i. 200 + i) };
      timeout = 300;
    }

-- by document 01's numbers, as request (iii) moved them
stands : (map (λ r. stage_in every (decode 248 r)) (24 ∷ 30 ∷ 32 ∷ 38 ∷ []) ≡ 100 ∷ 106 ∷ 200 ∷ 206 ∷ [])
    × (map (λ r. stage_in every (decode 248 r)) (512 ∷ 759 ∷ 768 ∷ 1015 ∷ []) ≡ 1000 ∷ 1247 ∷ 2000 ∷ 2247 ∷ [])
    × (map (λ r. stage_in every (decode 248 r)) (1281 ∷ 1285 ∷ 1286 ∷ 1287 ∷ 1288 ∷ 1289 ∷ 1290 ∷ []) ≡ each 7 (λ i. 3001 + i))
    × (map (λ r. stage_in every (decode 248 r)) (1329 ∷ 1333 ∷ 1334 ∷ 1335 ∷ 1336 ∷ 1337 ∷ 1338 ∷ []) ≡ each 7 (λ i. 3301 + i))
    × (map (stage_in every) (Only IntrState ∷ Only IntrEnable ∷ Only IntrTest ∷ Unassigned ∷ []) ≡ replicate 4 0)
    × (map (λ r. stage_in every (decode 248 r)) (4 ∷ 5 ∷ 6 ∷ []) ≡ 0 ∷ 300 ∷ 0 ∷ [])
    × (map (λ r. stage_in every (decode 248 r)) (16 ∷ 40 ∷ 256 ∷ 1024 ∷ 1280 ∷ 1282 ∷ 1283 ∷ 1284 ∷ 1291 ∷ 1292 ∷ []) ≡ replicate 10 0)
unfolding rules
stands = (refl, refl, refl, refl, refl, refl, refl)

-- ── a code put at one register, in raw fields ──

abbrev none : ClassStages
none = record { lengths = replicate 4 0; timeout = 0; ctrl = 0; thresh = 0 }

abbrev puts : ℕ → ℕ → Stages
puts r c = with_stage (decode 248 r) c no_stages

alerts_put : ((puts 759 2).alerts ≡ record { en = set (replicate 248 0) 247 2; class = replicate 248 0 })
    × ((puts 768 4).alerts ≡ record { en = replicate 248 0; class = set (replicate 248 0) 0 4 })
    × ((puts 30 2).locals ≡ record { en = set (replicate 7 0) 6 2; class = replicate 7 0 })
    × ((puts 32 4).locals ≡ record { en = replicate 7 0; class = set (replicate 7 0) 0 4 })
    × ((puts 30 2).alerts ≡ no_stages.alerts)
    × ((puts 759 2).locals ≡ no_stages.locals)
    × ((puts 759 2).classes ≡ no_stages.classes)
    × ((puts 30 2).classes ≡ no_stages.classes)
unfolding rules
alerts_put = (refl, refl, refl, refl, refl, refl, refl, refl)

classes_put : ((puts 1281 9).classes ≡ set (replicate 4 none) 0 (record { lengths = replicate 4 0; timeout = 0; ctrl = 9; thresh = 0 }))
    × ((puts 1301 9).classes ≡ set (replicate 4 none) 1 (record { lengths = replicate 4 0; timeout = 0; ctrl = 0; thresh = 9 }))
    × ((puts 1318 9).classes ≡ set (replicate 4 none) 2 (record { lengths = replicate 4 0; timeout = 9; ctrl = 0; thresh = 0 }))
    × ((puts 1335 9).classes ≡ set (replicate 4 none) 3 (record { lengths = 9 ∷ 0 ∷ 0 ∷ 0 ∷ []; timeout = 0; ctrl = 0; thresh = 0 }))
    × ((puts 1338 9).classes ≡ set (replicate 4 none) 3 (record { lengths = 0 ∷ 0 ∷ 0 ∷ 9 ∷ []; timeout = 0; ctrl = 0; thresh = 0 }))
    × ((puts 1338 9).alerts ≡ no_stages.alerts)
    × ((puts 1338 9).locals ≡ no_stages.locals)
    × (map (λ r. (puts r 9).timeout) (5 ∷ 512 ∷ 24 ∷ 1338 ∷ []) ≡ 9 ∷ 0 ∷ 0 ∷ 0 ∷ [])
    × ((puts 5 9).classes ≡ no_stages.classes)
unfolding rules
classes_put = (refl, refl, refl, refl, refl, refl, refl, refl, refl)

-- a register that is not shadowed has no place for one
not_shadowed : map (λ r. puts r 9) (0 ∷ 1 ∷ 2 ∷ 3 ∷ 4 ∷ 6 ∷ 16 ∷ 40 ∷ 256 ∷ 1024 ∷ 1280 ∷ 1282 ∷ 1283 ∷ 1284 ∷ 1291 ∷ 1292 ∷ []) ≡ replicate 16 no_stages
unfolding rules
not_shadowed = refl

-- a stage that is dropped, and no other
drops : ((dropped (decode 248 1333) every).classes ≡ class_codes 3000 ∷ class_codes 3100 ∷ class_codes 3200 ∷ record { lengths = 3304 ∷ 3305 ∷ 3306 ∷ 3307 ∷ []; timeout = 3303; ctrl = 3301; thresh = 0 } ∷ [])
    × (dropped (decode 248 1333) no_stages ≡ no_stages)
    × (map (λ r. stage_in (dropped (decode 248 512) every) (decode 248 r)) (512 ∷ 513 ∷ 768 ∷ 24 ∷ []) ≡ 0 ∷ 1001 ∷ 2000 ∷ 100 ∷ [])
unfolding rules
drops = (refl, refl, refl)

-- ── a lock leaves the stages of what it locks, and a write leaves every stage but its register's: EN of alerts 246 and 247, CLASS of 247, a threshold ──

abbrev staged : Handler
staged = acts (new_handler 248) (Write 758 1 ∷ Write 759 1 ∷ Write 1015 3 ∷ Write 1285 7 ∷ [])

abbrev codes : Handler → List ℕ
codes h = map (λ r. stage_in h.stages (decode 248 r)) (758 ∷ 759 ∷ 1015 ∷ 1285 ∷ [])

others_stay : (codes staged ≡ 2 ∷ 2 ∷ 4 ∷ 8 ∷ [])
    × (codes (acts staged (Write 503 0 ∷ Write 1280 0 ∷ [])) ≡ 2 ∷ 2 ∷ 4 ∷ 8 ∷ [])
    × (codes (acts staged (Write 758 1 ∷ [])) ≡ 0 ∷ 2 ∷ 4 ∷ 8 ∷ [])
    × (codes (acts staged (Write 759 1 ∷ [])) ≡ 2 ∷ 0 ∷ 4 ∷ 8 ∷ [])
unfolding rules
others_stay = (refl, refl, refl, refl)

-- ── request (v): "7 also covers a staged value over its field", of local alerts, classes and alerts below N ──

abbrev holding : ℕ → ℕ → Handler
holding r c = with_stages (with_stage (decode 248 r) c no_stages) (new_handler 5)

covers : (map (λ r. valid (holding r 2)) (24 ∷ 30 ∷ 512 ∷ 516 ∷ []) ≡ replicate 4 true)
    × (map (λ r. valid (holding r 3)) (24 ∷ 30 ∷ 512 ∷ 516 ∷ []) ≡ replicate 4 false)
    × (map (λ r. valid (holding r 4)) (32 ∷ 38 ∷ 768 ∷ 772 ∷ []) ≡ replicate 4 true)
    × (map (λ r. valid (holding r 5)) (32 ∷ 38 ∷ 768 ∷ 772 ∷ []) ≡ replicate 4 false)
    × (map (λ k. valid (holding (1281 + k) (2 ^ 14))) (0 ∷ 16 ∷ 32 ∷ 48 ∷ []) ≡ replicate 4 true)
    × (map (λ k. valid (holding (1281 + k) (2 ^ 14 + 1))) (0 ∷ 16 ∷ 32 ∷ 48 ∷ []) ≡ replicate 4 false)
    × (map (λ r. valid (holding r (2 ^ 16))) (5 ∷ 1285 ∷ []) ≡ replicate 2 true)
    × (map (λ r. valid (holding r (2 ^ 16 + 1))) (5 ∷ 1333 ∷ []) ≡ replicate 2 false)
    × (map (λ o. valid (holding (1328 + o) (2 ^ 32))) (6 ∷ 7 ∷ 8 ∷ 9 ∷ 10 ∷ []) ≡ replicate 5 true)
    × (map (λ o. valid (holding (1328 + o) (2 ^ 32 + 1))) (6 ∷ 7 ∷ 8 ∷ 9 ∷ 10 ∷ []) ≡ replicate 5 false)
    × (map (λ k. map (λ o. valid (holding (1285 + k + o) (2 ^ 32 + 1))) (0 ∷ 1 ∷ 2 ∷ 3 ∷ 4 ∷ 5 ∷ [])) (0 ∷ 16 ∷ 32 ∷ []) ≡ replicate 3 (replicate 6 false))
unfolding rules
covers = (refl, refl, refl, refl, refl, refl, refl, refl, refl, refl, refl)

-- entries at N and above are not looked at
above : map (λ r. valid (holding r 255)) (517 ∷ 759 ∷ 773 ∷ 1015 ∷ []) ≡ replicate 4 true
unfolding rules
above = refl

-- a state that is full: every register and every stage at the largest that its field holds, every lock open or shut
abbrev full_class : ℕ → Class
full_class regwen =
    record {
      lengths = replicate 4 (2 ^ 32 - 1);
      timeout = 2 ^ 32 - 1;
      count = 2 ^ 32 - 1;
      ctrl = 0x3FFF;
      accum = 65535;
      thresh = 65535;
      regwen = regwen;
      clrwen = regwen;
      state = 7;
    }

-- requests (viii) and (xi): any bits are receivers and senders; request (ix): of the open pings below N only that of the turn's alert, 4
abbrev ones64 : List ℕ
ones64 = replicate 4 (2 ^ 64 - 1)

abbrev ones32 : ℕ
ones32 = 2 ^ 32 - 1

abbrev full : ℕ → Handler
full regwen =
    record {
      n = 5;
      links =
          record {
            receivers = record { pausing = ones64; busy = ones64; level = ones64; pending = set ones64 0 (2 ^ 60 - 1) };
            turn = record { number = 254; alert = 4; count = 65535 };
            lines = 2 ^ 32 - 16;
            senders = record { on = ones32; first = ones32; last = ones32; deep = ones32; answer = ones32 };
            right = ones32;
          };
      classes = replicate 4 (full_class regwen);
      alerts = record { regwen = replicate 248 regwen; en = replicate 248 1; class = replicate 248 3; cause = replicate 248 1 };
      locals = record { regwen = replicate 7 regwen; en = replicate 7 1; class = replicate 7 3; cause = replicate 7 1 };
      interrupts = record { state = 15; enable = 15 };
      timer = record { timeout = 65535; regwen = regwen; enable = 1 };
      stages =
          record {
            classes = replicate 4 (record { lengths = replicate 4 (2 ^ 32); timeout = 2 ^ 32; ctrl = 2 ^ 14; thresh = 2 ^ 16 });
            alerts = record { en = replicate 248 2; class = replicate 248 4 };
            locals = record { en = replicate 7 2; class = replicate 7 4 };
            timeout = 2 ^ 16;
          };
    }

fits : (valid (full 0) ≡ true) × (valid (full 1) ≡ true)
unfolding rules
fits = (refl, refl)

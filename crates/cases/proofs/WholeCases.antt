-- P1 to P12 once more, taken from the list, each part of it: stations and accesses by register numbers, answers and registers in numbers. An entry that
-- says less does not give it.
-- Assumes nothing.
use Prim.Native.Nat.{ℕ}
use mathlib.Core.Path.{◌≡◌, ap}
use mathlib.Core.List.{List, [], ◌∷◌, ◌++◌, map}
use lib.IntN.{ℤ, pos, negsuc}
use lib.ListN.{replicate}
use Rattle.cases.specs.CaseList.{full}
use Rattle.cases.specs.CaseTicks.{changes}
use Rattle.cases.proofs.CaseList.{list12}
use Rattle.rules.proofs.Scenes.{rules}
use Rattle.rules.specs.Access.{value}
use Rattle.rules.specs.Answer.{number}
use Rattle.rules.specs.Run.{run, ticks}
use Rattle.rules.specs.Scenes.{rest, raise, both_high, none}
use Rattle.rules.specs.Stages.{stage}
use Rattle.rules.specs.State.{new_handler}
use Rattle.rules.specs.Tick.{ticked}
use Rattle.rules.specs.declared.Access.TheVariants.{Read, Write}
use Rattle.rules.specs.declared.Handler.{Handler}
use Rattle.rules.specs.declared.Input.{Input}
use Rattle.rules.specs.declared.Register.{Register}
use Rattle.rules.specs.declared.Register.TheVariants.{Only, Block}
use Rattle.rules.specs.declared.Setting.{Setting}
use Rattle.rules.specs.declared.Setting.TheVariants.{AccumCnt, AccumThresh}
use Rattle.rules.specs.declared.Single.TheVariants.{IntrState}
use Rattle.rules.specs.declared.Ticked.{Ticked}
use Rattle.trace_rules.proofs.TraceScenes.{traces}

-- ── stations: alert 0 enabled, class 0 with EN, LOCK and all lines, threshold and timeout; lengths; local 2 in class 1 ──

abbrev twice : ℕ → ℕ → List Input
twice r v = rest (Write r v) ∷ rest (Write r v) ∷ []

abbrev armed : ℕ → ℕ → Handler
armed thresh timeout = run (new_handler 1) (twice 512 1 ++ twice 1285 thresh ++ twice 1286 timeout ++ twice 1281 0x393F)

abbrev lasting : ℕ → ℕ → ℕ → ℕ → Handler
lasting a b c d = run (armed 0 0) (twice 1287 a ++ twice 1288 b ++ twice 1289 c ++ twice 1290 d)

abbrev sealed : Handler
sealed = run (new_handler 1) (twice 512 1 ++ twice 26 1 ++ twice 34 1 ++ twice 1297 0x393D)

abbrev two_events : Handler
two_events =
    run (armed 2 0)
    (raise 0 none ∷ rest none ∷ rest none ∷ rest none ∷ raise 0 none ∷ rest none ∷ rest none ∷ rest none ∷ rest (Write 0 1) ∷ [])

-- ── what is seen: the answer of each tick, and a register and its stage after each ──

abbrev said : Handler → List Input → List ℤ
said h xs = map (λ (t : Ticked). number t.answer) (ticks h xs)

abbrev held : Handler → List Input → Register → List ℕ
held h xs q = map (λ (t : Ticked). value t.handler q) (ticks h xs)

abbrev staged : Handler → List Input → Register → List ℕ
staged h xs q = map (λ (t : Ticked). stage t.handler q) (ticks h xs)

abbrev state : Register
state = Block Setting.State 0

abbrev accum : Register
accum = Block AccumCnt 0

-- ── the list ──

abbrev writes : List Input
writes = rest (Write 1285 65535) ∷ rest (Write 1285 65536) ∷ rest (Write 1285 65535) ∷ rest (Write 1285 65536) ∷ []

p1 : number (ticked (new_handler 1) (rest (Read 1281))).answer ≡ pos 0x393C
unfolding rules traces
p1 = list12.P1

p2 : (said (new_handler 1) (writes ++ (rest (Read 1285) ∷ [])) ≡ pos 0 ∷ negsuc 3 ∷ pos 0 ∷ negsuc 3 ∷ pos 65535 ∷ [])
    × (held (new_handler 1) writes (Block AccumThresh 0) ≡ 0 ∷ 0 ∷ 65535 ∷ 65535 ∷ [])
    × (staged (new_handler 1) writes (Block AccumThresh 0) ≡ 65536 ∷ 65536 ∷ 0 ∷ 0 ∷ [])
unfolding rules traces
p2 = (list12.P2, list12.P2_held, list12.P2_stage)

p3_p4 : said (new_handler 1)
    (rest (Write 1280 0) ∷ rest (Write 1281 1) ∷ rest (Read 1281) ∷ rest (Write 1280 1) ∷ rest (Write 1280 0) ∷ rest (Read 1280) ∷ [])
    ≡ pos 0 ∷ negsuc 2 ∷ pos 0x393C ∷ negsuc 2 ∷ pos 0 ∷ pos 0 ∷ []
unfolding rules traces
p3_p4 = list12.P3_P4

abbrev three_events : List Input
three_events =
    raise 0 none ∷ rest none ∷ rest none ∷ rest none ∷ raise 0 none ∷ rest none ∷ rest none ∷ rest none ∷ raise 0 none ∷ []

p5 : (held (armed 2 0) three_events state ≡ 0 ∷ 0 ∷ 0 ∷ 0 ∷ 0 ∷ 0 ∷ 0 ∷ 0 ∷ 4 ∷ [])
    × (held (armed 2 0) three_events accum ≡ 1 ∷ 1 ∷ 1 ∷ 1 ∷ 2 ∷ 2 ∷ 2 ∷ 2 ∷ 3 ∷ [])
unfolding rules
p5 = (list12.P5_state, list12.P5_accum)

p6 : (value full state ≡ 0)
    × (value full (Block AccumThresh 0) ≡ 65535)
    × (value full accum ≡ 65535)
    × (value (run full (raise 0 none ∷ [])) state ≡ 4)
    × (value (run full (raise 0 none ∷ [])) accum ≡ 65535)
unfolding rules
p6 = let b = list12.P6_before in let a = list12.P6 in (b.0, b.1, b.2, a.0, a.1)

p7 : changes 100 0 (held (lasting 0 10 10 5) (raise 0 none ∷ replicate 27 (rest none)) state) ≡ (100, 4) ∷ (101, 5) ∷ (111, 6) ∷ (121, 7) ∷ (126, 3) ∷ []
unfolding rules
p7 = list12.P7

p8 : (changes 7 0 (held (armed 9 1) (raise 0 none ∷ rest none ∷ []) state) ≡ (7, 1) ∷ (8, 4) ∷ [])
    × (held (armed 9 0) (raise 0 none ∷ rest none ∷ []) state ≡ 0 ∷ 0 ∷ [])
unfolding rules
p8 = (list12.P8.0, list12.P8.1)

abbrev cleared : Handler
cleared = run two_events (raise 0 (Write 1283 1) ∷ [])

p9_before :
    (value (run two_events []) state ≡ 0)
    × (value (run two_events []) (Block AccumThresh 0) ≡ 2)
    × (value (run two_events []) accum ≡ 2)
    × (value (run two_events []) (Only IntrState) ≡ 0)
unfolding rules
p9_before = let b = list12.P9_before in (b.0, b.1, b.2, b.3)

p9_answer : said two_events (raise 0 (Write 1283 1) ∷ []) ≡ pos 0 ∷ []
unfolding rules
p9_answer = ap (λ (z : ℤ). z ∷ []) list12.P9.0

p9_cleared : (value cleared accum ≡ 0) × (value cleared state ≡ 0) × (value cleared (Only IntrState) ≡ 1)
unfolding rules
p9_cleared = let a = list12.P9 in (a.1, a.2, a.3)

p9_start : value (run two_events (raise 0 none ∷ [])) state ≡ 4
unfolding rules
p9_start = list12.P9_start

p10 : (said (armed 0 0) (raise 0 none ∷ rest (Write 1283 1) ∷ []) ≡ pos 0 ∷ negsuc 2 ∷ [])
    × (held (lasting 5 5 5 5) (raise 0 none ∷ rest (Write 1283 1) ∷ []) state ≡ 4 ∷ 4 ∷ [])
unfolding rules
p10 = (list12.P10.0, list12.P10.1)

p11 : said sealed (both_high 0 (Read 42) ∷ rest (Read 42) ∷ []) ≡ pos 0 ∷ pos 1 ∷ []
unfolding rules traces
p11 = list12.P11

p12 : held (armed 9 0) (raise 0 none ∷ rest none ∷ rest none ∷ rest none ∷ raise 0 (Write 0 1) ∷ rest (Write 0 1) ∷ []) (Only IntrState)
    ≡ 1 ∷ 1 ∷ 1 ∷ 1 ∷ 1 ∷ 0 ∷ []
unfolding rules
p12 = list12.P12

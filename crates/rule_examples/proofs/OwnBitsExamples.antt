-- Worked examples that pin what reaches one class alone, each tried for all four: an interrupt bit, a local alert, a LOCK, a dropped stage, by computation
-- (request (x) rests on it).
-- Assumes nothing.
use Prim.Native.Nat.{ℕ, ◌+◌, ◌-◌}
use mathlib.Core.Path.{◌≡◌, refl}
use mathlib.Core.Bool.{cond}
use mathlib.Core.List.{List, [], ◌∷◌, map}
use lib.Dec.{eqb}
use lib.ListN.{replicate}
use Rattle.rules.specs.Access.{value}
use Rattle.rules.specs.Map.{number_of}
use Rattle.rules.specs.Run.{run}
use Rattle.rules.specs.Stages.{stage}
use Rattle.rules.specs.State.{reset_class, with_classes, with_locals}
use Rattle.rules.specs.declared.Access.{Access}
use Rattle.rules.specs.declared.Handler.{Handler}
use Rattle.rules.specs.declared.Register.TheVariants.{Only, Block}
use Rattle.rules.specs.declared.Setting.{Setting}
use Rattle.rules.specs.declared.Setting.TheVariants.{ClrRegwen, Clr, AccumCnt, AccumThresh}
use Rattle.rules.specs.Scenes.{ones, wired, wire, rest, raise, pause, both_high, none, write}
use Rattle.rules.specs.declared.Single.TheVariants.{IntrState, IntrTest}
use Rattle.rules.proofs.Scenes.{rules, settings, station}
use Rattle.rule_examples.proofs.SoundLines.{run_soundly}

-- ── alert k is enabled in class k; the classes have EN, LOCK, all lines and these thresholds and timeouts; local alerts are of one class ──

abbrev four : List ℕ → ℕ → ℕ → Handler
four thresholds timeout j =
    with_locals (record { regwen = replicate 7 1; en = replicate 7 1; class = replicate 7 j; cause = replicate 7 0 })
    (with_classes (map (λ t. settings 0x393F t timeout (99 ∷ 0 ∷ 0 ∷ 0 ∷ [])) thresholds)
    (station 4 (1 ∷ 1 ∷ 1 ∷ 1 ∷ replicate 244 0) (0 ∷ 1 ∷ 2 ∷ 3 ∷ replicate 244 0) 0 reset_class))

-- register s of each class; the state after these accesses, with the wires at rest and the lines answered, so that local 3 stays away
abbrev seen : Setting → Handler → List ℕ
seen s h = map (λ k. value h (Block s k)) (0 ∷ 1 ∷ 2 ∷ 3 ∷ [])

abbrev accesses : Handler → List Access → Handler
accesses h xs = run_soundly h (map rest xs)

-- 1 for class k, 0 for the others
abbrev only : List (List ℕ)
only = (1 ∷ 0 ∷ 0 ∷ 0 ∷ []) ∷ (0 ∷ 1 ∷ 0 ∷ 0 ∷ []) ∷ (0 ∷ 0 ∷ 1 ∷ 0 ∷ []) ∷ (0 ∷ 0 ∷ 0 ∷ 1 ∷ []) ∷ []

abbrev but_one : List (List ℕ)
but_one = (0 ∷ 1 ∷ 1 ∷ 1 ∷ []) ∷ (1 ∷ 0 ∷ 1 ∷ 1 ∷ []) ∷ (1 ∷ 1 ∷ 0 ∷ 1 ∷ []) ∷ (1 ∷ 1 ∷ 1 ∷ 0 ∷ []) ∷ []

abbrev bit_of : List ℕ
bit_of = 1 ∷ 2 ∷ 4 ∷ 8 ∷ []

-- ── "due" reads its own interrupt bit, which INTR_TEST sets and INTR_STATE clears for that class alone: STATE 1 is Timeout ──

tests_own : map (λ v. seen Setting.State (accesses (four (replicate 4 9) 50 0) (write (Only IntrTest) v ∷ none ∷ []))) bit_of ≡ only
unfolding rules
tests_own = refl

clears_own_bit : map (λ v. seen Setting.State (accesses (four (replicate 4 9) 50 0) (write (Only IntrTest) 15 ∷ write (Only IntrState) v ∷ []))) bit_of ≡ but_one
unfolding rules
clears_own_bit = refl

bits_own : (map (λ v. value (accesses (four (replicate 4 9) 50 0) (write (Only IntrTest) v ∷ [])) (Only IntrState)) bit_of ≡ bit_of)
    × (map (λ v. value (accesses (four (replicate 4 9) 50 0) (write (Only IntrTest) 15 ∷ write (Only IntrState) v ∷ [])) (Only IntrState)) bit_of ≡ 14 ∷ 13 ∷ 11 ∷ 7 ∷ [])
unfolding rules
bits_own = (refl, refl)

-- ── a local alert is of its class alone: local 2 by equal wires, local 5 by a differing second write to class 0's block, by which class 0 has no event ──

local_2_own : map (λ j. seen AccumCnt (run (four (replicate 4 9) 0 j) (both_high 0 none ∷ []))) (0 ∷ 1 ∷ 2 ∷ 3 ∷ []) ≡ only
unfolding rules
local_2_own = refl

local_5_own : map (λ j. seen AccumCnt (accesses (four (replicate 4 9) 0 j) (write (Block AccumThresh 0) 7 ∷ write (Block AccumThresh 0) 8 ∷ []))) (0 ∷ 1 ∷ 2 ∷ 3 ∷ [])
    ≡ only
unfolding rules
local_5_own = refl

-- ── a start under LOCK makes the class's own CLR_REGWEN 0; its event is of no other class, and does not wait for another class's timeout ──

abbrev all : Handler
all = run (four (replicate 4 9) 50 0) (wired (wire 0 + wire 1 + wire 2 + wire 3) (ones - wire 0 - wire 1 - wire 2 - wire 3) none ∷ pause)

locks_own : map (λ i. seen ClrRegwen (run (four (replicate 4 0) 0 0) (raise i none ∷ []))) (0 ∷ 1 ∷ 2 ∷ 3 ∷ []) ≡ but_one
unfolding rules
locks_own = refl

-- all four are in Timeout with one event counted, their receivers ready again; the second event of one
counts_in_timeout : (seen Setting.State all ≡ replicate 4 1)
    × (map (λ i. seen AccumCnt (run all (raise i none ∷ []))) (0 ∷ 1 ∷ 2 ∷ 3 ∷ [])
    ≡ (2 ∷ 1 ∷ 1 ∷ 1 ∷ []) ∷ (1 ∷ 2 ∷ 1 ∷ 1 ∷ []) ∷ (1 ∷ 1 ∷ 2 ∷ 1 ∷ []) ∷ (1 ∷ 1 ∷ 1 ∷ 2 ∷ []) ∷ [])
unfolding rules
counts_in_timeout = (refl, refl)

-- ── a read, and a differing write, drop the stage of the block that they name ──

abbrev staged : Handler
staged = accesses (four (replicate 4 9) 0 0) (map (λ k. write (Block AccumThresh k) 0) (0 ∷ 1 ∷ 2 ∷ 3 ∷ []))

abbrev open_in : Access → List ℕ
open_in a = map (λ k. stage (accesses staged (a ∷ [])) (Block AccumThresh k)) (0 ∷ 1 ∷ 2 ∷ 3 ∷ [])

drops_own : (map (λ k. open_in (Access.Read (number_of (Block AccumThresh k)))) (0 ∷ 1 ∷ 2 ∷ 3 ∷ []) ≡ but_one)
    × (map (λ k. open_in (write (Block AccumThresh k) 5)) (0 ∷ 1 ∷ 2 ∷ 3 ∷ []) ≡ but_one)
unfolding rules
drops_own = (refl, refl)

-- ── phase lengths and timeouts are its own: four classes that start, or come into Timeout, in one tick and each go on at their own ──

abbrev paced : (ℕ → ℕ) → (ℕ → ℕ) → Handler
paced timeout length =
    with_classes (map (λ k. settings 0x393D 0 (timeout k) (length k ∷ 99 ∷ 0 ∷ 0 ∷ [])) (0 ∷ 1 ∷ 2 ∷ 3 ∷ [])) (four (replicate 4 0) 0 0)

abbrev after : ℕ → Handler → List ℕ
after n h = seen Setting.State (accesses h (replicate n none))

lengths_own : map (λ n. after n (run (paced (λ k. 0) (λ k. 4 - k)) (wired (wire 0 + wire 1 + wire 2 + wire 3) (ones - wire 0 - wire 1 - wire 2 - wire 3) none ∷ []))) (0 ∷ 1 ∷ 2 ∷ 3 ∷ 4 ∷ [])
    ≡ (4 ∷ 4 ∷ 4 ∷ 4 ∷ []) ∷ (4 ∷ 4 ∷ 4 ∷ 5 ∷ []) ∷ (4 ∷ 4 ∷ 5 ∷ 5 ∷ []) ∷ (4 ∷ 5 ∷ 5 ∷ 5 ∷ []) ∷ (5 ∷ 5 ∷ 5 ∷ 5 ∷ []) ∷ []
unfolding rules
lengths_own = refl

timeouts_own : map (λ n. after n (accesses (paced (λ k. 4 - k) (λ k. 99)) (write (Only IntrTest) 15 ∷ []))) (0 ∷ 1 ∷ 2 ∷ 3 ∷ 4 ∷ [])
    ≡ (1 ∷ 1 ∷ 1 ∷ 1 ∷ []) ∷ (1 ∷ 1 ∷ 1 ∷ 4 ∷ []) ∷ (1 ∷ 1 ∷ 4 ∷ 4 ∷ []) ∷ (1 ∷ 4 ∷ 4 ∷ 4 ∷ []) ∷ (4 ∷ 4 ∷ 4 ∷ 4 ∷ []) ∷ []
unfolding rules
timeouts_own = refl

-- ── CTRL is its own: of four classes with events in one tick, the one that has EN counts ──

abbrev enabled : ℕ → Handler
enabled j = with_classes (map (λ k. settings (cond (eqb k j) 0x393D 0x393C) 0 0 (replicate 4 0)) (0 ∷ 1 ∷ 2 ∷ 3 ∷ [])) (four (replicate 4 0) 0 0)

ctrls_own : map (λ j. seen AccumCnt (run (enabled j) (wired (wire 0 + wire 1 + wire 2 + wire 3) (ones - wire 0 - wire 1 - wire 2 - wire 3) none ∷ []))) (0 ∷ 1 ∷ 2 ∷ 3 ∷ []) ≡ only
unfolding rules
ctrls_own = refl

-- ── a clear is of its own class, tried for all four: ACCUM_CNT is 0 there and 1 in the others ──

clears_each : map (λ k. seen AccumCnt (run_soundly (paced (λ j. 0) (λ j. 99)) (wired (wire 0 + wire 1 + wire 2 + wire 3) (ones - wire 0 - wire 1 - wire 2 - wire 3) none ∷ rest (write (Block Clr k) 1) ∷ []))) (0 ∷ 1 ∷ 2 ∷ 3 ∷ [])
    ≡ but_one
unfolding rules
clears_each = refl

-- Worked examples that pin step 2, the samples, by computation.
-- Assumes nothing.
use Prim.Native.Nat.{ℕ, suc, ◌+◌, ◌-◌}
use mathlib.Core.Path.{◌≡◌, refl}
use mathlib.Core.List.{List, [], ◌∷◌, ◌++◌, map}
use lib.IntN.{pos}
use lib.ListN.{set, replicate}
use Rattle.link_rules.specs.declared.Handshake.TheVariants.{Acknowledged}
use Rattle.rules.specs.Access.{value}
use Rattle.rules.specs.Run.{run}
use Rattle.rules.specs.State.{new_handler, local, alert, receiver, with_locals}
use Rattle.rules.specs.Tick.{after}
use Rattle.rules.specs.declared.Access.{Access}
use Rattle.rules.specs.declared.Field.{Field}
use Rattle.rules.specs.declared.Handler.{Handler}
use Rattle.rules.specs.declared.Input.{Input}
use Rattle.rules.specs.declared.Register.{Register}
use Rattle.rules.specs.declared.Register.TheVariants.{Only, Local, Alert, Block}
use Rattle.rules.specs.declared.Setting.TheVariants.{AccumCnt}
use Rattle.rules.specs.Scenes.{ones, wired, wire, rest, raise, pause, both_high, both_low, none, write, gives}
use Rattle.rules.specs.declared.Single.TheVariants.{IntrState}
use Rattle.rules.proofs.Scenes.{rules, settings, zeros, station, ready}

abbrev holds : Handler → List Input → Register → ℕ
holds h xs q = value (run h xs) q

abbrev accum : Handler → List Input → ℕ
accum h xs = holds h xs (Block AccumCnt 0)

-- a disabled alert's receiver runs as any other, so that one enabled in the middle of a handshake has no event for the rise before, and has one for the next
abbrev off : Handler
off = station 1 (replicate 248 0) (replicate 248 0) 0 (settings 0x393F 0 0 zeros)

abbrev enable : Access
enable = write (Alert Field.En 0) 1

disabled : ((receiver (run off (raise 0 none ∷ [])) 0).stands ≡ Acknowledged)
    × (holds off (rest enable ∷ raise 0 none ∷ raise 0 enable ∷ []) (Alert Field.Cause 0) ≡ 0)
    × (holds off (rest enable ∷ raise 0 enable ∷ []) (Alert Field.Cause 0) ≡ 1)
    × (accum off (rest enable ∷ raise 0 none ∷ raise 0 enable ∷ []) ≡ 0)
    × (accum off (rest enable ∷ raise 0 none ∷ raise 0 enable ∷ pause ++ raise 0 none ∷ []) ≡ 1)
    × (holds off (raise 0 none ∷ []) (Alert Field.Cause 0) ≡ 0)
unfolding rules
disabled = (refl, refl, refl, refl, refl, refl)

-- "however many, it is one event": two alerts of a class in one tick
together : (accum (ready 9) (wired (wire 0 + wire 1) (ones - wire 0 - wire 1) none ∷ []) ≡ 1)
    × (holds (ready 9) (wired (wire 0 + wire 1) (ones - wire 0 - wire 1) none ∷ []) (Alert Field.Cause 1) ≡ 1)
unfolding rules
together = (refl, refl)

-- an alert's event with its class off sets its cause, and no interrupt
class_off : (holds (new_handler 1) (rest enable ∷ raise 0 enable ∷ []) (Alert Field.Cause 0) ≡ 1)
    × (holds (new_handler 1) (rest enable ∷ raise 0 enable ∷ []) (Only IntrState) ≡ 0)
    × (accum (new_handler 1) (rest enable ∷ raise 0 enable ∷ []) ≡ 0)
unfolding rules
class_off = (refl, refl, refl)

-- N = 248: each alert is at its own place of its own word, positive wires first; the two swapped are a fall. Every alert is enabled in class 2;
-- steps 1 to 4 alone, since refusal 7's look at 248 entries is no matter here
abbrev every : Handler
every = station 248 (replicate 248 1) (replicate 248 2) 2 (settings 5 0 0 zeros)

abbrev risen : ℕ → Handler
risen i = after every (raise i none)

-- what a rise of alert i leaves: its own cause, those of the alerts beside it, and the class's interrupt
abbrev marks : ℕ → List ℕ
marks i = let h = risen i in map (λ (k : ℕ). alert h Field.Cause k) ((i - 1) ∷ i ∷ suc i ∷ []) ++ (h.interrupts.state ∷ [])

places : (map marks (63 ∷ 64 ∷ 127 ∷ 128 ∷ 191 ∷ 192 ∷ 247 ∷ []) ≡ replicate 7 (0 ∷ 1 ∷ 0 ∷ 4 ∷ []))
    × (alert (after every (wired (ones - wire 247) (wire 247) none)) Field.Cause 247 ≡ 0)
unfolding rules
places = (refl, refl)

-- the state with local 2 enabled in class k
abbrev locals2 : ℕ → Handler → Handler
locals2 k h =
    with_locals (record { regwen = replicate 7 1; en = set (replicate 7 0) 2 1; class = set (replicate 7 0) 2 k; cause = replicate 7 0 }) h

-- "Samples at N and above count for nothing"
abbrev two : Handler
two = locals2 0 (station 2 (replicate 248 1) (replicate 248 0) 0 (settings 5 0 0 zeros))

above : (run two (wired (wire 2) (ones - wire 2) none ∷ []) ≡ run two (rest none ∷ []))
    × (run two (wired (ones - wire 0 - wire 1) ones none ∷ []) ≡ run two (rest none ∷ []))
unfolding rules
above = (refl, refl)

-- "If any enabled alert has equal wires and local 2 is enabled, local 2 occurs and sets its cause. A disabled local alert never occurs."
abbrev integrity : Handler
integrity = locals2 1 (station 2 (0 ∷ 1 ∷ replicate 246 0) (replicate 248 0) 0 (settings 0x393C 0 0 zeros))

abbrev on1 : Handler
on1 = locals2 1 (station 2 (0 ∷ 1 ∷ replicate 246 0) (replicate 248 0) 1 (settings 5 0 0 zeros))

-- equal wires of any alert raise local 2
broken : map (λ (i : ℕ). local (after (locals2 1 every) (both_high i none)) Field.Cause 2) (0 ∷ 63 ∷ 64 ∷ 127 ∷ 128 ∷ 191 ∷ 192 ∷ 247 ∷ [])
    ≡ replicate 8 1
unfolding rules
broken = refl

locals : (holds integrity (both_high 1 none ∷ []) (Local Field.Cause 2) ≡ 1)
    × (holds integrity (both_low 1 none ∷ []) (Local Field.Cause 2) ≡ 1)
    × (holds integrity (both_high 0 none ∷ []) (Local Field.Cause 2) ≡ 0)
    × (holds integrity (both_high 1 none ∷ []) (Alert Field.Cause 1) ≡ 0)
    × (holds integrity (both_high 1 none ∷ []) (Only IntrState) ≡ 0)
    × (holds on1 (both_high 1 none ∷ []) (Only IntrState) ≡ 2)
    × (holds on1 (both_high 1 none ∷ []) (Block AccumCnt 1) ≡ 1)
    × (holds on1 (raise 1 none ∷ []) (Local Field.Cause 2) ≡ 0)
    × (holds on1 (rest (write (Local Field.En 2) 0) ∷ both_high 1 (write (Local Field.En 2) 0) ∷ []) (Local Field.Cause 2) ≡ 0)
unfolding rules
locals = (refl, refl, refl, refl, refl, refl, refl, refl, refl)

-- of the wires only 2 comes: all local alerts enabled, all causes but that of 2 stay 0
abbrev all7 : Handler
all7 =
    with_locals (record { regwen = replicate 7 1; en = replicate 7 1; class = replicate 7 0; cause = replicate 7 0 })
    (station 1 (1 ∷ replicate 247 0) (replicate 248 0) 0 (settings 5 0 0 zeros))

only_2 : (run all7 (both_high 0 none ∷ [])).locals.cause ≡ 0 ∷ 0 ∷ 1 ∷ 0 ∷ 0 ∷ 0 ∷ 0 ∷ []
unfolding rules
only_2 = refl

-- P11: "Wires (1,1) on enabled alert 0, local 2 enabled in enabled class 1: register 42 reads 1 next tick"
abbrev seal : Handler
seal = locals2 1 (station 1 (1 ∷ replicate 247 0) (replicate 248 0) 1 (settings 5 0 0 zeros))

next_tick : (gives seal (both_high 0 (Access.Read 42)) ≡ pos 0) × (gives (run seal (both_high 0 none ∷ [])) (rest (Access.Read 42)) ≡ pos 1)
unfolding rules
next_tick = (refl, refl)

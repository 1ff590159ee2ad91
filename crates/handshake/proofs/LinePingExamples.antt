-- Request (xi) in a handler, computed: a ping of line 0 and what comes back, in short runs, with local 1 and local 3 beside it; and runs that show what is not
-- claimed.
-- Assumes nothing.
use Prim.Native.Nat.{ℕ, ◌-◌}
use mathlib.Core.Path.{◌≡◌, refl}
use mathlib.Core.Bool.{Bool, true, false}
use mathlib.Core.List.{List, [], ◌∷◌, map}
use lib.ListN.{replicate, set}
use Rattle.class_rules.specs.declared.Class.{Class}
use Rattle.rules.proofs.Scenes.{rules, settings}
use Rattle.rules.specs.Scenes.{ones, sampling, timing, none}
use Rattle.rules.specs.State.{new_handler, reset_class, with_classes, with_links, with_locals, with_timer}
use Rattle.rules.specs.declared.Handler.{Handler}
use Rattle.rules.specs.declared.Input.{Input}
use Rattle.rules.specs.declared.Receive.TheVariants.{Pairs}
use Rattle.handshake.specs.LinePings.{wrong_at, line_open, line_on}
use Rattle.handshake.specs.Pings.{line_opens, line_fails, line_answered, line_closes, sets, occurs_in}

-- the timer is on at this timeout, line 0's ping is due in tick 0, local 1 and local 3 are enabled in class A, and class A is as given
abbrev station : ℕ → Class → Handler
station timeout c =
    let h = new_handler 1 in
    with_timer (record { timeout = timeout; regwen = 1; enable = 1 })
    (with_classes (c ∷ reset_class ∷ reset_class ∷ reset_class ∷ [])
    (with_links (record { receivers = h.links.receivers; turn = record { number = 1; alert = 0; count = 0 }; lines = 0; senders = h.links.senders; right = 0 })
    (with_locals (record { regwen = replicate 7 1; en = set (set (replicate 7 0) 1 1) 3 1; class = replicate 7 0; cause = replicate 7 0 }) h)))

-- class A without EN: no event starts it
abbrev calm : ℕ → Handler
calm timeout = station timeout reset_class

-- ticks without access, line 0's receive pair at (1,0) or (0,1) as listed, the others at rest; the next turn is far
abbrev back : List ℕ → List Input
back ps = map (λ (p : ℕ). sampling 60000 (Pairs p (15 - p)) 0 ones none) ps

abbrev seen : (ℕ → Bool) → List Bool
seen f = map f (0 ∷ 1 ∷ 2 ∷ 3 ∷ 4 ∷ 5 ∷ [])

-- ── 1010 ──

abbrev right : List Input
right = back (0 ∷ 1 ∷ 0 ∷ 1 ∷ 0 ∷ 0 ∷ [])

answered : (seen (line_opens (calm 9) right 0) ≡ true ∷ replicate 5 false)
    × (seen (line_open (calm 9) right 0) ≡ true ∷ true ∷ true ∷ true ∷ true ∷ false ∷ [])
    × (seen (line_answered (calm 9) right 0) ≡ false ∷ false ∷ false ∷ false ∷ true ∷ false ∷ [])
    × (seen (occurs_in (calm 9) right 3) ≡ replicate 6 false)
unfolding rules
answered = (refl, refl, refl, refl)

-- a timeout of 4 leaves time for it, one of 3 does not: the ping fails, and the rest of a right answer is still right
in_time : (seen (line_fails (calm 4) right 0) ≡ replicate 6 false)
    × (seen (line_answered (calm 4) right 0) ≡ false ∷ false ∷ false ∷ false ∷ true ∷ false ∷ [])
    × (seen (line_fails (calm 3) right 0) ≡ false ∷ false ∷ false ∷ true ∷ false ∷ false ∷ [])
    × (seen (occurs_in (calm 3) right 1) ≡ false ∷ false ∷ false ∷ true ∷ false ∷ false ∷ [])
    × (seen (occurs_in (calm 3) right 3) ≡ replicate 6 false)
unfolding rules
in_time = (refl, refl, refl, refl, refl)

-- ── no answer: local 3 where a 1 is missing, local 1 on the timeout; at timeout 0 it stays open ──

abbrev silence : List Input
silence = back (replicate 6 0)

missing : (seen (occurs_in (calm 5) silence 3) ≡ false ∷ true ∷ false ∷ true ∷ false ∷ false ∷ [])
    × (seen (occurs_in (calm 5) silence 1) ≡ false ∷ false ∷ false ∷ false ∷ false ∷ true ∷ [])
    × (seen (line_open (calm 0) silence 0) ≡ replicate 6 true)
    × (seen (occurs_in (calm 0) silence 1) ≡ replicate 6 false)
unfolding rules
missing = (refl, refl, refl, refl)

-- one wrong tick, and it is never answered
abbrev once : List Input
once = back (0 ∷ 1 ∷ 1 ∷ 1 ∷ 0 ∷ 0 ∷ [])

never : (seen (wrong_at (calm 5) once 0) ≡ false ∷ false ∷ true ∷ false ∷ false ∷ false ∷ [])
    × (seen (line_answered (calm 5) once 0) ≡ replicate 6 false)
    × (seen (line_fails (calm 5) once 0) ≡ false ∷ false ∷ false ∷ false ∷ false ∷ true ∷ [])
unfolding rules
never = (refl, refl, refl)

-- ── an escalation ──

-- class A starts at an event: local 3 of the answer that is missing in tick 1 puts line 0 on, which closes the ping unfailed, and local 1 never occurs
abbrev armed : ℕ → Handler
armed timeout = station timeout (settings 0x393F 0 0 (9 ∷ 0 ∷ 0 ∷ 0 ∷ []))

wins : (seen (line_on (armed 2) silence 0) ≡ false ∷ true ∷ true ∷ true ∷ true ∷ true ∷ [])
    × (seen (line_closes (armed 2) silence 0) ≡ false ∷ true ∷ false ∷ false ∷ false ∷ false ∷ [])
    × (seen (line_fails (armed 2) silence 0) ≡ replicate 6 false)
    × (seen (sets (armed 2) silence) ≡ false ∷ true ∷ false ∷ false ∷ false ∷ false ∷ [])
unfolding rules
wins = (refl, refl, refl, refl)

-- in the tick in which the timeout is reached it fails all the same
too_late : (seen (line_on (armed 1) silence 0) ≡ false ∷ true ∷ true ∷ true ∷ true ∷ true ∷ [])
    × (seen (line_fails (armed 1) silence 0) ≡ false ∷ true ∷ false ∷ false ∷ false ∷ false ∷ [])
    × (seen (occurs_in (armed 1) silence 1) ≡ false ∷ true ∷ false ∷ false ∷ false ∷ false ∷ [])
unfolding rules
too_late = (refl, refl, refl)

-- ── older records, "senders unchecked": a bit answers, no line closes, and local 3 does not occur ──

abbrev older : List ℕ → List Input
older bits = map (λ (a : ℕ). timing 60000 a 0 ones none) bits

said : (seen (line_answered (calm 9) (older (0 ∷ 0 ∷ 1 ∷ 0 ∷ 0 ∷ 0 ∷ [])) 0) ≡ false ∷ false ∷ true ∷ false ∷ false ∷ false ∷ [])
    × (seen (occurs_in (calm 9) (older (replicate 6 0)) 3) ≡ replicate 6 false)
unfolding rules
said = (refl, refl)

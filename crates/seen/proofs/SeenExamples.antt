-- The second statement in runs of a handler, computed; and why it asks what it asks: of one tick more in the list, and of the senders at the start.
-- Assumes nothing.
use Prim.Native.Nat.{ℕ}
use mathlib.Core.Path.{◌≡◌, refl}
use mathlib.Core.Logic.{inl, inr}
use mathlib.Core.Bool.{Bool, true, false, false≢true}
use mathlib.Core.List.{List, [], ◌∷◌, map}
use native.Mathlib.Omega.{arith}
use lib.ListN.{replicate}
use Rattle.class_rules.specs.declared.Class.{Class}
use Rattle.escalation.specs.Escalation.{Starts}
use Rattle.link_rules.specs.EscalationReceiver.{escalates, listened, sees}
use Rattle.link_rules.specs.declared.Senders.{Senders}
use Rattle.rules.proofs.Scenes.{rules, station}
use Rattle.rules.specs.Scenes.{ones, sampling, raise, none}
use Rattle.rules.specs.State.{new_handler, with_links, with_timer}
use Rattle.rules.specs.Valid.{valid}
use Rattle.rules.specs.declared.Handler.{Handler}
use Rattle.rules.specs.declared.Input.{Input}
use Rattle.rules.specs.declared.Receive.TheVariants.{Pairs}
use Rattle.seen.specs.Seen.{SeenSoon, Second}
use Rattle.seen.specs.Wires.{sent_positive, sent_negative, line_on, receiver_at, seen_in}

-- names every definition that an example computes with
unfoldable waves : ℕ → ℕ
unfolding rules receiver_at escalates listened sees
waves n = n

-- class A, locked with EN and LOCK, all lines on in their own phase, of these lengths; alert 0 starts it
abbrev locked : List ℕ → Class
locked lengths = record { lengths = lengths; timeout = 0; count = 0; ctrl = 0x393F; accum = 0; thresh = 0; regwen = 0; clrwen = 1; state = 0 }

-- these senders at the start; the timer is on or off, and where it is on a ping of line 0 is due in tick 0
abbrev house : List ℕ → Senders → ℕ → Handler
house lengths s on =
    let h = station 1 (replicate 248 1) (replicate 248 0) 0 (locked lengths) in
    with_timer (record { timeout = 0; regwen = 1; enable = on })
    (with_links (record { receivers = h.links.receivers; turn = record { number = 1; alert = 0; count = 0 }; lines = 0; senders = s; right = 0 }) h)

abbrev new : Senders
new = (new_handler 1).links.senders

-- a tick in which all receive pairs are at (1,1): whatever comes back
abbrev noise : Input
noise = sampling 0 (Pairs 15 15) 0 ones none

-- line e of a run on a sound pair: what is seen in the first seven ticks
abbrev seven : (ℕ → Bool) → List Bool
seven f = map f (0 ∷ 1 ∷ 2 ∷ 3 ∷ 4 ∷ 5 ∷ 6 ∷ [])

abbrev sight : Handler → List Input → ℕ → ℕ → Bool
sight h xs e i = seen_in (sent_positive h xs e) (sent_negative h xs e) i

-- ── phase 0 is one tick and phase 1 three: line 0 is on in tick 0, line 1 in ticks 1 to 3 ──

abbrev course : List Input
course = raise 0 none ∷ replicate 6 noise

abbrev home : Handler
home = house (0 ∷ 3 ∷ 0 ∷ 0 ∷ []) new 0

-- a lone tick is lengthened to two and seen in the second; a longer line is not, and its first tick is not seen
lone : (seven (line_on home course 0) ≡ true ∷ false ∷ false ∷ false ∷ false ∷ false ∷ false ∷ [])
    × (seven (sent_positive home course 0) ≡ true ∷ true ∷ false ∷ false ∷ false ∷ false ∷ false ∷ [])
    × (seven (sight home course 0) ≡ false ∷ true ∷ false ∷ false ∷ false ∷ false ∷ false ∷ [])
unfolding waves
lone = (refl, refl, refl)

longer : (seven (line_on home course 1) ≡ false ∷ true ∷ true ∷ true ∷ false ∷ false ∷ false ∷ [])
    × (seven (sent_positive home course 1) ≡ false ∷ true ∷ true ∷ true ∷ false ∷ false ∷ false ∷ [])
    × (seven (sight home course 1) ≡ false ∷ false ∷ true ∷ true ∷ false ∷ false ∷ false ∷ [])
unfolding waves
longer = (refl, refl, refl)

-- ── "also while answering a ping, so never in a lone ping": a pulse in tick 0, and line 0 on in ticks 2 and 3 ──

abbrev pinged : List Input
pinged = noise ∷ noise ∷ raise 0 none ∷ replicate 4 noise

abbrev both : Handler
both = house (2 ∷ 0 ∷ 0 ∷ 0 ∷ []) new 1

pulse : (seven (line_on both pinged 0) ≡ false ∷ false ∷ true ∷ true ∷ false ∷ false ∷ false ∷ [])
    × (seven (sent_positive both pinged 0) ≡ true ∷ false ∷ true ∷ true ∷ false ∷ false ∷ false ∷ [])
    × (seven (sight both pinged 0) ≡ false ∷ false ∷ false ∷ true ∷ false ∷ false ∷ false ∷ [])
unfolding waves
pulse = (refl, refl, refl)

-- ── what is not claimed ──

-- a list that ends with the phase's first tick: it is not seen
cut : sight home (raise 0 none ∷ []) 0 0 ≡ false
unfolding waves
cut = refl

-- an accepted state whose sender takes line 0 to have been on: the lone tick is not lengthened, and the receiver never sees it
abbrev stale : Senders
stale = record { on = 1; first = 0; last = 0; deep = 0; answer = 0 }

abbrev other : Handler
other = house (0 ∷ 3 ∷ 0 ∷ 0 ∷ []) stale 0

unseen : (valid other ≡ true)
    × (seven (line_on other course 0) ≡ true ∷ false ∷ false ∷ false ∷ false ∷ false ∷ false ∷ [])
    × (seven (sent_positive other course 0) ≡ true ∷ replicate 6 false)
    × (seven (sight other course 0) ≡ replicate 7 false)
unfolding waves
unseen = (refl, refl, refl, refl)

-- so the statement is false of it
starts_there : Starts other (raise 0 none) 0
unfolding waves
starts_there = record { is_class = omega arith; is_start = refl; is_locked = refl; has_en = refl; has_lock = refl }

false_there : ¬ Second other course
unfolding waves
false_there c = go soon
  where
    soon : SeenSoon 0 course (locked (0 ∷ 3 ∷ 0 ∷ 0 ∷ [])) 0 0 (sent_positive other course 0) (sent_negative other course 0) 0
    soon =
        c.escalation 0 0 0 0 (sent_positive other course 0) (sent_negative other course 0) (omega arith)
        (record { positive = λ i l. refl; negative = λ i l. refl }) (record { from = omega arith; to = omega arith }) starts_there refl 0
        (record { from = omega arith; to = omega arith }) (record { from = omega arith; to = omega arith })

    go : SeenSoon 0 course (locked (0 ∷ 3 ∷ 0 ∷ 0 ∷ [])) 0 0 (sent_positive other course 0) (sent_negative other course 0) 0 → ⊥
    go (inl s) = false≢true s
    go (inr s) = false≢true (s.1 (record { from = omega arith; to = omega arith }))

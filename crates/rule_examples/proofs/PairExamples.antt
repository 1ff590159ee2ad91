-- Worked examples that pin request (viii), the acknowledge and ping pairs that come out of a tick, by computation.
-- Assumes nothing.
use Prim.Native.Nat.{ℕ, ◌+◌, ◌-◌, ◌/◌, ◌^◌}
use mathlib.Core.Path.{◌≡◌, refl}
use mathlib.Core.List.{List, [], ◌∷◌, map}
use lib.ListN.{get_or, replicate}
use Rattle.rules.specs.Run.{ticks}
use Rattle.rules.specs.State.{new_handler}
use Rattle.rules.specs.Tick.{acknowledge_pairs, ping_pairs, after, ticked}
use Rattle.rules.specs.declared.Handler.{Handler}
use Rattle.rules.specs.declared.Input.{Input}
use Rattle.rules.specs.declared.Ticked.{Ticked}
use Rattle.rules.specs.declared.Wires.{Wires}
use Rattle.rules.specs.Scenes.{ones, timing, rest, raise, both_high, both_low, none}
use Rattle.rules.proofs.Scenes.{rules, zeros, ready}
use Rattle.rule_examples.proofs.HandshakeExamples.{pinging, with_receivers}

-- ── in time: 1 where alert 0's pair is (1,0), tick by tick ──

abbrev acknowledged_from : Handler → List Input → List ℕ
acknowledged_from h xs = map (λ (t : Ticked). get_or t.output.acknowledge.pos 0 0 / 2 ^ 63) (ticks h xs)

abbrev pinged_from : Handler → List Input → List ℕ
pinged_from h xs = map (λ (t : Ticked). get_or t.output.ping.pos 0 0 / 2 ^ 63) (ticks h xs)

abbrev acknowledged : List Input → List ℕ
acknowledged xs = acknowledged_from (ready 9) xs

-- "alert raised, acknowledged in the next tick, alert dropped, acknowledgement dropped in the next"
acknowledges : (acknowledged (raise 0 none ∷ raise 0 none ∷ rest none ∷ rest none ∷ rest none ∷ []) ≡ 0 ∷ 1 ∷ 1 ∷ 0 ∷ 0 ∷ [])
    × (acknowledged (raise 0 none ∷ rest none ∷ raise 0 none ∷ raise 0 none ∷ raise 0 none ∷ raise 0 none ∷ []) ≡ 0 ∷ 1 ∷ 0 ∷ 0 ∷ 0 ∷ 1 ∷ [])
unfolding rules
acknowledges = (refl, refl)

-- equal wires hold the receiver, "a due acknowledge change apart"
due : (acknowledged (raise 0 none ∷ both_high 0 none ∷ raise 0 none ∷ []) ≡ 0 ∷ 1 ∷ 1 ∷ [])
    × (acknowledged (raise 0 none ∷ rest none ∷ both_low 0 none ∷ rest none ∷ []) ≡ 0 ∷ 1 ∷ 0 ∷ 0 ∷ [])
unfolding rules
due = (refl, refl)

-- request (ix), "A ping opens as an asked one did": "Asking changes the ping pair's level", in its own tick, and the alert's next ping, after line 0's,
-- changes it back; an answer is acknowledged too
levels : (pinged_from (pinging 0 1 (ready 9)) (rest none ∷ rest none ∷ rest none ∷ raise 0 none ∷ timing 0 1 0 ones none ∷ rest none ∷ []) ≡ 0 ∷ 1 ∷ 1 ∷ 1 ∷ 1 ∷ 0 ∷ [])
    × (acknowledged_from (pinging 0 0 (ready 9)) (rest none ∷ raise 0 none ∷ rest none ∷ rest none ∷ []) ≡ 0 ∷ 0 ∷ 1 ∷ 0 ∷ [])
unfolding rules
levels = (refl, refl)

-- ── as words: a pair at its own place of its own word, all others (0,1) ──

-- the pairs of which these are the positive wires
abbrev pair_of : List ℕ → Wires
pair_of ws = record { pos = ws; neg = map (λ w. 2 ^ 64 - 1 - w) ws }

abbrev low : Wires
low = record { pos = replicate 4 0; neg = replicate 4 18446744073709551615 }

abbrev alerts : List ℕ
alerts = 0 ∷ 63 ∷ 64 ∷ 127 ∷ 128 ∷ 191 ∷ 192 ∷ 247 ∷ []

abbrev their_pairs : List Wires
their_pairs =
    map pair_of
    ((2 ^ 63 ∷ 0 ∷ 0 ∷ 0 ∷ [])
    ∷ (1 ∷ 0 ∷ 0 ∷ 0 ∷ [])
    ∷ (0 ∷ 2 ^ 63 ∷ 0 ∷ 0 ∷ [])
    ∷ (0 ∷ 1 ∷ 0 ∷ 0 ∷ [])
    ∷ (0 ∷ 0 ∷ 2 ^ 63 ∷ 0 ∷ [])
    ∷ (0 ∷ 0 ∷ 1 ∷ 0 ∷ [])
    ∷ (0 ∷ 0 ∷ 0 ∷ 2 ^ 63 ∷ [])
    ∷ (0 ∷ 0 ∷ 0 ∷ 2 ^ 8 ∷ [])
    ∷ [])

places : (map (λ i. acknowledge_pairs (after (new_handler 248) (raise i none))) alerts ≡ their_pairs)
    × (map (λ i. ping_pairs (after (pinging i 0 (new_handler 248)) (rest none))) alerts ≡ their_pairs)
unfolding rules
places = (refl, refl)

-- "(0,1) at reset"
at_reset : ((ticked (new_handler 1) (rest none)).output ≡ record { interrupts = 0; lines = 0; acknowledge = low; ping = low; escalation = record { pos = 0; neg = 15 } })
    × (acknowledge_pairs (new_handler 248) ≡ low)
    × (ping_pairs (new_handler 248) ≡ low)
unfolding rules
at_reset = (refl, refl, refl)

-- ".. at N and above", whatever is stored there, and at the places 248 to 255: every receiver is acknowledged and every level is 1
abbrev stuffed : ℕ → Handler
stuffed n =
    let all = replicate 4 (2 ^ 64 - 1) in
    with_receivers (record { pausing = zeros; busy = all; level = all; pending = zeros }) (new_handler n)

above : (acknowledge_pairs (stuffed 2) ≡ pair_of ((2 ^ 63 + 2 ^ 62) ∷ 0 ∷ 0 ∷ 0 ∷ []))
    × (ping_pairs (stuffed 2) ≡ pair_of ((2 ^ 63 + 2 ^ 62) ∷ 0 ∷ 0 ∷ 0 ∷ []))
    × (acknowledge_pairs (stuffed 248) ≡ pair_of ((2 ^ 64 - 1) ∷ (2 ^ 64 - 1) ∷ (2 ^ 64 - 1) ∷ (2 ^ 64 - 256) ∷ []))
    × (ping_pairs (stuffed 248) ≡ pair_of ((2 ^ 64 - 1) ∷ (2 ^ 64 - 1) ∷ (2 ^ 64 - 1) ∷ (2 ^ 64 - 256) ∷ []))
    × ((ticked (stuffed 2) (rest none)).output.acknowledge ≡ pair_of ((2 ^ 63 + 2 ^ 62) ∷ 0 ∷ 0 ∷ 0 ∷ []))
    × ((ticked (stuffed 2) (rest none)).output.ping ≡ pair_of ((2 ^ 63 + 2 ^ 62) ∷ 0 ∷ 0 ∷ 0 ∷ []))
unfolding rules
above = (refl, refl, refl, refl, refl, refl)

-- Requests (viii) and (ix) in a handler, computed: runs that show why the claim says what it says. The examples of one tick are in rule_examples, the waves in link_rules.
-- Assumes nothing.
use Prim.Native.Nat.{ℕ}
use mathlib.Core.Path.{◌≡◌, refl}
use mathlib.Core.Bool.{Bool, true, false}
use mathlib.Core.List.{List, [], ◌∷◌, map, ◌++◌}
use lib.ListN.{replicate}
use Rattle.rules.proofs.Scenes.{rules}
use Rattle.rules.specs.Scenes.{rest, raise, both_low, none, pause}
use Rattle.rules.specs.State.{new_handler, with_alerts, with_links, with_timer}
use Rattle.rules.specs.declared.Handler.{Handler}
use Rattle.rules.specs.declared.Input.{Input}
use Rattle.handshake.specs.Alone.{event_in, answer_in, fails_in}
use Rattle.handshake.specs.Handshake.{open_in, taken_in, acknowledges_in}

-- alert 0 of a new handler of one alert, in the first six ticks
abbrev seen : (List Input → ℕ → Bool) → List Input → List Bool
seen f xs = map (f xs) (0 ∷ 1 ∷ 2 ∷ 3 ∷ 4 ∷ 5 ∷ [])

abbrev takes : List Input → ℕ → Bool
takes xs t = taken_in (new_handler 1) xs 0 t

abbrev acknowledges : List Input → ℕ → Bool
acknowledges xs t = acknowledges_in (new_handler 1) xs 0 t

-- (0,1) in tick 1, and a rise that is held from tick 2 on: it waits two ticks of pause, and is taken in the third
abbrev soonest : List Input
soonest = raise 0 none ∷ rest none ∷ replicate 4 (raise 0 none)

held : (seen takes soonest ≡ true ∷ false ∷ false ∷ false ∷ true ∷ false ∷ [])
    × (seen acknowledges soonest ≡ false ∷ true ∷ false ∷ false ∷ false ∷ true ∷ [])
unfolding rules
held = (refl, refl)

-- equal wires in the tick of the drop: the drop goes unseen, the receiver acknowledges on, and the next rise is not taken
abbrev unseen : List Input
unseen = raise 0 none ∷ both_low 0 none ∷ replicate 4 (raise 0 none)

drop_unseen : (seen takes unseen ≡ true ∷ false ∷ false ∷ false ∷ false ∷ false ∷ [])
    × (seen acknowledges unseen ≡ false ∷ true ∷ true ∷ true ∷ true ∷ true ∷ [])
unfolding rules
drop_unseen = (refl, refl)

-- ── pings: the timer is on, alert 0 is drawn, locked and enabled, and its ping is due in tick 0 ──

abbrev timed : ℕ → Handler
timed timeout =
    let h = new_handler 1 in
    with_timer (record { timeout = timeout; regwen = 1; enable = 1 })
    (with_links (record { receivers = h.links.receivers; turn = record { number = 0; alert = 0; count = 0 }; lines = 0; senders = h.links.senders; right = 0 })
    (with_alerts (record { regwen = replicate 248 0; en = replicate 248 1; class = replicate 248 0; cause = replicate 248 0 }) h))

abbrev events : ℕ → List Input → ℕ → Bool
events timeout xs t = event_in (timed timeout) xs 0 t

abbrev answers : ℕ → List Input → ℕ → Bool
answers timeout xs t = answer_in (timed timeout) xs 0 t

abbrev opened : ℕ → List Input → ℕ → Bool
opened timeout xs t = open_in (timed timeout) xs 0 t

abbrev fails : ℕ → List Input → ℕ → Bool
fails timeout xs t = fails_in (timed timeout) xs 0 t

-- a ping that opens in the tick of a rise is answered by it; the next rise is an event
abbrev pinged : List Input
pinged = raise 0 none ∷ pause ++ (raise 0 none ∷ rest none ∷ [])

answered : (seen (answers 0) pinged ≡ true ∷ false ∷ false ∷ false ∷ false ∷ false ∷ [])
    × (seen (events 0) pinged ≡ false ∷ false ∷ false ∷ false ∷ true ∷ false ∷ [])
unfolding rules
answered = (refl, refl)

-- at timeout 2 a ping without an answer fails in tick 2 and closes, so that the rise in tick 3 is an event; a rise in tick 2 still answers it
abbrev late : List Input
late = rest none ∷ rest none ∷ rest none ∷ raise 0 none ∷ []

abbrev in_time : List Input
in_time = rest none ∷ rest none ∷ raise 0 none ∷ raise 0 none ∷ []

failed : (seen (opened 2) late ≡ true ∷ true ∷ true ∷ false ∷ false ∷ false ∷ [])
    × (seen (fails 2) late ≡ false ∷ false ∷ true ∷ false ∷ false ∷ false ∷ [])
    × (seen (events 2) late ≡ false ∷ false ∷ false ∷ true ∷ false ∷ false ∷ [])
    × (seen (answers 2) in_time ≡ false ∷ false ∷ true ∷ false ∷ false ∷ false ∷ [])
    × (seen (fails 2) in_time ≡ false ∷ false ∷ false ∷ false ∷ false ∷ false ∷ [])
    × (seen (events 2) in_time ≡ false ∷ false ∷ false ∷ false ∷ false ∷ false ∷ [])
unfolding rules
failed = (refl, refl, refl, refl, refl, refl)

-- Worked examples that pin request (viii), the handshake and the pings of a whole handler, by computation. One receiver's waves stand in link_rules.
-- Assumes nothing.
use Prim.Native.Nat.{ℕ, ◌+◌, ◌-◌, ◌^◌}
use mathlib.Core.Path.{◌≡◌, refl}
use mathlib.Core.Bool.{cond}
use mathlib.Core.List.{List, [], ◌∷◌, ◌++◌, map}
use lib.Dec.{eqb}
use lib.ListN.{replicate}
use Rattle.rules.specs.Access.{value}
use Rattle.rules.specs.Run.{run}
use Rattle.rules.specs.State.{new_handler, with_alerts, with_links, with_timer}
use Rattle.rules.specs.Tick.{after}
use Rattle.rules.specs.declared.Field.{Field}
use Rattle.rules.specs.declared.Handler.{Handler}
use Rattle.rules.specs.declared.Input.{Input}
use Rattle.rules.specs.declared.Receivers.{Receivers}
use Rattle.rules.specs.declared.Register.TheVariants.{Alert, Block}
use Rattle.rules.specs.declared.Setting.TheVariants.{AccumCnt}
use Rattle.rules.specs.Scenes.{ones, timing, wired, rest, raise, pause, both_high, both_low, none}
use Rattle.rules.proofs.Scenes.{rules, zeros, ready}

-- ── events ──

-- a tick with alert 0's wires: 0 is (0,1), 1 is (1,0), 2 is (0,0), 3 is (1,1)
abbrev wave : ℕ → Input
wave w = cond (eqb w 0) (rest none) (cond (eqb w 1) (raise 0 none) (cond (eqb w 2) (both_low 0 none) (both_high 0 none)))

-- how many events alert 0 has in these ticks
abbrev counts : List ℕ → ℕ
counts ws = value (run (ready 9) (map wave ws)) (Block AccumCnt 0)

-- "alert raised": one event, however long it is held
raised : (counts (0 ∷ []) ≡ 0) × (counts (1 ∷ []) ≡ 1) × (counts (0 ∷ 1 ∷ 1 ∷ 1 ∷ []) ≡ 1)
unfolding rules
raised = (refl, refl, refl)

-- "two ticks of pause, in which a rise waits": it is taken when they are over, and one that is gone by then is not
waits : (counts (1 ∷ 0 ∷ 1 ∷ []) ≡ 1)
    × (counts (1 ∷ 0 ∷ 1 ∷ 1 ∷ []) ≡ 1)
    × (counts (1 ∷ 0 ∷ 1 ∷ 1 ∷ 1 ∷ []) ≡ 2)
    × (counts (1 ∷ 0 ∷ 0 ∷ 0 ∷ 1 ∷ []) ≡ 2)
    × (counts (1 ∷ 0 ∷ 1 ∷ 1 ∷ 0 ∷ 0 ∷ []) ≡ 1)
unfolding rules
waits = (refl, refl, refl, refl, refl)

-- "Equal wires .. hold the receiver where it is": ready, acknowledged, in the first tick of the pause, in the second
held : (map counts ((2 ∷ []) ∷ (3 ∷ []) ∷ (2 ∷ 1 ∷ []) ∷ (3 ∷ 1 ∷ []) ∷ []) ≡ 0 ∷ 0 ∷ 1 ∷ 1 ∷ [])
    × (map counts ((1 ∷ 2 ∷ 1 ∷ []) ∷ (1 ∷ 3 ∷ 0 ∷ 0 ∷ 1 ∷ []) ∷ (1 ∷ 3 ∷ 0 ∷ 0 ∷ 0 ∷ 1 ∷ []) ∷ []) ≡ 1 ∷ 1 ∷ 2 ∷ [])
    × (map counts ((1 ∷ 0 ∷ 2 ∷ 0 ∷ 1 ∷ []) ∷ (1 ∷ 0 ∷ 2 ∷ 0 ∷ 0 ∷ 1 ∷ []) ∷ []) ≡ 1 ∷ 2 ∷ [])
    × (map counts ((1 ∷ 0 ∷ 0 ∷ 3 ∷ 1 ∷ []) ∷ (1 ∷ 0 ∷ 0 ∷ 3 ∷ 0 ∷ 1 ∷ []) ∷ []) ≡ 1 ∷ 2 ∷ [])
unfolding rules
held = (refl, refl, refl, refl)

-- ── pings, as the timer of request (ix) opens them ──

-- the timer is on and alert i is drawn, its ping due after c more ticks; every alert is locked and enabled, and no ping fails
abbrev pub pinging : ℕ → ℕ → Handler → Handler
pinging i c h =
    with_timer (record { timeout = 0; regwen = 1; enable = 1 })
    (with_links (record {
      receivers = h.links.receivers;
      turn = record { number = 0; alert = i; count = c };
      lines = 0;
      senders = h.links.senders;
      right = 0;
    })
    (with_alerts (record { regwen = replicate 248 0; en = replicate 248 1; class = h.alerts.class; cause = h.alerts.cause }) h))

abbrev cause : ℕ → ℕ → List Input → ℕ
cause i c xs = value (run (pinging i c (ready 9)) xs) (Alert Field.Cause 0)

-- "A rise taken while a ping is open answers and closes it and is no event", in the tick that opens it too; "any other is one event"
answers : (cause 0 0 (rest none ∷ raise 0 none ∷ []) ≡ 0)
    × (cause 0 0 (raise 0 none ∷ []) ≡ 0)
    × (cause 0 0 (rest none ∷ raise 0 none ∷ pause ++ raise 0 none ∷ []) ≡ 1)
    × (cause 1 0 (raise 0 none ∷ []) ≡ 1)
    × (cause 0 1 (raise 0 none ∷ rest none ∷ []) ≡ 1)
unfolding rules
answers = (refl, refl, refl, refl, refl)

-- the words of the levels and of the open pings
abbrev pings : Handler → List Input → List (List ℕ)
pings h xs = let r = (run h xs).links.receivers in r.level ∷ r.pending ∷ []

-- the first of four words
abbrev first : ℕ → List ℕ
first x = x ∷ 0 ∷ 0 ∷ 0 ∷ []

-- line 0's ping, which comes between two of alerts, is answered in the tick that opens it
abbrev answered : Input
answered = timing 0 1 0 ones none

-- "A ping opens as an asked one did": "Asking changes the ping pair's level and opens a ping"; it stays open; after the answer the next changes it back
asked : (pings (pinging 0 1 (ready 9)) (rest none ∷ []) ≡ first 0 ∷ first 0 ∷ [])
    × (pings (pinging 0 0 (ready 9)) (rest none ∷ []) ≡ first (2 ^ 63) ∷ first (2 ^ 63) ∷ [])
    × (pings (pinging 0 0 (ready 9)) (rest none ∷ rest none ∷ []) ≡ first (2 ^ 63) ∷ first (2 ^ 63) ∷ [])
    × (pings (pinging 0 0 (ready 9)) (rest none ∷ both_high 0 none ∷ []) ≡ first (2 ^ 63) ∷ first (2 ^ 63) ∷ [])
    × (pings (pinging 0 0 (ready 9)) (rest none ∷ raise 0 none ∷ []) ≡ first (2 ^ 63) ∷ first 0 ∷ [])
    × (pings (pinging 0 0 (ready 9)) (rest none ∷ raise 0 none ∷ answered ∷ rest none ∷ []) ≡ first 0 ∷ first (2 ^ 63) ∷ [])
    × (pings (pinging 0 1 (ready 9)) (raise 0 none ∷ raise 0 none ∷ []) ≡ first (2 ^ 63) ∷ first (2 ^ 63) ∷ [])
unfolding rules
asked = (refl, refl, refl, refl, refl, refl, refl)

-- each alert's its own; at N and above none opens
several : (pings (pinging 1 0 (ready 9)) (rest none ∷ []) ≡ first (2 ^ 62) ∷ first (2 ^ 62) ∷ [])
    × (pings (pinging 1 0 (ready 9)) (rest none ∷ raise 0 none ∷ []) ≡ first (2 ^ 62) ∷ first (2 ^ 62) ∷ [])
    × (map (λ i. pings (pinging i 0 (ready 9)) (rest none ∷ [])) (2 ∷ 64 ∷ 247 ∷ 255 ∷ []) ≡ replicate 4 (first 0 ∷ first 0 ∷ []))
unfolding rules
several = (refl, refl, refl)

-- ── each alert at its own place of its own word, in each of the four; steps 1 to 4 alone, since refusal 7's look at 248 entries is no matter here ──

abbrev rows : Handler → List (List ℕ)
rows h = let r = h.links.receivers in r.pausing ∷ r.busy ∷ r.level ∷ r.pending ∷ []

abbrev alerts : List ℕ
alerts = 63 ∷ 64 ∷ 127 ∷ 128 ∷ 191 ∷ 192 ∷ 247 ∷ []

abbrev their_words : List (List ℕ)
their_words =
    (1 ∷ 0 ∷ 0 ∷ 0 ∷ [])
    ∷ (0 ∷ 2 ^ 63 ∷ 0 ∷ 0 ∷ [])
    ∷ (0 ∷ 1 ∷ 0 ∷ 0 ∷ [])
    ∷ (0 ∷ 0 ∷ 2 ^ 63 ∷ 0 ∷ [])
    ∷ (0 ∷ 0 ∷ 1 ∷ 0 ∷ [])
    ∷ (0 ∷ 0 ∷ 0 ∷ 2 ^ 63 ∷ [])
    ∷ (0 ∷ 0 ∷ 0 ∷ 2 ^ 8 ∷ [])
    ∷ []

abbrev pub with_receivers : Receivers → Handler → Handler
with_receivers r h =
    with_links (record { receivers = r; turn = h.links.turn; lines = h.links.lines; senders = h.links.senders; right = h.links.right }) h

-- a handler of 248 alerts with these words for where the receivers stand
abbrev standing : List ℕ → List ℕ → Handler
standing p b = with_receivers (record { pausing = p; busy = b; level = zeros; pending = zeros }) (new_handler 248)

-- a rise, a drop, a ping; levels are in PairExamples
places : (map (λ i. (after (new_handler 248) (raise i none)).links.receivers.busy) alerts ≡ their_words)
    × (map (λ w. (after (standing zeros w) (rest none)).links.receivers.pausing) their_words ≡ their_words)
    × (map (λ i. (after (pinging i 0 (new_handler 248)) (rest none)).links.receivers.pending) alerts ≡ their_words)
unfolding rules
places = (refl, refl, refl)

-- the seven in one tick: 63, 127 and 191 drop, 64, 128 and 192 are in the first tick of the pause, 247 in the second
together :
    rows (after (standing (0 ∷ 2 ^ 63 ∷ 2 ^ 63 ∷ (2 ^ 63 + 2 ^ 8) ∷ []) (1 ∷ (2 ^ 63 + 1) ∷ (2 ^ 63 + 1) ∷ 2 ^ 63 ∷ [])) (rest none))
    ≡ (1 ∷ (2 ^ 63 + 1) ∷ (2 ^ 63 + 1) ∷ 2 ^ 63 ∷ []) ∷ (1 ∷ 1 ∷ 1 ∷ 0 ∷ []) ∷ zeros ∷ zeros ∷ []
unfolding rules
together = refl

-- ── at reset every bit is 0; what is at N and above stays: N is 2, and all bits of all words are 1, but that no ping below N is open ──

abbrev all : List ℕ
all = replicate 4 (2 ^ 64 - 1)

-- the words with alerts 0 and 1 at 0
abbrev but_two : List ℕ
but_two = (2 ^ 62 - 1) ∷ (2 ^ 64 - 1) ∷ (2 ^ 64 - 1) ∷ (2 ^ 64 - 1) ∷ []

abbrev stuffed : Handler
stuffed = with_receivers (record { pausing = all; busy = all; level = all; pending = but_two }) (new_handler 2)

-- and at 1
abbrev only_two : List ℕ
only_two = first (2 ^ 64 - 2 ^ 62)

above : (rows (new_handler 0) ≡ replicate 4 zeros)
    × (rows (new_handler 248) ≡ replicate 4 zeros)
    × (rows (run stuffed (rest none ∷ [])) ≡ all ∷ but_two ∷ all ∷ but_two ∷ [])
    × (rows (run (pinging 2 0 stuffed) (wired ones 0 none ∷ [])) ≡ all ∷ but_two ∷ all ∷ but_two ∷ [])
    × (rows (run stuffed (rest none ∷ rest none ∷ wired ones 0 none ∷ [])) ≡ but_two ∷ all ∷ all ∷ but_two ∷ [])
    × (rows (run (pinging 0 0 (new_handler 2)) (wired ones 0 none ∷ [])) ≡ zeros ∷ only_two ∷ first (2 ^ 63) ∷ zeros ∷ [])
unfolding rules
above = (refl, refl, refl, refl, refl, refl)

-- Request (ix) in a handler, computed: the claims of specs/Pings.antt in short runs, and two runs that show what is not claimed.
-- Assumes nothing.
use Prim.Native.Nat.{ℕ}
use mathlib.Core.Path.{◌≡◌, refl}
use mathlib.Core.Bool.{Bool, true, false}
use mathlib.Core.List.{List, [], ◌∷◌, map}
use lib.IntN.{ℤ, pos}
use lib.ListN.{replicate}
use Rattle.rules.proofs.Scenes.{rules}
use Rattle.rules.specs.Answer.{number}
use Rattle.rules.specs.Run.{ticks}
use Rattle.rules.specs.Scenes.{ones, timing, rest, none, write, refused}
use Rattle.rules.specs.State.{new_handler, is_on, with_alerts, with_locals, with_timer}
use Rattle.rules.specs.declared.Handler.{Handler}
use Rattle.rules.specs.declared.Input.{Input}
use Rattle.rules.specs.declared.Register.TheVariants.{Only}
use Rattle.rules.specs.declared.Single.TheVariants.{PingRegwen, PingEnable}
use Rattle.rules.specs.declared.Ticked.{Ticked}
use Rattle.handshake.specs.Alone.{before, fails_in}
use Rattle.handshake.specs.Handshake.{asks_in, open_in}
use Rattle.handshake.specs.Pings.{turn_at, line_opens, line_fails, sets, occurs_in}

-- a new handler of one alert, locked and enabled, with local 0 and local 1 enabled and this timeout
abbrev station : ℕ → Handler
station timeout =
    with_timer (record { timeout = timeout; regwen = 1; enable = 0 })
    (with_locals (record { regwen = replicate 7 1; en = replicate 7 1; class = replicate 7 0; cause = replicate 7 0 })
    (with_alerts (record { regwen = replicate 248 0; en = replicate 248 1; class = replicate 248 0; cause = replicate 248 0 }) (new_handler 1)))

abbrev seen : (ℕ → Bool) → List Bool
seen f = map f (0 ∷ 1 ∷ 2 ∷ 3 ∷ 4 ∷ 5 ∷ 6 ∷ 7 ∷ [])

-- tick 0 turns the timer on with the low bits 1: alert 0 is pinged in tick 2 and fails in tick 4, whose word is 0; line 0 is pinged in tick 5 and fails in 7
abbrev course : List Input
course = timing 1 0 0 ones (write (Only PingEnable) 1) ∷ replicate 7 (rest none)

turns : (seen (asks_in (station 2) course 0) ≡ false ∷ false ∷ true ∷ false ∷ false ∷ false ∷ false ∷ false ∷ [])
    × (seen (fails_in (station 2) course 0) ≡ false ∷ false ∷ false ∷ false ∷ true ∷ false ∷ false ∷ false ∷ [])
    × (seen (occurs_in (station 2) course 0) ≡ false ∷ false ∷ false ∷ false ∷ true ∷ false ∷ false ∷ false ∷ [])
    × (seen (line_opens (station 2) course 0) ≡ false ∷ false ∷ false ∷ false ∷ false ∷ true ∷ false ∷ false ∷ [])
    × (seen (line_fails (station 2) course 0) ≡ false ∷ false ∷ false ∷ false ∷ false ∷ false ∷ false ∷ true ∷ [])
    × (seen (occurs_in (station 2) course 1) ≡ false ∷ false ∷ false ∷ false ∷ false ∷ false ∷ false ∷ true ∷ [])
    × (seen (sets (station 2) course) ≡ true ∷ false ∷ false ∷ false ∷ true ∷ false ∷ false ∷ true ∷ [])
unfolding rules
turns = (refl, refl, refl, refl, refl, refl, refl)

-- ── what is not claimed ──

-- register 4 locked before 6 is 1: the write of 1 gets 3, and the timer is off for ever
abbrev locked : List Input
locked = map rest (write (Only PingRegwen) 0 ∷ write (Only PingEnable) 1 ∷ write (Only PingRegwen) 1 ∷ write (Only PingEnable) 1 ∷ [])

abbrev gives : Handler → List Input → List ℤ
gives h xs = map (λ (t : Ticked). number t.answer) (ticks h xs)

stays_off : (gives (station 2) locked ≡ pos 0 ∷ refused 3 ∷ refused 3 ∷ refused 3 ∷ [])
    × (map (λ t. is_on (before (station 2) locked t)) (0 ∷ 1 ∷ 2 ∷ 3 ∷ 4 ∷ []) ≡ replicate 5 false)
unfolding rules
stays_off = (refl, refl)

-- timeout 0: one sender that does not answer keeps its ping open, and no other is sent
waits_on : (seen (open_in (station 0) course 0) ≡ false ∷ false ∷ true ∷ true ∷ true ∷ true ∷ true ∷ true ∷ [])
    × (map (λ t. (turn_at (station 0) course t).number) (0 ∷ 3 ∷ 7 ∷ 8 ∷ []) ≡ replicate 4 0)
    × (seen (sets (station 0) course) ≡ true ∷ replicate 7 false)
unfolding rules
waits_on = (refl, refl, refl)

-- Request (ix), computed: registers 4, 5 and 6, and the open pings that refusal 7 meets.
-- Assumes nothing.
use Prim.Native.Nat.{ℕ, ◌+◌, ◌^◌}
use mathlib.Core.Path.{◌≡◌, refl}
use mathlib.Core.List.{List, [], ◌∷◌, map}
use lib.IntN.{ℤ, pos}
use lib.ListN.{replicate}
use Rattle.rules.proofs.Scenes.{rules, zeros}
use Rattle.rules.specs.Answer.{number}
use Rattle.rules.specs.Run.{ticks}
use Rattle.rules.specs.Scenes.{rest, none, write, gives, refused}
use Rattle.rules.specs.State.{new_handler, with_links, with_timer}
use Rattle.rules.specs.declared.Access.{Access}
use Rattle.rules.specs.declared.Handler.{Handler}
use Rattle.rules.specs.declared.Register.TheVariants.{Only}
use Rattle.rules.specs.declared.Single.TheVariants.{PingRegwen, PingTimeout, PingEnable}
use Rattle.rules.specs.declared.Ticked.{Ticked}

-- ── registers ──

-- what a new handler answers to these accesses, one a tick
abbrev answered : List Access → List ℤ
answered xs = map (λ (t : Ticked). number t.answer) (ticks (new_handler 2) (map rest xs))

-- "The first locks 5 and 6": a written 0 to 6 too; 4 itself takes no 1 back, and what does not fit gets 4 before
locks :
    answered
    (write (Only PingRegwen) 0
    ∷ write (Only PingTimeout) 7
    ∷ write (Only PingEnable) 0
    ∷ write (Only PingEnable) 1
    ∷ write (Only PingRegwen) 1
    ∷ write (Only PingRegwen) 0
    ∷ Access.Read 5
    ∷ write (Only PingTimeout) 65536
    ∷ write (Only PingEnable) 2
    ∷ [])
    ≡ pos 0 ∷ refused 3 ∷ refused 3 ∷ refused 3 ∷ refused 3 ∷ pos 0 ∷ pos 0 ∷ refused 4 ∷ refused 4 ∷ []
unfolding rules
locks = refl

-- "a written 0 does nothing": 6 stays 1, and stays 0
enables : (answered (write (Only PingEnable) 1 ∷ write (Only PingEnable) 1 ∷ write (Only PingEnable) 0 ∷ Access.Read 6 ∷ []) ≡ pos 0 ∷ pos 0 ∷ pos 0 ∷ pos 1 ∷ [])
    × (answered (write (Only PingEnable) 0 ∷ Access.Read 6 ∷ []) ≡ pos 0 ∷ pos 0 ∷ [])
unfolding rules
enables = (refl, refl)

-- ── "7 covers an open ping that isn't the turn's" ──

-- two alerts, register 6, the turn, the open pings of alerts and of lines: alert 0 is the highest bit, line 0 the lowest
abbrev holding : ℕ → ℕ → ℕ → ℕ → Handler
holding enable number alerts lines =
    with_timer (record { timeout = 0; regwen = 1; enable = enable })
    (with_links (record {
      receivers = record { pausing = zeros; busy = zeros; level = zeros; pending = alerts ∷ 0 ∷ 0 ∷ 0 ∷ [] };
      turn = record { number = number; alert = 0; count = 9 };
      lines = lines;
      senders = record { on = 0; first = 0; last = 0; deep = 0; answer = 0 };
      right = 0;
    }) (new_handler 2))

abbrev told : List Handler → List ℤ
told hs = map (λ (h : Handler). gives h (rest none)) hs

-- alert 0's in its own turn; another's, both; in a line's turn; while 6 is 0; one at N is no alert's
alerts : (told (holding 1 0 (2 ^ 63) 0 ∷ holding 1 6 (2 ^ 63) 0 ∷ []) ≡ replicate 2 (pos 0))
    × (told (holding 1 0 (2 ^ 62) 0 ∷ holding 1 0 (2 ^ 63 + 2 ^ 62) 0 ∷ []) ≡ replicate 2 (refused 7))
    × (told (holding 1 1 (2 ^ 63) 0 ∷ holding 1 7 (2 ^ 63) 0 ∷ []) ≡ replicate 2 (refused 7))
    × (told (holding 0 0 (2 ^ 63) 0 ∷ []) ≡ refused 7 ∷ [])
    × (told (holding 1 1 (2 ^ 61) 0 ∷ holding 0 0 (2 ^ 61) 0 ∷ []) ≡ replicate 2 (pos 0))
unfolding rules
alerts = (refl, refl, refl, refl, refl)

-- a line's in its own turn, 0 and 3; another's, both; in an alert's turn; while 6 is 0; the bits from 4 up are no line's
lines : (told (holding 1 1 0 1 ∷ holding 1 7 0 8 ∷ []) ≡ replicate 2 (pos 0))
    × (told (holding 1 1 0 2 ∷ holding 1 1 0 3 ∷ holding 1 7 0 1 ∷ []) ≡ replicate 3 (refused 7))
    × (told (holding 1 0 0 1 ∷ holding 1 2 0 2 ∷ []) ≡ replicate 2 (refused 7))
    × (told (holding 0 1 0 1 ∷ []) ≡ refused 7 ∷ [])
    × (told (holding 1 0 0 16 ∷ holding 0 0 0 240 ∷ []) ≡ replicate 2 (pos 0))
unfolding rules
lines = (refl, refl, refl, refl, refl)

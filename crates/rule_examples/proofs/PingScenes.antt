-- Request (ix): runs of a handler of two alerts, and the rows that show them, an entry for each tick.
-- Assumes nothing.
use Prim.Native.Nat.{ℕ, ◌+◌, ◌-◌, ◌*◌, ◌/◌, ◌%◌}
use mathlib.Core.Bool.{cond, ◌&&◌, ◌||◌}
use mathlib.Core.List.{List, [], ◌∷◌, map}
use lib.Dec.{eqb}
use lib.ListN.{get_or, replicate}
use Rattle.rules.specs.Run.{ticks}
use Rattle.rules.specs.Samples.{positive}
use Rattle.rules.specs.Scenes.{ones, timing, wire, none, write}
use Rattle.rules.specs.State.{new_handler, with_alerts, with_locals, with_timer}
use Rattle.rules.specs.declared.Access.{Access}
use Rattle.rules.specs.declared.Handler.{Handler}
use Rattle.rules.specs.declared.Input.{Input}
use Rattle.rules.specs.declared.Register.TheVariants.{Only}
use Rattle.rules.specs.declared.Single.TheVariants.{PingEnable}
use Rattle.rules.specs.declared.Ticked.{Ticked}

-- a handler of two alerts, with this timeout; every alert and local alert is enabled, and this is REGWEN of the alerts
abbrev pub station : ℕ → ℕ → Handler
station timeout regwen =
    with_timer (record { timeout = timeout; regwen = 1; enable = 0 })
    (with_locals (record { regwen = replicate 7 1; en = replicate 7 1; class = replicate 7 0; cause = replicate 7 0 })
    (with_alerts (record { regwen = replicate 248 regwen; en = replicate 248 1; class = replicate 248 0; cause = replicate 248 0 }) (new_handler 2)))

-- ── ticks ──

-- the word's low bits and its alert, alert 0's wires (0 is (0,1), 1 is (1,0), 2 is (0,0), 3 is (1,1)), the answers, line 0 lowest, and the access
abbrev pub feeds : ℕ → ℕ → ℕ → ℕ → Access → Input
feeds low drawn w a x =
    timing (low + 65536 * drawn) a (cond (eqb (w % 2) 1) (wire 0) 0) (cond (eqb w 0 || eqb w 3) ones (ones - wire 0)) x

-- wires at rest and no answer; and with word 0 and no access
abbrev pub draws : ℕ → ℕ → Access → Input
draws low drawn x = feeds low drawn 0 0 x

abbrev pub still : Input
still = draws 0 0 none

-- a write of 1 to register 6
abbrev pub on : Access
on = write (Only PingEnable) 1

-- ── what is shown of a tick ──

-- alert 0's ping pair is (1,0)
abbrev ping : Ticked → ℕ
ping t = cond (positive t.output.ping 0) 1 0

-- whose turn stands after it: this alert's, this line's, or none while 6 is 0
abbrev pub alert : ℕ → ℕ
alert i = i

abbrev pub line : ℕ → ℕ
line e = 256 + e

abbrev pub off : ℕ
off = 512

abbrev turn : Ticked → ℕ
turn t =
    let l = t.handler.links.turn in
    cond (eqb t.handler.timer.enable 0) off (cond (eqb (l.number % 2) 1) (line (l.number / 2 % 4)) (alert l.alert))

-- the turn's count, and whether any ping is open
abbrev count : Ticked → ℕ
count t = t.handler.links.turn.count

abbrev open_pings : Ticked → ℕ
open_pings t = let l = t.handler.links in cond (eqb (get_or l.receivers.pending 0 0) 0 && eqb l.lines 0) 0 1

-- what has come up to then: 1 for local 0, 2 for local 1, 4 for local 2, 8 for an event of alert 0
abbrev causes : Ticked → ℕ
causes t =
    let c = get_or t.handler.locals.cause in
    c 0 0 + 2 * c 1 0 + 4 * c 2 0 + 8 * get_or t.handler.alerts.cause 0 0

abbrev pub shown : Handler → List Input → List (List ℕ)
shown h xs = let ts = ticks h xs in map ping ts ∷ map turn ts ∷ map count ts ∷ map open_pings ts ∷ map causes ts ∷ []

-- Request (ix), "Ping timer": whose turn it is and which alert is drawn, in raw fields, and no definition of the rules. A turn is one number: even in an
-- alert's turn, odd in a line's, "lines 0 to 3 in turn".
-- Assumes nothing.
use Rattle.std.specs.Prelude.{ℕ, ◌/◌, ◌%◌, ◌<◌, ◌≡◌, ◌⊎◌, true, false, get_or}
use Rattle.rules.specs.declared.Effects.{Effects}
use Rattle.rules.specs.declared.Handler.{Handler}
use Rattle.sentences.specs.Raw.{pending, line_pending}

-- "the timer alternates alert and escalation pings"
abbrev pub AlertsTurn : Handler → Type 0
AlertsTurn g = g.links.turn.number % 2 ≡ 0

abbrev pub LinesTurn : Handler → Type 0
LinesTurn g = g.links.turn.number % 2 ≡ 1

abbrev pub turn_line : Handler → ℕ
turn_line g = g.links.turn.number / 2 % 4

abbrev pub turn_alert : Handler → ℕ
turn_alert g = g.links.turn.alert

-- ── g is the state after step 1, and f is what step 1 hands on ──

-- the timer has a turn in this tick: 6 is 1, and did not become 1 in it
abbrev pub Runs : Handler → Effects → Type 0
Runs g f = (g.timer.enable ≡ 1) × (f.begins ≡ false)

-- the turn's ping was open before the tick; "Stored entries at N and above are no registers"
abbrev pub TurnOpen : Handler → Type 0
TurnOpen g =
    (LinesTurn g × (line_pending g (turn_line g) ≡ true)) ⊎ (AlertsTurn g × ((turn_alert g < g.n) × (pending g (turn_alert g) ≡ true)))

-- "when the ping is due": a reading, `count` is the ticks to the ping less one, and after step 1 and before the wires it is judged
abbrev pub Due : Handler → Effects → Type 0
Due g f = Runs g f × ((¬ TurnOpen g) × (g.links.turn.count ≡ 0))

-- the drawn alert is "locked and enabled"
abbrev pub LockedEnabled : Handler → Type 0
LockedEnabled g =
    (turn_alert g < g.n) × ((get_or g.alerts.regwen (turn_alert g) 0 ≡ 0) × (get_or g.alerts.en (turn_alert g) 0 ≡ 1))

-- "If the drawn alert isn't locked and enabled when the ping is due, none opens"
abbrev pub Opens : Handler → Effects → Type 0
Opens g f = Due g f × (LinesTurn g ⊎ LockedEnabled g)

-- "A ping opens as an asked one did": the receiver of alert i is asked for its ping
abbrev pub Asked : Handler → Effects → ℕ → Type 0
Asked g f i = Opens g f × (AlertsTurn g × (i ≡ turn_alert g))

-- in this tick the turn's ping is open, up to its answer
abbrev pub OpenNow : Handler → Effects → Type 0
OpenNow g f = Runs g f × (TurnOpen g ⊎ Opens g f)

-- Request (ix), the ping timer in a tick: what it meets, whom it asks, and whose ping fails.
-- Assumes nothing.
use Rattle.std.specs.Prelude.{ℕ, Bool, false, not, ◌&&◌, eqb}
use Rattle.bits.specs.Bits.{bit}
use Rattle.link_rules.specs.LinePing.{closing}
use Rattle.link_rules.specs.Pings.{pending, asks}
use Rattle.link_rules.specs.Timer.{fails_alert}
use Rattle.link_rules.specs.declared.Given.{Given}
use Rattle.link_rules.specs.declared.Meets.{Meets}
use Rattle.link_rules.specs.declared.Receiver.{Receiver}
use Rattle.rules.specs.Access.{accepted, acted, effects}
use Rattle.rules.specs.Map.{single_number}
use Rattle.rules.specs.Samples.{positive, negative, timed}
use Rattle.rules.specs.State.{receiver_in}
use Rattle.rules.specs.Tick.{hears, lines, reached, closed_now}
use Rattle.rules.specs.declared.Access.{Access}
use Rattle.rules.specs.declared.Access.TheVariants.{Nothing, Read, Write, Malformed}
use Rattle.rules.specs.declared.Handler.{Handler}
use Rattle.rules.specs.declared.Input.{Input}
use Rattle.rules.specs.declared.Links.{Links}
use Rattle.rules.specs.declared.Single.TheVariants.{PingEnable}

-- a write of 1 to register 6 that is accepted
abbrev pub enables : Handler → Access → Bool
enables h Nothing = false
enables h (Read r) = false
enables h (Write r v) = accepted h (Write r v) && (eqb r (single_number PingEnable) && eqb v 1)
enables h Malformed = false

-- the turn's ping is open, of a handler of n alerts with these links
abbrev pub links_pending : ℕ → Links → Bool
links_pending n l = pending n l.turn (λ i. (receiver_in l.receivers i).pending) (bit l.lines)

-- an escalation closes the turn's ping in the tick, or keeps it from the wire
abbrev pub closed_in : Handler → Input → Bool
closed_in h x = closed_now (acted h x.access) (hears h x) (lines (reached h x))

-- what the timer meets in the tick
abbrev pub meets_in : Handler → Input → Meets
meets_in h x = closing (closed_in h x) (timed (acted h x.access) x.sample (effects h x.access))

-- it asks for the ping of alert i; the ping of alert i fails
abbrev pub asks_in : Handler → Input → ℕ → Bool
asks_in h x i = asks (meets_in h x) h.links.turn i

abbrev pub fails_in : Handler → Input → ℕ → Bool
fails_in h x i = fails_alert (meets_in h x) h.links.turn && eqb i h.links.turn.alert

-- what the receiver of alert i is given
abbrev pub given_in : Handler → Input → ℕ → Given
given_in h x i = record { asks = asks_in h x i; pos = positive x.sample.alerts i; neg = negative x.sample.alerts i }

-- a receiver, its ping closed if that fails
abbrev pub closed_if : Bool → Receiver → Receiver
closed_if failed r = record { stands = r.stands; level = r.level; pending = r.pending && not failed }

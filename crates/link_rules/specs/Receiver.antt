-- Request (viii), the alert receiver of document 004, synchronous: one alert, one tick. It knows neither EN nor CLASS.
-- Assumes nothing.
use Rattle.std.specs.Prelude.{Bool, true, false, cond, not, ◌&&◌, ◌||◌}
use Rattle.link_rules.specs.Pair.{rises, equal}
use Rattle.link_rules.specs.declared.Given.{Given}
use Rattle.link_rules.specs.declared.Handshake.{Handshake}
use Rattle.link_rules.specs.declared.Handshake.TheVariants.{Ready, Acknowledged, FirstPause, SecondPause}
use Rattle.link_rules.specs.declared.Received.{Received}
use Rattle.link_rules.specs.declared.Receiver.{Receiver}

-- "Acknowledge and ping pairs become outputs, (0,1) at reset"
abbrev pub new_receiver : Receiver
new_receiver = record { stands = Ready; level = false; pending = false }

-- ── the handshake ──

-- "alert raised, acknowledged in the next tick, alert dropped, acknowledgement dropped in the next": the acknowledge pair of a tick goes by what
-- the ticks before it read, so that a due change of it comes whatever this tick's wires are
abbrev pub acknowledges : Handshake → Bool
acknowledges Ready = false
acknowledges Acknowledged = true
acknowledges FirstPause = false
acknowledges SecondPause = false

abbrev pub is_ready : Handshake → Bool
is_ready Ready = true
is_ready Acknowledged = false
is_ready FirstPause = false
is_ready SecondPause = false

-- on wires that differ, p being the positive one: "alert raised, .. alert dropped, .. the first of two ticks of pause, in which a rise waits"
abbrev pub onward : Handshake → Bool → Handshake
onward Ready p = cond p Acknowledged Ready
onward Acknowledged p = cond p Acknowledged FirstPause
onward FirstPause p = SecondPause
onward SecondPause p = Ready

-- "Equal wires .. hold the receiver where it is, a due acknowledge change apart"
unfoldable pub stands_after : Handshake → Bool → Bool → Handshake
stands_after s p m = cond (equal p m) s (onward s p)

-- a rise is taken: the receiver is ready and the wires are (1,0), a level
abbrev pub takes : Handshake → Bool → Bool → Bool
takes s p m = is_ready s && rises p m

-- ── pings ──

-- "Asking changes the ping pair's level and opens a ping before that tick's wires are read; while one is open .. it does nothing"
unfoldable pub asked_for : Bool → Receiver → Receiver
asked_for asks r =
    record {
      stands = r.stands;
      level = cond (asks && not r.pending) (not r.level) r.level;
      pending = asks || r.pending;
    }

-- ── one tick ──

-- "A rise taken while a ping is open answers and closes it and is no event; any other is one event, in the tick it is taken"
unfoldable pub received : Given → Receiver → Received
received x r =
    let a = asked_for x.asks r in
    let taken = takes a.stands x.pos x.neg in
    record {
      receiver = record { stands = stands_after a.stands x.pos x.neg; level = a.level; pending = a.pending && not taken };
      acknowledge = acknowledges r.stands;
      ping = a.level;
      event = taken && not a.pending;
      answer = taken && a.pending;
    }

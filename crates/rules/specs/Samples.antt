-- "One tick", step 2, as requests (viii), (ix) and (xi) write it anew: the samples, of the handler g after step 1, the wires w and the effects e of step 1.
-- Assumes nothing.
use Rattle.std.specs.Prelude.{ℕ, ◌-◌, ◌^◌, Bool, true, false, cond, not, ◌&&◌, ◌||◌, List, eqb, ltb, replicate}
use Rattle.bits.specs.Bits.{bit, bits_of}
use Rattle.bits.specs.Index.{each, any_to, place_in, words_by}
use Rattle.link_rules.specs.Pair.{equal}
use Rattle.link_rules.specs.LinePing.{answered_by_wires, right_after}
use Rattle.link_rules.specs.Pings.{pending, asks}
use Rattle.link_rules.specs.Receiver.{received}
use Rattle.link_rules.specs.Sender.{wrong}
use Rattle.link_rules.specs.Senders.{line_count}
use Rattle.link_rules.specs.Timer.{is_line, line_of, open_now, fails_alert, fails_line}
use Rattle.link_rules.specs.declared.Given.{Given}
use Rattle.link_rules.specs.declared.Meets.{Meets}
use Rattle.link_rules.specs.declared.Received.{Received}
use Rattle.link_rules.specs.declared.Receiver.{Receiver}
use Rattle.rules.specs.State.{most, words, local_count, local, alert, receiver, receivers_by, sender, is_on, with_locals, with_alerts, with_local_column, with_alert_column}
use Rattle.rules.specs.declared.Effects.{Effects}
use Rattle.rules.specs.declared.Field.{Field}
use Rattle.rules.specs.declared.Handler.{Handler}
use Rattle.rules.specs.declared.Heard.{Heard}
use Rattle.rules.specs.declared.Receive.{Receive}
use Rattle.rules.specs.declared.Receive.TheVariants.{Pairs, Answers}
use Rattle.rules.specs.declared.Sample.{Sample}
use Rattle.rules.specs.declared.Wires.{Wires}

-- ── a sample at rest: all wires at (0,1), receive pairs too, and entropy word 0 ──

abbrev pub at_rest : Sample
at_rest = record { alerts = record { pos = replicate words 0; neg = replicate words (2 ^ 64 - 1) }; word = 0; receive = Pairs 0 15 }

-- ── alert i of handler g, by the pings that are asked for and the wires w; samples at N and above count for nothing ──

abbrev pub positive : Wires → ℕ → Bool
positive w i = place_in w.pos i

abbrev pub negative : Wires → ℕ → Bool
negative w i = place_in w.neg i

abbrev pub alert_enabled : Handler → ℕ → Bool
alert_enabled g i = eqb (alert g Field.En i) 1

-- what its receiver is given, and gives: request (viii)
abbrev pub given_to : List ℕ → Wires → ℕ → Given
given_to asks w i = record { asks = place_in asks i; pos = positive w i; neg = negative w i }

abbrev pub received_by : Handler → List ℕ → Wires → ℕ → Received
received_by g asks w i = received (given_to asks w i) (receiver g i)

-- the alert has an event, enabled or not
unfoldable pub happened : Handler → List ℕ → Wires → ℕ → Bool
happened g asks w i = ltb i g.n && (received_by g asks w i).event

-- its open ping is answered
unfoldable pub answered : Handler → List ℕ → Wires → ℕ → Bool
answered g asks w i = ltb i g.n && (received_by g asks w i).answer

-- its receiver after the tick's wires
unfoldable pub receiver_after : Handler → List ℕ → Wires → ℕ → Receiver
receiver_after g asks w i = cond (ltb i g.n) (received_by g asks w i).receiver (receiver g i)

-- an enabled alert has equal wires
unfoldable pub alert_broken : Handler → Wires → ℕ → Bool
alert_broken g w i = ltb i g.n && (equal (positive w i) (negative w i) && alert_enabled g i)

-- ── the lines' receive pairs, request (xi) ──

-- the senders are checked; "older editions run as in (ix), senders unchecked"
abbrev pub checks : Receive → Bool
checks (Pairs p m) = true
checks (Answers a) = false

abbrev pub receive_positive : Receive → ℕ → Bool
receive_positive (Pairs p m) e = bit p e
receive_positive (Answers a) e = false

abbrev pub receive_negative : Receive → ℕ → Bool
receive_negative (Pairs p m) e = bit m e
receive_negative (Answers a) e = false

-- the sample says that line e's ping is answered
abbrev pub says_answered : Receive → ℕ → Bool
says_answered (Pairs p m) e = false
says_answered (Answers a) e = bit a e

-- "Equal wires, or a wrong or missing answer" of line e
unfoldable pub line_wrong : Handler → Sample → ℕ → Bool
line_wrong g s e = checks s.receive && wrong (sender g e) (receive_positive s.receive e) (receive_negative s.receive e)

-- ── the ping timer, request (ix), of the handler g after step 1, the sample s and the effects e of step 1 ──

-- the alert drawn is "locked and enabled": below N, REGWEN 0 and EN 1
abbrev pub pingable : Handler → Bool
pingable g =
    let i = g.links.turn.alert in
    ltb i g.n && (eqb (alert g Field.Regwen i) 0 && alert_enabled g i)

-- the turn's ping is open before the tick
abbrev pub turn_pending : Handler → Bool
turn_pending g = pending g.n g.links.turn (λ i. (receiver g i).pending) (bit g.links.lines)

-- what the timer meets, where its turn's ping is answered or not, before step 5
abbrev pub meets : Handler → Sample → Effects → Bool → Meets
meets g s e answer =
    record {
      runs = is_on g && not e.begins;
      begins = e.begins;
      timeout = g.timer.timeout;
      word = s.word;
      pingable = pingable g;
      pending = turn_pending g;
      answered = answer;
      closed = false;
    }

-- due is judged before the wires: the alert whose ping it asks for, and no answer yet
abbrev pub before : Handler → Sample → Effects → Meets
before g s e = meets g s e false

abbrev pub asks_for : Handler → Sample → Effects → List ℕ
asks_for g s e = words_by words (asks (before g s e) g.links.turn)

-- the answers to the open ping of the turn's line were right so far
abbrev pub was_right : Handler → Bool
was_right g = bit g.links.right 0

-- a line's ping is answered by its receive pair, or as an older record says
abbrev pub line_answered : Handler → Sample → Effects → Bool
line_answered g s e =
    let t = g.links.turn in
    cond (checks s.receive) (answered_by_wires (before g s e) t (was_right g) (line_wrong g s (line_of t)))
    (open_now (before g s e) t && says_answered s.receive (line_of t))

-- an alert's by a rise that is taken
abbrev pub turn_answered : Handler → Sample → Effects → Bool
turn_answered g s e =
    let t = g.links.turn in
    cond (is_line t) (line_answered g s e) (answered g (asks_for g s e) s.alerts t.alert)

abbrev pub timed : Handler → Sample → Effects → Meets
timed g s e = meets g s e (turn_answered g s e)

-- a ping that fails closes
unfoldable pub receiver_timed : Handler → Sample → Effects → ℕ → Receiver
receiver_timed g s e i =
    let r = receiver_after g (asks_for g s e) s.alerts i in
    record {
      stands = r.stands;
      level = r.level;
      pending = r.pending && not (ltb i g.n && (fails_alert (timed g s e) g.links.turn && eqb i g.links.turn.alert));
    }

-- ── local alert j ──

-- local 0 is raised if an alert's ping fails, local 1 if a line's does, local 2 if any enabled alert has equal wires, local 3 if any line's receive pair
-- is wrong, the others by step 1: local 5 by a write that differs from its stage
unfoldable pub raised : Handler → Sample → Effects → ℕ → Bool
raised g s e j =
    (eqb j 0 && fails_alert (timed g s e) g.links.turn)
    || ((eqb j 1 && fails_line (timed g s e) g.links.turn)
    || ((eqb j 2 && any_to (alert_broken g s.alerts) g.n) || ((eqb j 3 && any_to (line_wrong g s) line_count) || bit e.raises j)))

-- ── what step 2 hears: nothing below reads a wire, a receiver or the timer ──

unfoldable pub heard : Handler → Sample → Effects → Heard
heard g s e =
    record {
      receivers = receivers_by (receiver_timed g s e);
      events = words_by words (happened g (asks_for g s e) s.alerts);
      answers = words_by words (answered g (asks_for g s e) s.alerts);
      raises = bits_of local_count (raised g s e);
      meets = timed g s e;
      checked = checks s.receive;
      right = right_after (checks s.receive) (before g s e) g.links.turn (was_right g) (line_wrong g s (line_of g.links.turn));
    }

-- an enabled alert's event
unfoldable pub alert_event : Handler → Heard → ℕ → Bool
alert_event g v i = ltb i g.n && (place_in v.events i && alert_enabled g i)

-- a disabled local alert never occurs
unfoldable pub occurs : Handler → Heard → ℕ → Bool
occurs g v j = bit v.raises j && eqb (local g Field.En j) 1

-- ── the registers after step 2, and what is assigned to a class ──

-- an event sets its cause
abbrev pub marked : Bool → ℕ → ℕ
marked on cause = cond on 1 cause

unfoldable pub sampled : Handler → Heard → Handler
sampled g v =
    with_alerts (with_alert_column Field.Cause (each most (λ i. marked (alert_event g v i) (alert g Field.Cause i))) g.alerts)
    (with_locals (with_local_column Field.Cause (each local_count (λ j. marked (occurs g v j) (local g Field.Cause j))) g.locals) g)

-- an enabled alert's event or an occurring local alert is assigned to class k
unfoldable pub assigned : Handler → Heard → ℕ → Bool
assigned g v k =
    any_to (λ i. alert_event g v i && eqb (alert g Field.Class i) k) g.n
    || any_to (λ j. occurs g v j && eqb (local g Field.Class j) k) local_count

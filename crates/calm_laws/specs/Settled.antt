-- Request (xii): a calm tick of a state whose ping timer is off, by what it reads of the state; and a state that has come to rest, of which it moves the
-- classes and the senders alone.
-- Assumes nothing.
use Rattle.std.specs.Prelude.{ℕ, suc, ◌<◌, ◌≡◌, Bool, false, cond, ◌&&◌, ◌||◌, List, eqb, ltb}
use Rattle.bits.specs.Bits.{bit, bits_of}
use Rattle.bits.specs.Index.{each, any_to}
use Rattle.class_rules.specs.Step.{class_event}
use Rattle.class_rules.specs.declared.Class.{Class}
use Rattle.class_rules.specs.declared.Signals.{Signals}
use Rattle.link_rules.specs.Receiver.{received}
use Rattle.link_rules.specs.Senders.{sent_all}
use Rattle.link_rules.specs.declared.Given.{Given}
use Rattle.link_rules.specs.declared.Received.{Received}
use Rattle.link_rules.specs.declared.Receiver.{Receiver}
use Rattle.link_rules.specs.declared.Senders.{Senders}
use Rattle.rules.specs.Samples.{positive, negative, alert_enabled, alert_broken, marked}
use Rattle.rules.specs.State.{most, local_count, local, alert, class_at, receiver, receivers_by, with_alert_column, with_local_column}
use Rattle.rules.specs.declared.Alerts.{Alerts}
use Rattle.rules.specs.declared.Field.{Field}
use Rattle.rules.specs.declared.Handler.{Handler}
use Rattle.rules.specs.declared.Locals.{Locals}
use Rattle.rules.specs.declared.Wires.{Wires}
use Rattle.laws.specs.OutputMasks.{lines_on}
use Rattle.calm_laws.specs.Four.{class_of, four_step}
use Rattle.calm_laws.specs.Steady.{steady}

-- ── what it reads ──

-- alert i: no ping is asked for
abbrev pub wires_alone : Wires → ℕ → Given
wires_alone w i = record { asks = false; pos = positive w i; neg = negative w i }

abbrev pub calm_received : Handler → Wires → ℕ → Received
calm_received g w i = received (wires_alone w i) (receiver g i)

abbrev pub calm_receiver : Handler → Wires → ℕ → Receiver
calm_receiver g w i = cond (ltb i g.n) (calm_received g w i).receiver (receiver g i)

-- an enabled alert's event
abbrev pub calm_event : Handler → Wires → ℕ → Bool
calm_event g w i = ltb i g.n && ((calm_received g w i).event && alert_enabled g i)

-- local alert j: by equal wires alone
abbrev pub calm_occurs : Handler → Wires → ℕ → Bool
calm_occurs g w j = (eqb j 2 && any_to (alert_broken g w) g.n) && eqb (local g Field.En j) 1

-- class k
abbrev pub calm_assigned : Handler → Wires → ℕ → Bool
calm_assigned g w k =
    any_to (λ i. calm_event g w i && eqb (alert g Field.Class i) k) g.n || any_to (λ j. calm_occurs g w j && eqb (local g Field.Class j) k) local_count

abbrev pub calm_class_event : Handler → Wires → ℕ → Bool
calm_class_event g w k = class_event (calm_assigned g w k) (class_at g k)

abbrev pub calm_interrupt : Handler → Wires → ℕ → Bool
calm_interrupt g w k = bit g.interrupts.state k || calm_class_event g w k

unfoldable pub calm_signals : Handler → Wires → ℕ → Signals
calm_signals g w k = record { event = calm_class_event g w k; interrupt = calm_interrupt g w k; clear = false }

-- ── what it leaves ──

abbrev pub calm_alerts : Handler → Wires → Alerts
calm_alerts g w = with_alert_column Field.Cause (each most (λ i. marked (calm_event g w i) (alert g Field.Cause i))) g.alerts

abbrev pub calm_locals : Handler → Wires → Locals
calm_locals g w = with_local_column Field.Cause (each local_count (λ j. marked (calm_occurs g w j) (local g Field.Cause j))) g.locals

-- the lines' open pings, of which there are none: the bits from 4 up are no line's
abbrev pub calm_lines : Handler → ℕ
calm_lines g = bits_of 32 (bit g.links.lines)

unfoldable pub calm_after : Handler → Wires → Handler
calm_after g w =
    let cs = four_step (calm_signals g w) g.classes in
    record {
      n = g.n;
      links =
          record {
            receivers = receivers_by (calm_receiver g w);
            turn = g.links.turn;
            lines = calm_lines g;
            senders = sent_all g.links.senders (steady (lines_on cs));
            right = 0;
          };
      classes = cs;
      alerts = calm_alerts g w;
      locals = calm_locals g w;
      interrupts = record { state = bits_of 4 (calm_interrupt g w); enable = g.interrupts.enable };
      timer = g.timer;
      stages = g.stages;
    }

-- ── a state at rest ──

-- the state with these classes and senders
abbrev pub moved : List Class → Senders → Handler → Handler
moved cs ss g =
    record {
      n = g.n;
      links =
          record {
            receivers = g.links.receivers;
            turn = g.links.turn;
            lines = g.links.lines;
            senders = ss;
            right = g.links.right;
          };
      classes = cs;
      alerts = g.alerts;
      locals = g.locals;
      interrupts = g.interrupts;
      timer = g.timer;
      stages = g.stages;
    }

-- receivers, causes and INTR_STATE have come to rest on the wires w
pub record Settled (g : Handler) (w : Wires) : Type 0 where
  pub receivers : receivers_by (calm_receiver g w) ≡ g.links.receivers
  pub lines : calm_lines g ≡ g.links.lines
  pub right : 0 ≡ g.links.right
  pub alerts : calm_alerts g w ≡ g.alerts
  pub locals : calm_locals g w ≡ g.locals
  pub bits : bits_of 4 (calm_interrupt g w) ≡ g.interrupts.state

-- as many plain ticks on steady wires settle any state: a pause of two and the rise that waited in it
abbrev pub settle_before : ℕ
settle_before = 2

abbrev pub settle_ticks : ℕ
settle_ticks = suc settle_before

-- classes whose CTRL is that of others
pub record SameCtrl (cs ds : List Class) : Type 0 where
  pub ctrl : (k : ℕ) → k < 4 → (class_of cs k).ctrl ≡ (class_of ds k).ctrl

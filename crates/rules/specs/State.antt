-- The state by index, and a new handler ("What the stations need").
-- Assumes nothing.
use Rattle.std.specs.Prelude.{ℕ, Bool, cond, ◌||◌, List, eqb, ltb, get_or, replicate}
use Rattle.bits.specs.Index.{each, place_in, words_by}
use Rattle.class_rules.specs.Class.{no_class}
use Rattle.class_rules.specs.declared.Class.{Class}
use Rattle.link_rules.specs.Codes.{handshake_of, pausing_bit, busy_bit}
use Rattle.link_rules.specs.Receiver.{new_receiver}
use Rattle.link_rules.specs.Sender.{new_sender}
use Rattle.link_rules.specs.Senders.{sender_in, senders_by}
use Rattle.link_rules.specs.declared.Receiver.{Receiver}
use Rattle.link_rules.specs.declared.Sender.{Sender}
use Rattle.rules.specs.Answer.{number}
use Rattle.rules.specs.declared.Alerts.{Alerts}
use Rattle.rules.specs.declared.Answer.{Answer}
use Rattle.rules.specs.declared.Field.{Field}
use Rattle.rules.specs.declared.Handler.{Handler}
use Rattle.rules.specs.declared.Interrupts.{Interrupts}
use Rattle.rules.specs.declared.Locals.{Locals}
use Rattle.rules.specs.declared.Made.{Made}
use Rattle.rules.specs.declared.Links.{Links}
use Rattle.rules.specs.declared.Receivers.{Receivers}
use Rattle.rules.specs.declared.Refusal.TheVariants.{BadCount}
use Rattle.rules.specs.declared.Stages.{Stages}
use Rattle.rules.specs.declared.Timer.{Timer}

-- ── sizes ──

-- the most alerts, and the words of 64 that hold a bit of each
abbrev pub most : ℕ
most = 248

abbrev pub words : ℕ
words = 4

-- local alerts and classes
abbrev pub local_count : ℕ
local_count = 7

abbrev pub class_count : ℕ
class_count = 4

-- ── what it holds, by index ──

-- the map's order of an alert's registers: REGWEN, EN, CLASS, CAUSE
abbrev pub field_index : Field → ℕ
field_index Field.Regwen = 0
field_index Field.En = 1
field_index Field.Class = 2
field_index Field.Cause = 3

abbrev pub local_column : Field → Locals → List ℕ
local_column Field.Regwen l = l.regwen
local_column Field.En l = l.en
local_column Field.Class l = l.class
local_column Field.Cause l = l.cause

abbrev pub alert_column : Field → Alerts → List ℕ
alert_column Field.Regwen a = a.regwen
alert_column Field.En a = a.en
alert_column Field.Class a = a.class
alert_column Field.Cause a = a.cause

-- register f of local alert j, and of alert i
abbrev pub local : Handler → Field → ℕ → ℕ
local h f j = get_or (local_column f h.locals) j 0

abbrev pub alert : Handler → Field → ℕ → ℕ
alert h f i = get_or (alert_column f h.alerts) i 0

abbrev pub class_at : Handler → ℕ → Class
class_at h k = get_or h.classes k no_class

-- alert i's receiver
abbrev pub receiver_in : Receivers → ℕ → Receiver
receiver_in r i =
    record {
      stands = handshake_of (place_in r.pausing i) (place_in r.busy i);
      level = place_in r.level i;
      pending = place_in r.pending i;
    }

abbrev pub receiver : Handler → ℕ → Receiver
receiver h i = receiver_in h.links.receivers i

-- request (xi): line e's sender
abbrev pub sender : Handler → ℕ → Sender
sender h e = sender_in h.links.senders e

-- request (ix): the ping timer is on
abbrev pub is_on : Handler → Bool
is_on h = eqb h.timer.enable 1

-- the receivers of which that of alert i is f i
abbrev pub receivers_by : (ℕ → Receiver) → Receivers
receivers_by f =
    record {
      pausing = words_by words (λ i. pausing_bit (f i).stands);
      busy = words_by words (λ i. busy_bit (f i).stands);
      level = words_by words (λ i. (f i).level);
      pending = words_by words (λ i. (f i).pending);
    }

-- ── the state with a part of it anew ──

abbrev pub with_interrupts : Interrupts → Handler → Handler
with_interrupts x h =
    record { n = h.n; links = h.links; classes = h.classes; alerts = h.alerts; locals = h.locals; interrupts = x; timer = h.timer; stages = h.stages }

abbrev pub with_locals : Locals → Handler → Handler
with_locals x h =
    record { n = h.n; links = h.links; classes = h.classes; alerts = h.alerts; locals = x; interrupts = h.interrupts; timer = h.timer; stages = h.stages }

abbrev pub with_alerts : Alerts → Handler → Handler
with_alerts x h =
    record { n = h.n; links = h.links; classes = h.classes; alerts = x; locals = h.locals; interrupts = h.interrupts; timer = h.timer; stages = h.stages }

abbrev pub with_links : Links → Handler → Handler
with_links x h =
    record { n = h.n; links = x; classes = h.classes; alerts = h.alerts; locals = h.locals; interrupts = h.interrupts; timer = h.timer; stages = h.stages }

abbrev pub with_classes : List Class → Handler → Handler
with_classes x h =
    record { n = h.n; links = h.links; classes = x; alerts = h.alerts; locals = h.locals; interrupts = h.interrupts; timer = h.timer; stages = h.stages }

abbrev pub with_stages : Stages → Handler → Handler
with_stages x h =
    record { n = h.n; links = h.links; classes = h.classes; alerts = h.alerts; locals = h.locals; interrupts = h.interrupts; timer = h.timer; stages = x }

abbrev pub with_timer : Timer → Handler → Handler
with_timer x h =
    record {
      n = h.n;
      links = h.links;
      classes = h.classes;
      alerts = h.alerts;
      locals = h.locals;
      interrupts = h.interrupts;
      timer = x;
      stages = h.stages;
    }

abbrev pub with_local_column : Field → List ℕ → Locals → Locals
with_local_column f x l =
    record {
      regwen = cond (eqb (field_index f) 0) x l.regwen;
      en = cond (eqb (field_index f) 1) x l.en;
      class = cond (eqb (field_index f) 2) x l.class;
      cause = cond (eqb (field_index f) 3) x l.cause;
    }

abbrev pub with_alert_column : Field → List ℕ → Alerts → Alerts
with_alert_column f x a =
    record {
      regwen = cond (eqb (field_index f) 0) x a.regwen;
      en = cond (eqb (field_index f) 1) x a.en;
      class = cond (eqb (field_index f) 2) x a.class;
      cause = cond (eqb (field_index f) 3) x a.cause;
    }

-- the n entries of a list, with v at i
unfoldable pub put {ℓ} : {A : Type ℓ} → ℕ → List A → A → ℕ → A → List A
put n xs d i v = each n (λ j. cond (eqb j i) v (get_or xs j d))

-- ── a new handler: all REGWEN and CLR_REGWEN start at 1, all CTRL at 0x393C, every other register at 0, classes Idle, receivers and
-- senders as requests (viii) and (xi) have them at reset ──

abbrev pub reset_class : Class
reset_class =
    record {
      lengths = replicate 4 0;
      timeout = 0;
      count = 0;
      ctrl = 0x393C;
      accum = 0;
      thresh = 0;
      regwen = 1;
      clrwen = 1;
      state = 0;
    }

-- request (v): no stage is open
abbrev pub no_stages : Stages
no_stages =
    record {
      classes = replicate class_count (record { lengths = replicate 4 0; timeout = 0; ctrl = 0; thresh = 0 });
      alerts = record { en = replicate most 0; class = replicate most 0 };
      locals = record { en = replicate local_count 0; class = replicate local_count 0 };
      timeout = 0;
    }

unfoldable pub new_handler : ℕ → Handler
new_handler n =
    record {
      n = n;
      links = record { receivers = receivers_by (λ i. new_receiver); turn = record { number = 0; alert = 0; count = 0 }; lines = 0; senders = senders_by (λ e. new_sender); right = 0 };
      classes = replicate class_count reset_class;
      alerts = record { regwen = replicate most 1; en = replicate most 0; class = replicate most 0; cause = replicate most 0 };
      locals =
          record {
            regwen = replicate local_count 1;
            en = replicate local_count 0;
            class = replicate local_count 0;
            cause = replicate local_count 0;
          };
      interrupts = record { state = 0; enable = 0 };
      timer = record { timeout = 0; regwen = 1; enable = 0 };
      stages = no_stages;
    }

-- refusal 6: N is 0 or over the most; it leaves a handler of no alerts, otherwise as new
abbrev pub bad_count : ℕ → Bool
bad_count n = eqb n 0 || ltb most n

unfoldable pub made : ℕ → Made
made n =
    cond (bad_count n) (record { handler = new_handler 0; answer = number (Answer.Refused BadCount) })
    (record { handler = new_handler n; answer = number Answer.Done })

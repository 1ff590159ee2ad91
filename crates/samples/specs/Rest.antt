-- A step 2 that leaves the links as they are, but for the count of a turn that waits and for what the senders send: every alert rests, no ping is open
-- and none opens, and every receive pair is right. Where every sender rests too and no line is on, the count alone can move.
-- Assumes nothing.
use Rattle.std.specs.Prelude.{ℕ, ◌-◌, ◌*◌, ◌<◌, ◌≡◌, Bool, false, cond, not, ◌&&◌, ◌||◌, eqb, ltb}
use Rattle.bits.specs.Bits.{bit}
use Rattle.bits.specs.Index.{place_in}
use Rattle.link_rules.specs.Senders.{sent_all}
use Rattle.link_rules.specs.declared.Drive.{Drive}
use Rattle.link_rules.specs.declared.Senders.{Senders}
use Rattle.rules.specs.Samples.{positive, negative, checks}
use Rattle.rules.specs.State.{words, receiver_in, receivers_by}
use Rattle.rules.specs.declared.Links.{Links}
use Rattle.rules.specs.declared.Receivers.{Receivers}
use Rattle.rules.specs.declared.Sample.{Sample}
use Rattle.rules.specs.declared.Timer.{Timer}
use Rattle.rules.specs.declared.Wires.{Wires}
use Rattle.samples.specs.Linked.{linked_by}
use Rattle.samples.specs.Paced.{timed_by, receiver_by, right_by}
use Rattle.samples.specs.Quiet.{QuietBy}
use Rattle.samples.specs.declared.pace.Met.{Met}

-- alert i stirs: it is below n, and its wires are not (0,1) or its receiver is not ready
abbrev pub stirs : ℕ → Receivers → Wires → ℕ → Bool
stirs n r w i = (((positive w i || not (negative w i)) || place_in r.pausing i) || place_in r.busy i) && ltb i n

-- no alert stirs; and the words hold the receivers of their places and nothing else
pub record AlertsRest (n : ℕ) (r : Receivers) (w : Wires) : Type 0 where
  pub none_stirs : (i : ℕ) → i < words * 64 → stirs n r w i ≡ false
  pub whole : receivers_by (receiver_in r) ≡ r

-- the count of a turn that waits, after the tick: its ping is a tick nearer, if the timer is on
abbrev pub waited : Timer → ℕ → ℕ
waited c count = cond (eqb c.enable 1) (count - 1) count

-- the links k with these senders, and with this count of their turn
abbrev pub with_sent : Senders → ℕ → Links → Links
with_sent senders count k =
    record {
      receivers = k.receivers;
      turn = record { number = k.turn.number; alert = k.turn.alert; count = count };
      lines = k.lines;
      senders = senders;
      right = k.right;
    }

abbrev pub with_count : ℕ → Links → Links
with_count count k = with_sent k.senders count k

-- line e is on or not, and no ping opens on it
abbrev pub driven : ℕ → ℕ → Drive
driven lit e = record { line = bit lit e; ping = false }

-- what step 2 leaves for the links, in a tick that does not start the timer
abbrev pub left_by : ℕ → Links → Timer → Bool → Sample → Met
left_by n k c pingable s =
    record {
      receivers = receivers_by (receiver_by n k c false pingable s);
      meets = timed_by n k c false pingable s;
      checked = checks s.receive;
      right = right_by n k c false pingable s;
    }

-- nothing comes of it but for the links, whatever alert is drawn; and these only wait and send, whatever lines are on in step 5
pub record SendsBy (n : ℕ) (k : Links) (c : Timer) (s : Sample) : Type 0 where
  pub quiet : (pingable : Bool) → QuietBy n k c pingable s (left_by n k c pingable s)
  pub links :
      (pingable : Bool) (lit : ℕ)
      → linked_by k (left_by n k c pingable s) lit ≡ with_sent (sent_all k.senders (driven lit)) (waited c k.turn.count) k

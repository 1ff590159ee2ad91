-- What a step 2 promises of which nothing comes but for the links, in a tick that does not start the timer.
-- Assumes nothing.
use Rattle.std.specs.Prelude.{ℕ, ◌<◌, ◌≡◌, Bool, false, ◌&&◌, List, eqb, get_or}
use Rattle.bits.specs.Index.{any_to}
use Rattle.link_rules.specs.Senders.{line_count}
use Rattle.link_rules.specs.Timer.{fails_alert, fails_line}
use Rattle.rules.specs.Samples.{checks}
use Rattle.rules.specs.State.{most, receivers_by}
use Rattle.rules.specs.declared.Links.{Links}
use Rattle.rules.specs.declared.Sample.{Sample}
use Rattle.rules.specs.declared.Timer.{Timer}
use Rattle.samples.specs.Paced.{asks_by, timed_by, receiver_by, right_by, wrong_by}
use Rattle.samples.specs.Received.{happens_at, equal_at}
use Rattle.samples.specs.declared.pace.Met.{Met}

-- no place of the four words is set
abbrev pub none_set : List ℕ → Bool
none_set ws = eqb (get_or ws 0 0) 0 && (eqb (get_or ws 1 0) 0 && (eqb (get_or ws 2 0) 0 && eqb (get_or ws 3 0) 0))

-- m is what step 2 leaves for the links, and no alert has an event, enabled or not, none has equal wires, no ping fails, and no receive pair is wrong
pub record QuietBy (n : ℕ) (k : Links) (c : Timer) (pingable : Bool) (s : Sample) (m : Met) : Type 0 where
  pub leaves :
      m
      ≡ record {
        receivers = receivers_by (receiver_by n k c false pingable s);
        meets = timed_by n k c false pingable s;
        checked = checks s.receive;
        right = right_by n k c false pingable s;
      }
  pub no_event : (i : ℕ) → i < most → happens_at n k.receivers (asks_by n k c false pingable s) s.alerts i ≡ false
  pub none_equal : (i : ℕ) → i < most → equal_at n k.receivers (asks_by n k c false pingable s) s.alerts i ≡ false
  pub no_alert_fails : fails_alert (timed_by n k c false pingable s) k.turn ≡ false
  pub no_line_fails : fails_line (timed_by n k c false pingable s) k.turn ≡ false
  pub none_wrong : any_to (wrong_by n k c false pingable s) line_count ≡ false

-- Request (xii): the senders over ticks in which the lines stay as they are and no ping opens. "a sender's answer turns in every tick of a line that is
-- on", so that many ticks are as few as leave the same answer.
-- Assumes nothing.
use Rattle.std.specs.Prelude.{ℕ, zero, suc, ◌+◌, ◌-◌, ◌%◌, Bool, false, cond, ltb}
use Rattle.bits.specs.Bits.{bit}
use Rattle.link_rules.specs.Sender.{sent}
use Rattle.link_rules.specs.Senders.{sent_all}
use Rattle.link_rules.specs.declared.Drive.{Drive}
use Rattle.link_rules.specs.declared.Sender.{Sender}
use Rattle.link_rules.specs.declared.Senders.{Senders}

-- what a sender is given: its line, and no ping
abbrev pub line_alone : Bool → Drive
line_alone on = record { line = on; ping = false }

abbrev pub steady : ℕ → ℕ → Drive
steady lit e = line_alone (bit lit e)

-- one sender after m ticks
unfoldable pub sent_for : Bool → ℕ → Sender → Sender
sent_for on zero s = s
sent_for on (suc m) s = sent (sent_for on m s) (line_alone on)

-- the four after m ticks in which these lines are on
unfoldable pub senders_for : ℕ → ℕ → Senders → Senders
senders_for lit zero s = s
senders_for lit (suc m) s = sent_all (senders_for lit m s) (steady lit)

-- as many ticks as do for m of them: after four a sender is as it was every second tick
unfoldable pub short : ℕ → ℕ
short m = cond (ltb m 4) m (4 + (m - 4) % 2)

-- Request (xi), a line's ping on its wires: what comes of it for the timer. m is what the timer meets before any answer and closing, t is its turn, and
-- `right` says that all answers to the open ping were right so far.
-- Assumes nothing.
use Rattle.std.specs.Prelude.{Bool, ◌&&◌, ◌||◌}
use Rattle.link_rules.specs.Sender.{closes, still_right, is_answered}
use Rattle.link_rules.specs.Timer.{is_line, opens, open_now, age}
use Rattle.link_rules.specs.declared.Drive.{Drive}
use Rattle.link_rules.specs.declared.Meets.{Meets}
use Rattle.link_rules.specs.declared.Sender.{Sender}
use Rattle.link_rules.specs.declared.Turn.{Turn}

-- a ping that opens has no wrong answer yet
abbrev pub right_before : Meets → Turn → Bool → Bool
right_before m t right = opens m t || right

-- the open ping is answered in this tick, whose answer is wrong or not
unfoldable pub answered_by_wires : Meets → Turn → Bool → Bool → Bool
answered_by_wires m t right is_wrong = open_now m t && is_answered (age m t) (right_before m t right) is_wrong

-- all answers to it were right, up to this tick's. "senders unchecked": an answer that nobody checked is no right one
unfoldable pub right_after : Bool → Meets → Turn → Bool → Bool → Bool
right_after checked m t right is_wrong =
    checked && (is_line t && (open_now m t && still_right (age m t) (right_before m t right) is_wrong))

-- "A real escalation wins over a ping and closes it unfailed; a ping due right after one on the wire closes unsent": s is the sender of the turn's line
-- and d what it is given; "older editions run as in (ix)"
unfoldable pub closed_by_line : Bool → Meets → Turn → Sender → Drive → Bool
closed_by_line checked m t s d = checked && (is_line t && (open_now m t && closes s d))

-- what the timer met, with what closes the turn's ping
abbrev pub closing : Bool → Meets → Meets
closing closed m =
    record {
      runs = m.runs;
      begins = m.begins;
      timeout = m.timeout;
      word = m.word;
      pingable = m.pingable;
      pending = m.pending;
      answered = m.answered;
      closed = closed;
    }

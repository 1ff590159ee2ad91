-- Request (xi), the senders of the four lines in words, bit e for line e: any words are four senders, so that refusal 7 has nothing to look at.
-- Assumes nothing.
use Rattle.std.specs.Prelude.{ℕ}
use Rattle.bits.specs.Bits.{bit, bits_of}
use Rattle.link_rules.specs.Codes.{response_of, last_bit, deep_bit}
use Rattle.link_rules.specs.Sender.{sent}
use Rattle.link_rules.specs.declared.Drive.{Drive}
use Rattle.link_rules.specs.declared.Sender.{Sender}
use Rattle.link_rules.specs.declared.Senders.{Senders}

-- escalation lines
abbrev pub line_count : ℕ
line_count = 4

-- line e's sender
abbrev pub sender_in : Senders → ℕ → Sender
sender_in s e =
    record {
      on = bit s.on e;
      first = bit s.first e;
      sound = record { stands = response_of (bit s.last e) (bit s.deep e); answer = bit s.answer e };
    }

-- the senders of which that of line e is f e
abbrev pub senders_by : (ℕ → Sender) → Senders
senders_by f =
    record {
      on = bits_of line_count (λ e. (f e).on);
      first = bits_of line_count (λ e. (f e).first);
      last = bits_of line_count (λ e. last_bit (f e).sound.stands);
      deep = bits_of line_count (λ e. deep_bit (f e).sound.stands);
      answer = bits_of line_count (λ e. (f e).sound.answer);
    }

-- after a tick in which line e's is given d e
abbrev pub sent_all : Senders → (ℕ → Drive) → Senders
sent_all s d = senders_by (λ e. sent (sender_in s e) (d e))

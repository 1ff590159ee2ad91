-- Request (xi), the receivers at the ends of the four lines in words, bit e for line e: any words are four receivers.
-- Assumes nothing.
use Rattle.std.specs.Prelude.{ℕ, Bool}
use Rattle.bits.specs.Bits.{bit, bits_of}
use Rattle.link_rules.specs.Codes.{response_of, last_bit, deep_bit}
use Rattle.link_rules.specs.EscalationReceiver.{responds_positive, responds_negative, escalates, listened}
use Rattle.link_rules.specs.Senders.{line_count}
use Rattle.link_rules.specs.declared.EscalationReceiver.{EscalationReceiver}
use Rattle.link_rules.specs.declared.LineReceivers.{LineReceivers}
use Rattle.link_rules.specs.declared.Listened.{Listened}

-- line e's receiver
abbrev pub escalation_receiver_in : LineReceivers → ℕ → EscalationReceiver
escalation_receiver_in r e =
    record {
      sound = record { stands = response_of (bit r.last e) (bit r.deep e); answer = bit r.answer e };
      broken = bit r.broken e;
    }

-- the receivers of which that of line e is f e
abbrev pub line_receivers_by : (ℕ → EscalationReceiver) → LineReceivers
line_receivers_by f =
    record {
      last = bits_of line_count (λ e. last_bit (f e).sound.stands);
      deep = bits_of line_count (λ e. deep_bit (f e).sound.stands);
      answer = bits_of line_count (λ e. (f e).sound.answer);
      broken = bits_of line_count (λ e. (f e).broken);
    }

-- what they give in a tick in which line e's pair is (p e, m e): what each sends back goes by where it stands before the tick
abbrev pub listened_all : LineReceivers → (ℕ → Bool) → (ℕ → Bool) → Listened
listened_all r p m =
    record {
      receivers = line_receivers_by (λ e. listened (escalation_receiver_in r e) (p e) (m e));
      positive = bits_of line_count (λ e. responds_positive (escalation_receiver_in r e));
      negative = bits_of line_count (λ e. responds_negative (escalation_receiver_in r e));
      seen = bits_of line_count (λ e. escalates (escalation_receiver_in r e) (p e) (m e));
    }

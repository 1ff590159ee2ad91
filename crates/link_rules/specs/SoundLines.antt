-- Request (xi), the four senders and the receivers at their lines' ends, in words, all new: over lists of ticks of any length.
-- Assumes nothing.
use Rattle.std.specs.Prelude.{ℕ, ◌≡◌, Bool, not, ◌&&◌, List, [], ◌∷◌}
use Rattle.bits.specs.Bits.{bit, bits_of}
use Rattle.link_rules.specs.EscalationReceiver.{new_escalation_receiver}
use Rattle.link_rules.specs.LineReceivers.{line_receivers_by, listened_all}
use Rattle.link_rules.specs.Sender.{new_sender, wrong}
use Rattle.link_rules.specs.Senders.{line_count, sender_in, senders_by, sent_all}
use Rattle.link_rules.specs.declared.Drive.{Drive}
use Rattle.link_rules.specs.declared.LineReceivers.{LineReceivers}
use Rattle.link_rules.specs.declared.Listened.{Listened}
use Rattle.link_rules.specs.declared.Senders.{Senders}

-- a tick of the receivers in which the senders, t after it, have sent: the pairs of a tick are `last` after it
abbrev pub listened_to : Senders → LineReceivers → Listened
listened_to t r = listened_all r (bit t.last) (λ e. not (bit t.last e))

-- the senders after these ticks, in each of which line e's is given d e, and the receivers
unfoldable pub sents_all : Senders → List (ℕ → Drive) → Senders
sents_all s [] = s
sents_all s (d ∷ ds) = sents_all (sent_all s d) ds

unfoldable pub listeneds_to : Senders → LineReceivers → List (ℕ → Drive) → LineReceivers
listeneds_to s r [] = r
listeneds_to s r (d ∷ ds) = listeneds_to (sent_all s d) (listened_to (sent_all s d) r).receivers ds

abbrev pub senders_then : List (ℕ → Drive) → Senders
senders_then ds = sents_all (senders_by (λ e. new_sender)) ds

abbrev pub receivers_then : List (ℕ → Drive) → LineReceivers
receivers_then ds = listeneds_to (senders_by (λ e. new_sender)) (line_receivers_by (λ e. new_escalation_receiver)) ds

-- in the tick after these, with whatever pairs
pub record SoundLines (ds : List (ℕ → Drive)) : Type 0 where
  -- no sender finds fault with what its receiver sends back
  pub never_wrong :
      (p m : ℕ → Bool) → let x = listened_all (receivers_then ds) p m in
      bits_of line_count (λ e. wrong (sender_in (senders_then ds) e) (bit x.positive e) (bit x.negative e)) ≡ 0
  -- a receiver sees an escalation exactly where its pair is on in this tick and the one before
  pub sees_exactly :
      (d : ℕ → Drive) → let s = senders_then ds in let t = sent_all s d in
      (listened_to t (receivers_then ds)).seen ≡ bits_of line_count (λ e. bit t.last e && bit s.last e)

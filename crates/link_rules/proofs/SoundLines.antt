-- Request (xi), the four senders and the receivers at their lines' ends, in words: proved of every list of ticks.
-- Assumes nothing.
use Prim.Native.Nat.{ℕ, ◌<◌}
use mathlib.Core.Path.{◌≡◌, refl, sym, ap, ap₂, ◌∙◌}
use mathlib.Core.Bool.{Bool, false, not, ◌&&◌}
use mathlib.Core.List.{List, [], ◌∷◌}
use Rattle.bits.specs.Bits.{bit, bits_of}
use Rattle.bits.proofs.BitLaws.{bit_bits_of}
use Rattle.link_rules.proofs.CodeLaws.{response_back, last_back}
use Rattle.link_rules.proofs.Seen.{sees_on, escalates_sound, listened_sound, was_pair, sent_hearing, right}
use Rattle.link_rules.proofs.SenderLaws.{sender_by, bits_ext}
use Rattle.link_rules.specs.Codes.{response_of, last_bit, deep_bit}
use Rattle.link_rules.specs.EscalationReceiver.{new_escalation_receiver, sound_after, escalates, listened, responds_positive, responds_negative}
use Rattle.link_rules.specs.LineReceivers.{escalation_receiver_in, line_receivers_by, listened_all}
use Rattle.link_rules.specs.Sender.{new_sender, pair, sent, wrong}
use Rattle.link_rules.specs.Senders.{line_count, sender_in, senders_by, sent_all}
use Rattle.link_rules.specs.SoundLines.{listened_to, sents_all, listeneds_to, senders_then, receivers_then, SoundLines}
use Rattle.link_rules.specs.declared.Drive.{Drive}
use Rattle.link_rules.specs.declared.EscalationReceiver.{EscalationReceiver}
use Rattle.link_rules.specs.declared.LineReceivers.{LineReceivers}
use Rattle.link_rules.specs.declared.Sender.{Sender}
use Rattle.link_rules.specs.declared.Senders.{Senders}
use Rattle.link_rules.specs.declared.SoundReceiver.{SoundReceiver}

-- receivers made by their lines, looked at one by one
pub receiver_by : (f : ℕ → EscalationReceiver) (e : ℕ) → e < line_count → escalation_receiver_in (line_receivers_by f) e ≡ f e
receiver_by f e l =
    let a = bit_bits_of line_count (λ i. (f i).sound.answer) e l in
    let b = bit_bits_of line_count (λ i. (f i).broken) e l in
    let d : response_of (bit (line_receivers_by f).last e) (bit (line_receivers_by f).deep e) ≡ (f e).sound.stands =
    ap₂ response_of (bit_bits_of line_count (λ i. last_bit (f i).sound.stands) e l) (bit_bits_of line_count (λ i. deep_bit (f i).sound.stands) e l)
    ∙ response_back (f e).sound.stands in
    λ i. record { sound = record { stands = d i; answer = a i }; broken = b i }

-- 0 is four new receivers
pub new_receivers : line_receivers_by (λ e. new_escalation_receiver) ≡ record { last = 0; deep = 0; answer = 0; broken = 0 }
unfolding bits_of
new_receivers = refl

-- each receiver is the one that its line's sender expects
abbrev Agree : Senders → LineReceivers → Type 0
Agree s r = (e : ℕ) → e < line_count → escalation_receiver_in r e ≡ record { sound = (sender_in s e).sound; broken = false }

agree_new : Agree (senders_by (λ e. new_sender)) (line_receivers_by (λ e. new_escalation_receiver))
agree_new e l =
    receiver_by (λ i. new_escalation_receiver) e l
    ∙ ap (λ (s : Sender). record { sound = s.sound; broken = false }) (sym (sender_by (λ i. new_sender) e l))

module _ (s : Senders) (r : LineReceivers) (a : Agree s r) (d : ℕ → Drive) where
  abbrev next : Senders
  next = sent_all s d

  -- the pair on the wire
  pair_is : (e : ℕ) → e < line_count → bit next.last e ≡ pair (sender_in s e) (d e)
  pair_is e l = bit_bits_of line_count (λ i. last_bit (sent (sender_in s i) (d i)).sound.stands) e l ∙ was_pair (sender_in s e) (d e)

  agree_next : Agree next (listened_to next r).receivers
  agree_next e l =
      let q = bit next.last e in
      receiver_by (λ i. listened (escalation_receiver_in r i) (bit next.last i) (not (bit next.last i))) e l
      ∙ ap (λ (x : EscalationReceiver). listened x q (not q)) (a e l)
      ∙ listened_sound (sender_in s e).sound q
      ∙ ap (λ b. record { sound = sound_after (sender_in s e).sound b; broken = false }) (pair_is e l)
      ∙ sym (ap (λ (x : Sender). record { sound = x.sound; broken = false }) (sender_by (λ i. sent (sender_in s i) (d i)) e l)
      ∙ ap (λ (h : SoundReceiver). record { sound = h; broken = false }) (sent_hearing (sender_in s e) (d e)))

  sees_next : (e : ℕ) → e < line_count
      → escalates (escalation_receiver_in r e) (bit next.last e) (not (bit next.last e)) ≡ bit next.last e && bit s.last e
  sees_next e l =
      let q = bit next.last e in
      ap (λ (x : EscalationReceiver). escalates x q (not q)) (a e l)
      ∙ escalates_sound (sender_in s e).sound q
      ∙ sees_on (sender_in s e).sound q
      ∙ ap (λ b. q && b) (last_back (bit s.last e) (bit s.deep e))

agrees : (s : Senders) (r : LineReceivers) (ds : List (ℕ → Drive)) → Agree s r → Agree (sents_all s ds) (listeneds_to s r ds)
unfolding sents_all listeneds_to
agrees s r [] a = a
agrees s r (d ∷ ds) a = agrees (sent_all s d) (listened_to (sent_all s d) r).receivers ds (agree_next s r a d)

-- what a receiver that is expected sends back is right
right_back : (s : Senders) (r : LineReceivers) (p m : ℕ → Bool) → Agree s r → (e : ℕ) → e < line_count
    → wrong (sender_in s e) (bit (listened_all r p m).positive e) (bit (listened_all r p m).negative e) ≡ false
right_back s r p m a e l =
    ap₂ (wrong (sender_in s e)) (bit_bits_of line_count (λ i. responds_positive (escalation_receiver_in r i)) e l)
    (bit_bits_of line_count (λ i. responds_negative (escalation_receiver_in r i)) e l)
    ∙ ap (λ (x : EscalationReceiver). wrong (sender_in s e) (responds_positive x) (responds_negative x)) (a e l)
    ∙ right (sender_in s e) (sender_in s e).sound refl

no_bits : bits_of line_count (λ e. false) ≡ 0
unfolding bits_of
no_bits = refl

pub sound_lines : (ds : List (ℕ → Drive)) → SoundLines ds
sound_lines ds =
    let a = agrees (senders_by (λ e. new_sender)) (line_receivers_by (λ e. new_escalation_receiver)) ds agree_new in
    record {
      never_wrong = λ p m. bits_ext _ (λ e. false) (right_back (senders_then ds) (receivers_then ds) p m a) ∙ no_bits;
      sees_exactly = λ d. bits_ext _ _ (sees_next (senders_then ds) (receivers_then ds) a d);
    }

-- Senders that are as new ones: with no line on and no ping they stay so.
-- Assumes nothing.
use Prim.Native.Nat.{ℕ, ◌^◌, ◌<◌}
use mathlib.Core.Path.{◌≡◌, refl, sym, ap, ap₂, ◌∙◌}
use mathlib.Core.Bool.{Bool, true, false, ◌&&◌}
use native.Mathlib.Omega.{arith}
use borrow.Author.Tests.{eqb-true}
use lib.Dec.{eqb}
use Rattle.bits.specs.Bits.{bit, bits_of}
use Rattle.bits.proofs.BitLaws.{bit_none, is_bits_of}
use Rattle.bits.proofs.IndexLaws.{and-true as both}
use Rattle.link_rules.specs.Codes.{response_of, last_bit, deep_bit}
use Rattle.link_rules.specs.EscalationReceiver.{sound_after}
use Rattle.link_rules.specs.Sender.{new_sender, sent}
use Rattle.link_rules.specs.Senders.{line_count, sender_in, sent_all}
use Rattle.link_rules.specs.declared.Sender.{Sender}
use Rattle.link_rules.specs.declared.Senders.{Senders}
use Rattle.samples.specs.Rest.{driven}

-- every bit of 0 is 0
pub zero_bits : (w : ℕ) (f : ℕ → Bool) → 0 < 2 ^ w → ((k : ℕ) → k < w → f k ≡ false) → 0 ≡ bits_of w f
zero_bits w f p e = is_bits_of w 0 f p (λ k h. bit_none k ∙ sym (e k h))

-- new senders that send nothing stay new
new_stays : sent new_sender (record { line = false; ping = false }) ≡ new_sender
unfolding sent sound_after
new_stays = refl

module _ (s : Senders) (o : s.on ≡ 0) (f : s.first ≡ 0) (l : s.last ≡ 0) (d : s.deep ≡ 0) (a : s.answer ≡ 0) where
  new_sender_law : (e : ℕ) → sender_in s e ≡ new_sender
  new_sender_law e = λ t.
      record {
        on = (ap (λ (x : ℕ). bit x e) o ∙ bit_none e) t;
        first = (ap (λ (x : ℕ). bit x e) f ∙ bit_none e) t;
        sound =
            record {
              stands = response_of ((ap (λ (x : ℕ). bit x e) l ∙ bit_none e) t) ((ap (λ (x : ℕ). bit x e) d ∙ bit_none e) t);
              answer = (ap (λ (x : ℕ). bit x e) a ∙ bit_none e) t;
            };
      }

  after_sent : (e : ℕ) → sent (sender_in s e) (driven 0 e) ≡ new_sender
  after_sent e = ap₂ sent (new_sender_law e) (λ t. record { line = bit_none e t; ping = false }) ∙ new_stays

  pub new_senders : sent_all s (driven 0) ≡ s
  new_senders = sym (λ t.
      record {
        on = (o ∙ zero_bits line_count (λ e. (sent (sender_in s e) (driven 0 e)).on) (omega arith) (λ e h. ap (λ (x : Sender). x.on) (after_sent e))) t;
        first = (f ∙ zero_bits line_count (λ e. (sent (sender_in s e) (driven 0 e)).first) (omega arith) (λ e h. ap (λ (x : Sender). x.first) (after_sent e))) t;
        last =
            (l ∙ zero_bits line_count (λ e. last_bit (sent (sender_in s e) (driven 0 e)).sound.stands) (omega arith)
            (λ e h. ap (λ (x : Sender). last_bit x.sound.stands) (after_sent e))) t;
        deep =
            (d ∙ zero_bits line_count (λ e. deep_bit (sent (sender_in s e) (driven 0 e)).sound.stands) (omega arith)
            (λ e h. ap (λ (x : Sender). deep_bit x.sound.stands) (after_sent e))) t;
        answer =
            (a ∙ zero_bits line_count (λ e. (sent (sender_in s e) (driven 0 e)).sound.answer) (omega arith)
            (λ e h. ap (λ (x : Sender). x.sound.answer) (after_sent e))) t;
      })

-- by the test of the code
pub new_from : (s : Senders) → (eqb s.on 0 && (eqb s.first 0 && (eqb s.last 0 && (eqb s.deep 0 && eqb s.answer 0)))) ≡ true
    → sent_all s (driven 0) ≡ s
new_from s e =
    let s1 = both (eqb s.on 0) _ e in
    let s2 = both (eqb s.first 0) _ s1.1 in
    let s3 = both (eqb s.last 0) _ s2.1 in
    let s4 = both (eqb s.deep 0) (eqb s.answer 0) s3.1 in
    new_senders s (eqb-true _ _ s1.0) (eqb-true _ _ s2.0) (eqb-true _ _ s3.0) (eqb-true _ _ s4.0) (eqb-true _ _ s4.1)

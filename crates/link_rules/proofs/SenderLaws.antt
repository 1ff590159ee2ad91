-- The senders of the four lines, looked at one by one.
-- Assumes nothing.
use Prim.Native.Nat.{ℕ, ◌<◌}
use mathlib.Core.Path.{◌≡◌, ap, ap₂, ◌∙◌}
use mathlib.Core.Bool.{Bool}
use Rattle.bits.proofs.BitLaws.{bit_bits_of, bits_of_lt, is_bits_of}
use Rattle.bits.specs.Bits.{bit, bits_of}
use Rattle.link_rules.proofs.CodeLaws.{response_back}
use Rattle.link_rules.specs.Codes.{response_of, last_bit, deep_bit}
use Rattle.link_rules.specs.Senders.{line_count, sender_in, senders_by}
use Rattle.link_rules.specs.declared.Sender.{Sender}

-- senders made by their lines, looked at one by one
pub sender_by : (f : ℕ → Sender) (e : ℕ) → e < line_count → sender_in (senders_by f) e ≡ f e
sender_by f e l =
    let a = bit_bits_of line_count (λ i. (f i).on) e l in
    let b = bit_bits_of line_count (λ i. (f i).first) e l in
    let c = bit_bits_of line_count (λ i. (f i).sound.answer) e l in
    let d : response_of (bit (senders_by f).last e) (bit (senders_by f).deep e) ≡ (f e).sound.stands =
    ap₂ response_of (bit_bits_of line_count (λ i. last_bit (f i).sound.stands) e l) (bit_bits_of line_count (λ i. deep_bit (f i).sound.stands) e l)
    ∙ response_back (f e).sound.stands in
    λ i. record { on = a i; first = b i; sound = record { stands = d i; answer = c i } }

-- rules that agree at each line make the same senders
pub bits_ext : (f g : ℕ → Bool) → ((e : ℕ) → e < line_count → f e ≡ g e) → bits_of line_count f ≡ bits_of line_count g
bits_ext f g h = is_bits_of line_count (bits_of line_count f) g (bits_of_lt line_count f) (λ e l. bit_bits_of line_count f e l ∙ h e l)

pub senders_ext : (f g : ℕ → Sender) → ((e : ℕ) → e < line_count → f e ≡ g e) → senders_by f ≡ senders_by g
senders_ext f g h = λ i.
    record {
      on = bits_ext (λ e. (f e).on) (λ e. (g e).on) (λ e l. ap (λ (s : Sender). s.on) (h e l)) i;
      first = bits_ext (λ e. (f e).first) (λ e. (g e).first) (λ e l. ap (λ (s : Sender). s.first) (h e l)) i;
      last = bits_ext (λ e. last_bit (f e).sound.stands) (λ e. last_bit (g e).sound.stands) (λ e l. ap (λ (s : Sender). last_bit s.sound.stands) (h e l)) i;
      deep = bits_ext (λ e. deep_bit (f e).sound.stands) (λ e. deep_bit (g e).sound.stands) (λ e l. ap (λ (s : Sender). deep_bit s.sound.stands) (h e l)) i;
      answer = bits_ext (λ e. (f e).sound.answer) (λ e. (g e).sound.answer) (λ e l. ap (λ (s : Sender). s.sound.answer) (h e l)) i;
    }

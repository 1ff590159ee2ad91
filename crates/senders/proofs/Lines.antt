-- The words of the senders, read at one line.
-- Assumes nothing.
use Prim.Native.Nat.{ℕ, ◌-◌, ◌^◌, ◌%◌, ◌<◌}
use mathlib.Core.Path.{◌≡◌, refl, sym, ap, ap₂, ◌∙◌}
use mathlib.Core.Bool.{Bool, not, xor, ◌&&◌, ◌||◌}
use native.Mathlib.Omega.{arith}
use lib.Bits.{bit_and, bit_or, bit_xor, xor_lt}
use Rattle.bits.specs.Bits.{bit, bits_of}
use Rattle.bits.proofs.BitLaws.{bit_and_law, bit_or_law, bit_xor_law, bit_not, bit_mod, is_bits_of}
use Rattle.bits.proofs.TruthTables.{by4}
use Rattle.link_rules.proofs.CodeLaws.{last_back, deep_back, response_after}
use Rattle.link_rules.specs.Codes.{response_of, last_bit, deep_bit, deep_after, answer_after}
use Rattle.link_rules.specs.EscalationReceiver.{sound_after}
use Rattle.link_rules.specs.Pair.{differ, equal}
use Rattle.link_rules.specs.Sender.{pair, pulses, sent, wrong}
use Rattle.link_rules.specs.Senders.{line_count, sender_in}
use Rattle.link_rules.specs.declared.Drive.{Drive}
use Rattle.link_rules.specs.declared.SoundReceiver.{SoundReceiver}
use Rattle.link_rules.specs.declared.Senders.{Senders}

-- `!a` on u32, as the code states it
pub not32 : (a k : ℕ) → a < 2 ^ 32 → k < line_count → bit (4294967295 - a) k ≡ not (bit a k)
not32 a k h l = bit_not 32 a k h (omega (arith, l))

-- the four lowest bits of a word
pub low_bits : (a : ℕ) (f : ℕ → Bool) → ((e : ℕ) → e < line_count → bit a e ≡ f e) → a % 16 ≡ bits_of line_count f
low_bits a f h = is_bits_of line_count (a % 16) f (omega arith) (λ e l. bit_mod line_count a e l ∙ h e l)

wrong_table : (p m a : Bool) → (not (xor p m) || xor p a) ≡ (equal p m || differ p a)
unfolding xor
wrong_table p m a = by4 (λ p m a b. not (xor p m) || xor p a) (λ p m a b. equal p m || differ p a) tt p m a a

pulse_table : (l d g n : Bool) → ((g && not n) && not l) ≡ (g && (not n && not (last_bit (response_of l d))))
pulse_table = by4 (λ l d g n. (g && not n) && not l) (λ l d g n. g && (not n && not (last_bit (response_of l d)))) tt

pub answer_table : (l d a p : Bool) → ((p || xor l d) && not a) ≡ answer_after l d a p
unfolding xor
answer_table = by4 (λ l d a p. (p || xor l d) && not a) (λ l d a p. answer_after l d a p) tt

module _ (s : Senders) (lines pings : ℕ) (hl : lines < 2 ^ 32) (ha : s.last < 2 ^ 32) (hd : s.deep < 2 ^ 32) (hw : s.answer < 2 ^ 32) (ho : s.on < 2 ^ 32) where
  abbrev given : ℕ → Drive
  given e = record { line = bit lines e; ping = bit pings e }

  abbrev pulsed : ℕ
  pulsed = bit_and (bit_and pings (4294967295 - lines)) (4294967295 - s.last)

  abbrev paired : ℕ
  paired = bit_or (bit_or lines s.first) pulsed

  module _ (e : ℕ) (h : e < line_count) where
    pulse_bit : bit pulsed e ≡ pulses (sender_in s e) (given e)
    pulse_bit = simp (bit_and_law, not32) (pulse_table (bit s.last e) (bit s.deep e) (bit pings e) (bit lines e))

    pair_bit : bit paired e ≡ pair (sender_in s e) (given e)
    pair_bit = bit_or_law (bit_or lines s.first) pulsed e ∙ ap₂ ◌||◌ (bit_or_law lines s.first e) pulse_bit

    abbrev before : SoundReceiver
    before = (sender_in s e).sound

    -- where the sound receiver stands and what it answers after the pair of this tick
    moved : sound_after before (pair (sender_in s e) (given e))
        ≡ record {
          stands = response_of (bit paired e) (deep_after (bit s.last e) (bit s.deep e) (bit paired e));
          answer = answer_after (bit s.last e) (bit s.deep e) (bit s.answer e) (bit paired e);
        }
    moved =
        ap (sound_after before) (sym pair_bit)
        ∙ response_after (bit s.last e) (bit s.deep e) (bit s.answer e) (bit paired e)

    pub on_bit : bit lines e ≡ (sent (sender_in s e) (given e)).on
    unfolding sent
    on_bit = refl

    pub first_bit : bit (bit_and lines (4294967295 - s.on)) e ≡ (sent (sender_in s e) (given e)).first
    unfolding sent
    first_bit = simp (bit_and_law, not32)

    pub last_bit_law : bit paired e ≡ last_bit (sent (sender_in s e) (given e)).sound.stands
    unfolding sent
    last_bit_law =
        sym (ap (λ (r : SoundReceiver). last_bit r.stands) moved
        ∙ last_back (bit paired e) (deep_after (bit s.last e) (bit s.deep e) (bit paired e)))

    pub deep_bit_law : bit (bit_and s.last (bit_or paired (4294967295 - s.deep))) e ≡ deep_bit (sent (sender_in s e) (given e)).sound.stands
    unfolding sent
    deep_bit_law =
        bit_and_law s.last (bit_or paired (4294967295 - s.deep)) e
        ∙ ap (λ b. bit s.last e && b) (bit_or_law paired (4294967295 - s.deep) e ∙ ap (λ b. bit paired e || b) (not32 s.deep e hd h))
        ∙ sym (ap (λ (r : SoundReceiver). deep_bit r.stands) moved
        ∙ deep_back (bit paired e) (deep_after (bit s.last e) (bit s.deep e) (bit paired e)))

    pub answer_bit : bit (bit_and (bit_or paired (bit_xor s.last s.deep)) (4294967295 - s.answer)) e ≡ (sent (sender_in s e) (given e)).sound.answer
    unfolding sent
    answer_bit =
        bit_and_law (bit_or paired (bit_xor s.last s.deep)) (4294967295 - s.answer) e
        ∙ ap₂ ◌&&◌ (bit_or_law paired (bit_xor s.last s.deep) e ∙ ap (λ b. bit paired e || b) (bit_xor_law s.last s.deep e)) (not32 s.answer e hw h)
        ∙ answer_table (bit s.last e) (bit s.deep e) (bit s.answer e) (bit paired e)
        ∙ sym (ap (λ (r : SoundReceiver). r.answer) moved)

module _ (s : Senders) (p m : ℕ) (hp : p < 2 ^ 32) (hm : m < 2 ^ 32) (e : ℕ) (h : e < line_count) where
  pub wrong_bit : bit (bit_or (4294967295 - bit_xor p m) (bit_xor p s.answer)) e ≡ wrong (sender_in s e) (bit p e) (bit m e)
  wrong_bit =
      bit_or_law (4294967295 - bit_xor p m) (bit_xor p s.answer) e
      ∙ ap₂ ◌||◌ (not32 (bit_xor p m) e (xor_lt 32 p m hp hm) h ∙ ap not (bit_xor_law p m e)) (bit_xor_law p s.answer e)
      ∙ wrong_table (bit p e) (bit m e) (bit s.answer e)

-- The rules' word satisfies the sentences.
-- Assumes nothing.
use Prim.Native.Nat.{ℕ, zero, suc, ◌+◌, ◌/◌, ◌^◌, ◌<◌}
use mathlib.Core.Path.{◌≡◌, refl, sym, ap, ◌∙◌, subst}
use mathlib.Core.Bool.{false}
use native.Mathlib.Omega.{arith}
use lib.IntN.{ℤ, pos, negsuc, neg_ℤ}
use lib.Pow.{pow_pos}
use Rattle.bits.specs.Bits.{bit, field}
use Rattle.bits.proofs.BitLaws.{bit_none, bit_shr, bit_mod}
use Rattle.rules.specs.Answer.{number, refusal_number}
use Rattle.rules.specs.declared.Answer.{Answer}
use Rattle.rules.specs.declared.Ticked.{Ticked}
use Rattle.trace_rules.specs.Word.{refusal_of, read_of, word_of}
use Rattle.trace_laws.proofs.WordFields.{word_lt, word_refusal, word_zeros, word_read, interrupt_bit, line_bit}
use Rattle.trace_sentences.specs.Words.{WordIs, InRange, Words}

-- ── signed numbers ──

abbrev pub value_of : ℤ → ℕ
value_of (pos n) = n
value_of (negsuc n) = 0

abbrev pub refusal_of_law : ℤ → ℕ
refusal_of_law (pos n) = 0
refusal_of_law (negsuc n) = suc n

refusal_neg : (m : ℕ) → refusal_of_law (neg_ℤ (pos m)) ≡ m
refusal_neg zero = refl
refusal_neg (suc m) = refl

value_neg : (m : ℕ) → value_of (neg_ℤ (pos m)) ≡ 0
value_neg zero = refl
value_neg (suc m) = refl

-- the number says the refusal and the value
number_refusal : (a : Answer) → refusal_of_law (number a) ≡ refusal_of a
unfolding number
number_refusal Answer.Done = refl
number_refusal (Answer.Value v) = refl
number_refusal (Answer.Refused m) = refusal_neg (refusal_number m)

number_value : (a : Answer) → value_of (number a) ≡ read_of a
unfolding number
number_value Answer.Done = refl
number_value (Answer.Value v) = refl
number_value (Answer.Refused m) = value_neg (refusal_number m)

-- a value in range has 32 bits
value_lt : (a : ℤ) → InRange a → value_of a < 2 ^ 32
value_lt (pos n) r = omega (arith, r n refl)
value_lt (negsuc n) r = pow_pos 32

pos_value : (a : ℤ) (v : ℕ) → a ≡ pos v → value_of a ≡ v
pos_value a v e = ap value_of e

-- and an answer that reads 32 bits is in range
pub in_range : (a : Answer) → read_of a < 2 ^ 32 → InRange (number a)
in_range a h v e = let d : read_of a ≡ v = sym (number_value a) ∙ pos_value (number a) v e in omega arith

-- ── the bits of a field ──

-- bit k of the field of w bits from bit s up
field_bit : (n s w x k : ℕ) → field s w n ≡ x → k < w → bit n (s + k) ≡ bit x k
field_bit n s w x k e l = sym (bit_shr n s k) ∙ sym (bit_mod w (n / 2 ^ s) k l) ∙ ap (λ (m : ℕ). bit m k) e

module _ (t : Ticked) (h : read_of t.answer < 2 ^ 32) where
  refusal_bit : (k : ℕ) → k < 4 → bit (word_of t) (52 + k) ≡ bit (refusal_of t.answer) k
  refusal_bit k l = field_bit (word_of t) 52 4 (refusal_of t.answer) k (word_refusal t h) l

  zero_bit : (k : ℕ) → k < 20 → bit (word_of t) (32 + k) ≡ false
  zero_bit k l = field_bit (word_of t) 32 20 0 k (word_zeros t h) l ∙ bit_none k

  value_bit : (k : ℕ) → k < 32 → bit (word_of t) k ≡ bit (read_of t.answer) k
  value_bit k l = let z : 0 + k ≡ k = omega arith in ap (bit (word_of t)) (sym z) ∙ field_bit (word_of t) 0 32 (read_of t.answer) k (word_read t h) l

  -- the numbers in the answer
  refusal_is : (z : ℤ) → number t.answer ≡ z → refusal_of t.answer ≡ refusal_of_law z
  refusal_is z e = sym (number_refusal t.answer) ∙ ap refusal_of_law e

  value_is : (z : ℤ) → number t.answer ≡ z → read_of t.answer ≡ value_of z
  value_is z e = sym (number_value t.answer) ∙ ap value_of e

  holds_word : WordIs t.output (number t.answer) (word_of t)
  holds_word =
      record {
        bits = omega (arith, word_lt t h);
        interrupts = λ k l. interrupt_bit t h k l;
        lines = λ e l. line_bit t h e l;
        refusal = λ m p e k l. refusal_bit k l ∙ ap (λ (n : ℕ). bit n k) (refusal_is (neg_ℤ (pos m)) e ∙ refusal_neg m);
        no_refusal = λ v e k l. refusal_bit k l ∙ ap (λ (n : ℕ). bit n k) (refusal_is (pos v) e) ∙ bit_none k;
        zeros = λ k l. let m : k < 20 = omega arith in zero_bit k m;
        value = λ v e k l. value_bit k l ∙ ap (λ (n : ℕ). bit n k) (value_is (pos v) e);
        no_value = λ m p e k l. value_bit k l ∙ ap (λ (n : ℕ). bit n k) (value_is (neg_ℤ (pos m)) e ∙ value_neg m) ∙ bit_none k;
      }

pub holds_words : Words number word_of
holds_words t r = holds_word t (subst (λ (n : ℕ). n < 2 ^ 32) (number_value t.answer) (value_lt (number t.answer) r))

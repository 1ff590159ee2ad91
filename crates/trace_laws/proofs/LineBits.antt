-- What a record has of the lines, requests (ix) and (xi): answer bits and receive pairs, into a record and out of it, are as they were.
-- Assumes nothing.
use Prim.Native.Nat.{ℕ, suc, ◌+◌, ◌-◌, ◌*◌, ◌/◌, ◌%◌, ◌^◌, ◌<◌}
use mathlib.Core.Path.{◌≡◌, refl, sym, ap, ◌∙◌}
use mathlib.Core.Bool.{Bool, true, false, cond}
use mathlib.Core.List.{[], ◌∷◌}
use native.Mathlib.Nat.{mod-lt}
use native.Mathlib.Omega.{arith}
use borrow.Author.Tests.{eqb-true, eqb-false, eq-eqb, ne_eqb}
use lib.Dec.{eqb}
use lib.Pow.{pow_pos}
use Rattle.bits.specs.Bits.{bit, bits_of, num}
use Rattle.bits.specs.Fields.{pack}
use Rattle.bits.proofs.BitLaws.{bit_mod, bits_of_lt, bit_bits_of, is_bits_of, word_of_lt, bit_word_of, is_word_of}
use Rattle.rules.specs.Samples.{receive_positive, receive_negative, says_answered}
use Rattle.rules.specs.declared.Receive.{Receive}
use Rattle.rules.specs.declared.Receive.TheVariants.{Pairs, Answers}
use Rattle.trace_rules.specs.Record.{answers_of, positives_of, negatives_of, answer_bits, pair_bits}

-- numbers of bits that follow two rules that agree
bits_same : (w : ℕ) (f g : ℕ → Bool) → ((k : ℕ) → k < w → f k ≡ g k) → bits_of w f ≡ bits_of w g
bits_same w f g e = is_bits_of w (bits_of w f) g (bits_of_lt w f) (λ k l. bit_bits_of w f k l ∙ e k l)

-- of four lines a number's bits from 4 up are left out
pub four_bits : (x : ℕ) → bits_of 4 (bit x) ≡ x % 2 ^ 4
four_bits x = sym (is_bits_of 4 (x % 2 ^ 4) (bit x) (mod-lt x (pow_pos 4)) (λ k l. bit_mod 4 x k l))

-- ── answer bits ──

pub answer_bits_lt : (r : Receive) → answer_bits r < 2 ^ 4
unfolding answer_bits
answer_bits_lt r = word_of_lt 4 (says_answered r)

-- line l is at bit 3 - l
pub answers_bit : (x l : ℕ) → l < 4 → bit (answers_of x) l ≡ bit x (3 - l)
unfolding answers_of
answers_bit x l h = bit_bits_of 4 (λ l. bit x (3 - l)) l h

-- read back, they are the four lines' answers
pub answers_back : (r : Receive) → answers_of (answer_bits r) ≡ bits_of 4 (says_answered r)
unfolding answers_of answer_bits
answers_back r = bits_same 4 (λ l. bit (answer_bits r) (3 - l)) (says_answered r) (λ l h. bit_word_of 4 (says_answered r) (3 - l) l (omega arith))

-- written back, they are the four bits
pub answer_bits_back : (x : ℕ) → x < 2 ^ 4 → answer_bits (Answers (answers_of x)) ≡ x
unfolding answer_bits
answer_bits_back x h =
    sym (is_word_of 4 x (bit (answers_of x)) h (λ i l. let e : 4 - suc i ≡ 3 - i = omega arith in ap (bit x) e ∙ sym (answers_bit x i l)))

-- ── receive pairs ──

pub pair_bits_lt : (r : Receive) → pair_bits r < 2 ^ 8
unfolding pair_bits
pair_bits_lt r = word_of_lt 8 (λ i. cond (eqb (i % 2) 0) (receive_positive r (i / 2)) (receive_negative r (i / 2)))

-- line l is at bit 7 - 2 * l, and its negative wire right below
pub positives_bit : (x l : ℕ) → l < 4 → bit (positives_of x) l ≡ bit x (7 - 2 * l)
unfolding positives_of
positives_bit x l h = bit_bits_of 4 (λ l. bit x (7 - 2 * l)) l h

pub negatives_bit : (x l : ℕ) → l < 4 → bit (negatives_of x) l ≡ bit x (7 - (2 * l + 1))
unfolding negatives_of
negatives_bit x l h = bit_bits_of 4 (λ l. bit x (7 - (2 * l + 1))) l h

module _ (r : Receive) where
  -- place i of the byte: of line i / 2 the positive wire, or the negative one
  abbrev wire_at : ℕ → Bool
  wire_at i = cond (eqb (i % 2) 0) (receive_positive r (i / 2)) (receive_negative r (i / 2))

  at_even : (l : ℕ) → wire_at (2 * l) ≡ receive_positive r l
  at_even l =
      let e : 2 * l % 2 ≡ 0 = omega arith in
      let d : 2 * l / 2 ≡ l = omega arith in
      rw (eq-eqb (2 * l % 2) 0 e) (ap (receive_positive r) d)

  at_odd : (l : ℕ) → wire_at (2 * l + 1) ≡ receive_negative r l
  at_odd l =
      let e : (2 * l + 1) % 2 ≡ 1 = omega arith in
      let d : (2 * l + 1) / 2 ≡ l = omega arith in
      rw (ne_eqb ((2 * l + 1) % 2) 0 (λ z. omega arith)) (ap (receive_negative r) d)

  -- read back, they are the four lines' wires
  pub positives_back : positives_of (pair_bits r) ≡ bits_of 4 (receive_positive r)
  unfolding positives_of pair_bits
  positives_back = bits_same 4 (λ l. bit (pair_bits r) (7 - 2 * l)) (receive_positive r) (λ l h. bit_word_of 8 wire_at (7 - 2 * l) (2 * l) (omega arith) ∙ at_even l)

  pub negatives_back : negatives_of (pair_bits r) ≡ bits_of 4 (receive_negative r)
  unfolding negatives_of pair_bits
  negatives_back =
      bits_same 4 (λ l. bit (pair_bits r) (7 - (2 * l + 1))) (receive_negative r) (λ l h. bit_word_of 8 wire_at (7 - (2 * l + 1)) (2 * l + 1) (omega arith) ∙ at_odd l)

-- written back, they are the eight bits
pub pair_bits_back : (x : ℕ) → x < 2 ^ 8 → pair_bits (Pairs (positives_of x) (negatives_of x)) ≡ x
unfolding pair_bits
pair_bits_back x h = sym (is_word_of 8 x (wire_at (Pairs (positives_of x) (negatives_of x))) h (λ i l. same i l (eqb (i % 2) 0) refl))
  where
    same : (i : ℕ) → i < 8 → (b : Bool) → eqb (i % 2) 0 ≡ b → bit x (8 - suc i) ≡ cond b (bit (positives_of x) (i / 2)) (bit (negatives_of x) (i / 2))
    same i l true t =
        let z : i % 2 ≡ 0 = eqb-true (i % 2) 0 t in
        let e : 8 - suc i ≡ 7 - 2 * (i / 2) = omega arith in
        ap (bit x) e ∙ sym (positives_bit x (i / 2) (omega arith))
    same i l false t =
        let z : ¬ (i % 2 ≡ 0) = eqb-false (i % 2) 0 t in
        let e : 8 - suc i ≡ 7 - (2 * (i / 2) + 1) = omega arith in
        ap (bit x) e ∙ sym (negatives_bit x (i / 2) (omega arith))

-- four fields of one bit, bit 0 first, as the code makes them
pub answers_digits : (x : ℕ) → pack (1 ∷ 1 ∷ 1 ∷ 1 ∷ []) (num (bit x 0) ∷ num (bit x 1) ∷ num (bit x 2) ∷ num (bit x 3) ∷ []) ≡ answers_of x
unfolding answers_of bits_of pack
answers_digits x = omega arith

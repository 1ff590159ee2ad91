-- What the word of a tick says: each field, and each bit of the interrupts and lines.
-- Assumes nothing.
use Prim.Native.Nat.{ℕ, zero, suc, ◌-◌, ◌^◌, ◌≤◌, ◌<◌}
use mathlib.Core.Path.{◌≡◌, refl, ap, ◌∙◌}
use mathlib.Core.Bool.{Bool}
use mathlib.Core.List.{List, [], ◌∷◌}
use native.Mathlib.Omega.{arith}
use lib.Dec.{eqb}
use lib.ListN.{get_or}
use lib.Pow.{pow_pos}
use Rattle.bits.specs.Bits.{bit, field, num}
use Rattle.bits.specs.Fields.{unpack, Fit, none, one}
use Rattle.bits.proofs.BitLaws.{eqb_digit, num_lt}
use Rattle.bits.proofs.FieldLaws.{unpack_pack, pack_lt}
use Rattle.bits.proofs.PackLaws.{fit_append}
use Rattle.rules.proofs.AnswerLaws.{number_range}
use Rattle.rules.specs.Answer.{refusal_number}
use Rattle.rules.specs.declared.Answer.{Answer}
use Rattle.rules.specs.declared.Refusal.{Refusal}
use Rattle.rules.specs.declared.Ticked.{Ticked}
use Rattle.trace_rules.specs.Word.{word_layout, refusal_of, read_of, word_fields, word_by, word_of}

-- a refusal number is below 16, so that 4 bits hold it
refusal_lt : (m : Refusal) → refusal_number m < 2 ^ 4
refusal_lt m = let b : refusal_number m ≤ 14 = (number_range m).1 in omega arith

answer_lt : (a : Answer) → refusal_of a < 2 ^ 4
answer_lt Answer.Done = omega arith
answer_lt (Answer.Value v) = omega arith
answer_lt (Answer.Refused m) = refusal_lt m

four_fit : (x : ℕ) → Fit (1 ∷ 1 ∷ 1 ∷ 1 ∷ []) (num (bit x 0) ∷ num (bit x 1) ∷ num (bit x 2) ∷ num (bit x 3) ∷ [])
four_fit x = one (num_lt (bit x 0)) (one (num_lt (bit x 1)) (one (num_lt (bit x 2)) (one (num_lt (bit x 3)) none)))

fields_fit : (interrupts lines : ℕ) (a : Answer) → read_of a < 2 ^ 32 → Fit word_layout (word_fields interrupts lines a)
fields_fit interrupts lines a h =
    fit_append (four_fit interrupts) (fit_append (four_fit lines) (one (answer_lt a) (one (pow_pos 20) (one h none))))

-- "Reading a refusal as a value": an answer has no read value where it has a refusal number
reads_none : (a : Answer) → (refusal_of a ≡ 0 → ⊥) → read_of a ≡ 0
reads_none Answer.Done h = refl
reads_none (Answer.Value v) h = absurd (h refl)
reads_none (Answer.Refused m) h = refl

below_4 : (f g : ℕ → Bool) → f 0 ≡ g 0 → f 1 ≡ g 1 → f 2 ≡ g 2 → f 3 ≡ g 3 → (k : ℕ) → k < 4 → f k ≡ g k
below_4 f g a b c d zero l = a
below_4 f g a b c d (suc zero) l = b
below_4 f g a b c d (suc (suc zero)) l = c
below_4 f g a b c d (suc (suc (suc zero))) l = d
below_4 f g a b c d (suc (suc (suc (suc k)))) l = absurd (omega arith)

-- of a tick whose read value has 32 bits, as every register's has
module _ (t : Ticked) (h : read_of t.answer < 2 ^ 32) where
  abbrev fields : List ℕ
  fields = word_fields t.output.interrupts t.output.lines t.answer

  -- the fields of the word are the interrupts, lines, refusal number, 20 zeros and read value
  pub word_fields_law : unpack word_layout (word_of t) ≡ fields
  unfolding word_of word_by
  word_fields_law = unpack_pack (fields_fit t.output.interrupts t.output.lines t.answer h)

  -- it has 64 bits
  pub word_lt : word_of t < 2 ^ 64
  unfolding word_of word_by
  word_lt = pack_lt (fields_fit t.output.interrupts t.output.lines t.answer h)

  word_at : (i : ℕ) → get_or (unpack word_layout (word_of t)) i 0 ≡ get_or fields i 0
  word_at i = ap (λ (xs : List ℕ). get_or xs i 0) word_fields_law

  pub word_refusal : field 52 4 (word_of t) ≡ refusal_of t.answer
  unfolding unpack
  word_refusal = word_at 8

  pub word_zeros : field 32 20 (word_of t) ≡ 0
  unfolding unpack
  word_zeros = word_at 9

  pub word_read : field 0 32 (word_of t) ≡ read_of t.answer
  unfolding unpack
  word_read = word_at 10

  -- the read value of the word is 0 where its refusal number is not
  pub refused_reads_none : (field 52 4 (word_of t) ≡ 0 → ⊥) → field 0 32 (word_of t) ≡ 0
  refused_reads_none r = word_read ∙ reads_none t.answer (λ e. r (word_refusal ∙ e))

  -- the fields of one bit
  bit_at : (i : ℕ) → eqb (get_or (unpack word_layout (word_of t)) i 0) 1 ≡ eqb (get_or fields i 0) 1
  bit_at i = ap (λ (d : ℕ). eqb d 1) (word_at i)

  -- class 0 first: the interrupt of class k is bit 63 - k
  pub interrupt_bit : (k : ℕ) → k < 4 → bit (word_of t) (63 - k) ≡ bit t.output.interrupts k
  unfolding bit unpack
  interrupt_bit = below_4 _ _ (bit_at 0 ∙ eqb_digit _) (bit_at 1 ∙ eqb_digit _) (bit_at 2 ∙ eqb_digit _) (bit_at 3 ∙ eqb_digit _)

  -- line 0 first: line e is bit 59 - e
  pub line_bit : (e : ℕ) → e < 4 → bit (word_of t) (59 - e) ≡ bit t.output.lines e
  unfolding bit unpack
  line_bit = below_4 _ _ (bit_at 4 ∙ eqb_digit _) (bit_at 5 ∙ eqb_digit _) (bit_at 6 ∙ eqb_digit _) (bit_at 7 ∙ eqb_digit _)

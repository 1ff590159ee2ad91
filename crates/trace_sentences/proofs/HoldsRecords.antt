-- The rules' reader of records satisfies the sentences.
-- Assumes nothing.
use Prim.Native.Nat.{ℕ, suc, ◌+◌, ◌-◌, ◌*◌, ◌/◌, ◌%◌, ◌^◌, ◌≤◌, ◌<◌}
use mathlib.Core.Path.{◌≡◌, refl, sym, ap, ◌∙◌}
use mathlib.Core.Logic.{inl, inr, ⊎_elim}
use mathlib.Core.Bool.{Bool, true, false, false≢true, cond, and-false, ◌&&◌}
use mathlib.Core.List.{List, [], ◌∷◌}
use native.Mathlib.Omega.{arith}
use native.Mathlib.Nat.{mod-lt}
use borrow.Author.Tests.{lt-ltb, le-ltb, le-leb, lt-leb, ne_eqb}
use lib.Dec.{eqb}
use lib.ListN.{get_or, length, drop, replicate}
use lib.Pow.{pow_pos}
use Rattle.bits.specs.Bits.{bit}
use Rattle.bits.specs.Fields.{unpack, of_bytes}
use Rattle.bits.proofs.BitLaws.{bits_of_lt}
use Rattle.trace_rules.specs.Edition.{alerts, without_timer, carried64, carried248, carry}
use Rattle.rules.specs.Map.{number_of}
use Rattle.trace_rules.specs.Record.{layout, access_of, access_in, wire_words, answers_of, positives_of, negatives_of, word_in, receive_of, held_in, carried, input_of}
use Rattle.rules.specs.declared.Access.{Access}
use Rattle.rules.specs.declared.Receive.{Receive}
use Rattle.trace_rules.specs.declared.Edition.{Edition}
use Rattle.trace_rules.specs.declared.Edition.TheVariants.{Alerts64, Alerts248, Pings, Wires}
use Rattle.trace_laws.proofs.LineBits.{answers_bit, positives_bit, negatives_bit}
use Rattle.trace_laws.proofs.WireLaws.{place_unpack, bit_up, bit_below}
use Rattle.sentences.proofs.SentenceCases.{by_phase}
use Rattle.trace_sentences.specs.RecordBits.{form, Stands, Some, Kind, Bad, Kept, Carried, Means, WiresAre, AnswersAre, ReceiveIs, Form, Holds, Reader}
use Rattle.trace_sentences.proofs.BytePlaces.{field_stands, one_stands, some_not_zero, none_zero}

-- ── register numbers ──

holds_kept : (r : ℕ) → Kept r (without_timer r)
unfolding number_of
holds_kept r =
    record {
      below = λ l. rw (lt-leb 4 r l);
      timer = λ h l. let m : r < 7 = omega arith in rw (le-leb 4 r h, lt-ltb r 7 m);
      above = λ h. let a : 4 ≤ r = omega arith in rw (le-leb 4 r a, le-ltb r 7 h);
    }

holds_carried : (r : ℕ) → Carried r (carried64 r)
unfolding carried64 number_of
holds_carried r =
    record {
      low = λ l. rw (lt-ltb r 64 l) (holds_kept r);
      regwen = λ i l e. let a : 64 ≤ r = omega arith in let b : r < 320 = omega arith in rw (le-ltb r 64 a, lt-ltb r 320 b) (omega arith);
      en = λ i l e. let a : 64 ≤ r = omega arith in let b : r < 320 = omega arith in rw (le-ltb r 64 a, lt-ltb r 320 b) (omega arith);
      class = λ i l e. let a : 64 ≤ r = omega arith in let b : r < 320 = omega arith in rw (le-ltb r 64 a, lt-ltb r 320 b) (omega arith);
      cause = λ i l e. let a : 64 ≤ r = omega arith in let b : r < 320 = omega arith in rw (le-ltb r 64 a, lt-ltb r 320 b) (omega arith);
      classes = λ i l e.
          let a : 64 ≤ r = omega arith in let b : 320 ≤ r = omega arith in let c : r < 384 = omega arith in
          rw (le-ltb r 64 a, le-ltb r 320 b, lt-ltb r 384 c) (omega arith);
      none = λ l. let a : 64 ≤ r = omega arith in let b : 320 ≤ r = omega arith in rw (le-ltb r 64 a, le-ltb r 320 b, le-ltb r 384 l);
    }

holds_means : (e : Edition) (r : ℕ) → Means e r (carry e r)
unfolding carried248
holds_means Alerts64 r = holds_carried r
holds_means Alerts248 r = holds_kept r
holds_means Pings r = refl
holds_means Wires r = refl

-- ── the access, by its numbers ──

module _ (k r z v : ℕ) (ts : List ℕ) where
  abbrev access : Access
  access = access_in (k ∷ r ∷ z ∷ v ∷ []) ts

  bad_zeros : ¬ (z ≡ 0) → access ≡ Access.Malformed
  bad_zeros f = rw (ne_eqb z 0 f)

  bad_more : ¬ (get_or ts 1 0 ≡ 0) → access ≡ Access.Malformed
  bad_more f = rw (ne_eqb (get_or ts 1 0) 0 f, and-false (eqb z 0))

  -- where the zero bits are zero, and where not
  as_zeros : (access_of k r v ≡ Access.Malformed) → access ≡ Access.Malformed
  as_zeros e = go (eqb z 0 && eqb (get_or ts 1 0) 0)
    where
      go : (t : Bool) → cond t (access_of k r v) Access.Malformed ≡ Access.Malformed
      go true = e
      go false = refl

  bad_three : k ≡ 3 → access ≡ Access.Malformed
  unfolding access_of
  bad_three e = as_zeros (rw e)

  bad_read : k ≡ 1 → ¬ (v ≡ 0) → access ≡ Access.Malformed
  unfolding access_of
  bad_read e f = as_zeros (rw (e, ne_eqb v 0 f))

  bad_none_register : k ≡ 0 → ¬ (r ≡ 0) → access ≡ Access.Malformed
  unfolding access_of
  bad_none_register e f = as_zeros (rw (e, ne_eqb r 0 f))

  bad_none_value : k ≡ 0 → ¬ (v ≡ 0) → access ≡ Access.Malformed
  unfolding access_of
  bad_none_value e f = as_zeros (rw (e, ne_eqb v 0 f, and-false (eqb r 0)))

  is_nothing : z ≡ 0 → get_or ts 1 0 ≡ 0 → k ≡ 0 → r ≡ 0 → v ≡ 0 → access ≡ Access.Nothing
  unfolding access_of
  is_nothing a m b c d = rw (a, m, b, c, d)

  is_read : z ≡ 0 → get_or ts 1 0 ≡ 0 → k ≡ 1 → v ≡ 0 → access ≡ Access.Read r
  unfolding access_of
  is_read a m b d = rw (a, m, b, d)

  is_write : z ≡ 0 → get_or ts 1 0 ≡ 0 → k ≡ 2 → access ≡ Access.Write r v
  unfolding access_of
  is_write a m b = rw (a, m, b)

-- ── the wires ──

word_lt : (x : ℕ) → x % 2 ^ 64 ≤ 18446744073709551615
word_lt x = omega (arith, mod-lt x (pow_pos 64))

words_lt : (n v : ℕ) → v < 4 → get_or (unpack (replicate 4 64) n) v 0 ≤ 18446744073709551615
unfolding unpack
words_lt n =
    by_phase (λ v. get_or (unpack (replicate 4 64) n) v 0 ≤ 18446744073709551615) (word_lt (n / 2 ^ 192))
    (word_lt (n / 2 ^ 128)) (word_lt (n / 2 ^ 64)) (word_lt (n / 2 ^ 0))

four_words : (n : ℕ) → length (unpack (replicate 4 64) n) ≡ 4
unfolding unpack
four_words n = refl

holds_wires : (bytes : List ℕ) (s n p : ℕ) → n ≤ 256 → Stands bytes s n p → WiresAre bytes s n (wire_words n p)
holds_wires bytes s n p h t =
    record {
      wire = λ i l.
          let e : 64 * 4 - suc i - (256 - n) ≡ n - 1 - i = omega arith in
          place_unpack 4 (p * 2 ^ (256 - n)) i (omega arith) ∙ bit_up p (256 - n) (64 * 4 - suc i) (omega arith) ∙ ap (bit p) e ∙ t.bits i l;
      past = λ i m l. place_unpack 4 (p * 2 ^ (256 - n)) i l ∙ bit_below p (256 - n) (64 * 4 - suc i) (omega arith);
      words = four_words (p * 2 ^ (256 - n));
      word = words_lt (p * 2 ^ (256 - n));
    }

-- ── what comes back from the lines ──

-- the bits of a field are a record's, most significant first, and the sample has line 0 lowest
holds_answers : (bytes : List ℕ) (n a : ℕ) → Stands bytes n 4 a → AnswersAre bytes n 4 (answers_of a)
unfolding answers_of
holds_answers bytes n a t = record { line = λ l h. answers_bit a l h ∙ t.bits l h; size = bits_of_lt 4 (λ l. bit a (3 - l)) }

-- no bits are no answer
no_answers : (f : Form) (bytes : List ℕ) → f.answer_bits ≡ 0 → f.checked ≡ false → ReceiveIs f bytes (Receive.Answers 0)
no_answers f bytes z c =
    record {
      answers = λ _. (0, record { line = λ l h. absurd (omega arith); size = pow_pos f.answer_bits }, refl);
      pairs = λ d. absurd (false≢true (sym c ∙ d));
    }

holds_pairs : (bytes : List ℕ) (x : ℕ) → Stands bytes 592 8 x → ReceiveIs (form Wires) bytes (receive_of Wires x)
unfolding positives_of negatives_of
holds_pairs bytes x t =
    record {
      answers = λ d. absurd (false≢true (sym d));
      pairs = λ _. (
        positives_of x,
        negatives_of x,
        record {
          positive = λ l h. positives_bit x l (omega arith) ∙ t.bits (2 * l) (omega arith);
          negative = λ l h. negatives_bit x l (omega arith) ∙ t.bits (2 * l + 1) (omega arith);
        },
        bits_of_lt 4 (λ l. bit x (7 - 2 * l)),
        bits_of_lt 4 (λ l. bit x (7 - (2 * l + 1))),
        refl,
      );
    }

no_word : (bytes : List ℕ) (n : ℕ) → Stands bytes n 0 0
no_word bytes n = record { size = omega arith; bits = λ i h. absurd (omega arith) }

-- ── the parts of a record ──

abbrev part : Edition → List ℕ → ℕ → ℕ
part e bytes i = get_or (unpack (layout e) (of_bytes bytes)) i 0

abbrev behind : Edition → List ℕ → List ℕ
behind e bytes = drop 6 (unpack (layout e) (of_bytes bytes))

record Parts (e : Edition) (bytes : List ℕ) : Type 0 where
  kind : Stands bytes 0 2 (part e bytes 0)
  register : Stands bytes (form e).register_at_law (form e).register_bits (part e bytes 1)
  zeros : Stands bytes (form e).zeros_at (form e).zero_bits (part e bytes 2)
  value : Stands bytes (form e).value_at 32 (part e bytes 3)
  positive : WiresAre bytes (form e).positive_at (form e).alerts (wire_words (alerts e) (part e bytes 4))
  negative : WiresAre bytes (form e).negative_at (form e).alerts (wire_words (alerts e) (part e bytes 5))
  word : Stands bytes (form e).word_at (form e).word_bits (word_in (behind e bytes))
  more_zeros : Stands bytes (form e).more_zeros_at (form e).more_zero_bits (get_or (behind e bytes) 1 0)
  receive : ReceiveIs (form e) bytes (receive_of e (get_or (behind e bytes) 2 0))

parts : (e : Edition) (bytes : List ℕ) → length bytes ≡ (form e).bytes → ((i : ℕ) → get_or bytes i 0 ≤ 255) → Parts e bytes
unfolding unpack
parts Alerts64 bytes l b =
    record {
      kind = field_stands bytes b 0 2 190 (omega arith);
      register = field_stands bytes b 2 10 180 (omega arith);
      zeros = field_stands bytes b 12 20 160 (omega arith);
      value = field_stands bytes b 32 32 128 (omega arith);
      positive = holds_wires bytes 64 64 _ (omega arith) (field_stands bytes b 64 64 64 (omega arith));
      negative = holds_wires bytes 128 64 _ (omega arith) (field_stands bytes b 128 64 0 (omega arith));
      word = no_word bytes 192;
      more_zeros = no_word bytes 192;
      receive = no_answers (form Alerts64) bytes refl refl;
    }
parts Alerts248 bytes l b =
    record {
      kind = field_stands bytes b 0 2 558 (omega arith);
      register = field_stands bytes b 2 11 547 (omega arith);
      zeros = field_stands bytes b 13 19 528 (omega arith);
      value = field_stands bytes b 32 32 496 (omega arith);
      positive = holds_wires bytes 64 248 _ (omega arith) (field_stands bytes b 64 248 248 (omega arith));
      negative = holds_wires bytes 312 248 _ (omega arith) (field_stands bytes b 312 248 0 (omega arith));
      word = no_word bytes 560;
      more_zeros = no_word bytes 560;
      receive = no_answers (form Alerts248) bytes refl refl;
    }
parts Pings bytes l b =
    record {
      kind = field_stands bytes b 0 2 598 (omega arith);
      register = field_stands bytes b 2 11 587 (omega arith);
      zeros = field_stands bytes b 13 19 568 (omega arith);
      value = field_stands bytes b 32 32 536 (omega arith);
      positive = holds_wires bytes 64 248 _ (omega arith) (field_stands bytes b 64 248 288 (omega arith));
      negative = holds_wires bytes 312 248 _ (omega arith) (field_stands bytes b 312 248 40 (omega arith));
      word = field_stands bytes b 560 32 8 (omega arith);
      more_zeros = field_stands bytes b 592 4 4 (omega arith);
      receive = record { answers = λ _. (_, holds_answers bytes 596 _ (field_stands bytes b 596 4 0 (omega arith)), refl); pairs = λ d. absurd (false≢true d) };
    }
parts Wires bytes l b =
    record {
      kind = field_stands bytes b 0 2 598 (omega arith);
      register = field_stands bytes b 2 11 587 (omega arith);
      zeros = field_stands bytes b 13 19 568 (omega arith);
      value = field_stands bytes b 32 32 536 (omega arith);
      positive = holds_wires bytes 64 248 _ (omega arith) (field_stands bytes b 64 248 288 (omega arith));
      negative = holds_wires bytes 312 248 _ (omega arith) (field_stands bytes b 312 248 40 (omega arith));
      word = field_stands bytes b 560 32 8 (omega arith);
      more_zeros = field_stands bytes b 592 0 8 (omega arith);
      receive = holds_pairs bytes _ (field_stands bytes b 592 8 0 (omega arith));
    }

module _ (e : Edition) (bytes : List ℕ) (p : Parts e bytes) where
  -- kind, register, zero bits and value
  abbrev k : ℕ
  k = part e bytes 0

  abbrev r : ℕ
  r = part e bytes 1

  abbrev z : ℕ
  z = part e bytes 2

  abbrev v : ℕ
  v = part e bytes 3

  abbrev ts : List ℕ
  ts = behind e bytes

  abbrev given : Access
  given = access k r z v ts

  kind_is : (j : ℕ) → Kind bytes j → k ≡ j
  kind_is j s = one_stands bytes 0 2 k j p.kind s

  value_some : Some bytes (form e).value_at 32 → ¬ (v ≡ 0)
  value_some = some_not_zero bytes (form e).value_at 32 v p.value

  register_some : Some bytes (form e).register_at_law (form e).register_bits → ¬ (r ≡ 0)
  register_some = some_not_zero bytes (form e).register_at_law (form e).register_bits r p.register

  is_bad : Bad (form e) bytes → given ≡ Access.Malformed
  is_bad =
      ⊎_elim (λ s. bad_three k r z v ts (kind_is 3 s))
      (⊎_elim (λ s. bad_zeros k r z v ts (some_not_zero bytes (form e).zeros_at (form e).zero_bits z p.zeros s))
      (⊎_elim (λ s. bad_more k r z v ts (some_not_zero bytes (form e).more_zeros_at (form e).more_zero_bits _ p.more_zeros s))
      (⊎_elim (λ s. bad_read k r z v ts (kind_is 1 s.0) (value_some s.1))
      (λ s.
      ⊎_elim (λ t. bad_none_register k r z v ts (kind_is 0 s.0) (register_some t)) (λ t. bad_none_value k r z v ts (kind_is 0 s.0) (value_some t)) s.1))))

  module _ (f : ¬ Bad (form e) bytes) where
    no_zeros : z ≡ 0
    no_zeros = none_zero bytes (form e).zeros_at (form e).zero_bits z p.zeros (λ s. f (inr (inl s)))

    no_more : get_or ts 1 0 ≡ 0
    no_more = none_zero bytes (form e).more_zeros_at (form e).more_zero_bits _ p.more_zeros (λ s. f (inr (inr (inl s))))

    nothing_is : Kind bytes 0 → given ≡ Access.Nothing
    nothing_is s =
        is_nothing k r z v ts no_zeros no_more (kind_is 0 s)
        (none_zero bytes (form e).register_at_law (form e).register_bits r p.register (λ t. f (inr (inr (inr (inr (s, inl t)))))))
        (none_zero bytes (form e).value_at 32 v p.value (λ t. f (inr (inr (inr (inr (s, inr t)))))))

    read_is : Kind bytes 1 → given ≡ Access.Read r
    read_is s = is_read k r z v ts no_zeros no_more (kind_is 1 s) (none_zero bytes (form e).value_at 32 v p.value (λ t. f (inr (inr (inr (inl (s, t)))))))

    write_is : Kind bytes 2 → given ≡ Access.Write r v
    write_is s = is_write k r z v ts no_zeros no_more (kind_is 2 s)

  holds_record : Holds e bytes (input_of e bytes)
  unfolding input_of held_in unpack
  holds_record =
      record {
        malformed = λ s. ap (carried e) (is_bad s);
        nothing = λ f s. ap (carried e) (nothing_is f s);
        read = λ f s. (carry e r, (r, p.register, holds_means e r), ap (carried e) (read_is f s));
        write = λ f s. (carry e r, v, (r, p.register, holds_means e r), p.value, ap (carried e) (write_is f s));
        positive = p.positive;
        negative = p.negative;
        word = p.word;
        receive = p.receive;
      }

pub holds_reader : Reader input_of
holds_reader e bytes l b = holds_record e bytes (parts e bytes l b)

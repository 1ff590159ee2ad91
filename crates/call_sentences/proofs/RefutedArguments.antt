-- Wrong calls of the writer that the sentences refuse, as theorems.
-- Assumes nothing.
use Prim.Native.Nat.{ℕ, zero, suc, ◌≤◌}
use mathlib.Core.Path.{ap}
use mathlib.Core.Logic.{inl, inr}
use mathlib.Core.List.{List, [], ◌∷◌}
use native.Mathlib.Omega.{arith}
use lib.ListN.{get_or, length, take}
use Rattle.bits.specs.Index.{each_from}
use Rattle.rules.specs.Answer.{first_of}
use Rattle.trace_rules.specs.Writer.{Written, any_unrecordable, write, write_of, write_verdict}
use Rattle.trace_sentences.proofs.HoldsWords.{refusal_of_law}
use Rattle.writer.specs.Lent.{list_of, lent, write_lent}
use Rattle.call_sentences.specs.Arguments.{Lists, WriteCalls}

-- no tick, with this many words and receive wires too many
abbrev beside : List ℕ → List ℕ → List ℕ → Lists
beside entropy positive negative =
    record {
      kinds = [];
      registers = [];
      values = [];
      positive = [];
      negative = [];
      entropy = entropy;
      receive_positive_law = positive;
      receive_negative_law = negative;
    }

one_word : (i : ℕ) → get_or (0 ∷ []) i 0 ≤ 4294967295
one_word zero = omega arith
one_word (suc i) = omega arith

-- one that takes the words of its ticks and leaves the rest
abbrev cut_words : Lists → List ℕ → Written
cut_words l =
    write_lent
    (lent l.kinds l.registers l.values l.positive l.negative (take (length l.kinds) l.entropy) l.receive_positive_law l.receive_negative_law)

pub no_word_too_many : ¬ WriteCalls (λ l buffer. (cut_words l buffer).answer) (λ l buffer. (cut_words l buffer).buffer)
unfolding write_lent list_of each_from write write_of write_verdict first_of any_unrecordable
no_word_too_many w =
    let r = (w (beside (0 ∷ []) [] []) [] (record { positive = λ i. omega arith; negative = λ i. omega arith; entropy = one_word })).uneven (inr (inr (inr (inr (inl (λ e. omega (arith, e))))))) in
    let d = ap refusal_of_law r.answer in omega (arith, d)

-- and one that does so with the positive or the negative wires of the receive pairs
abbrev cut_positive : Lists → List ℕ → Written
cut_positive l =
    write_lent (lent l.kinds l.registers l.values l.positive l.negative l.entropy (take (length l.kinds) l.receive_positive_law) l.receive_negative_law)

pub no_positive_too_many : ¬ WriteCalls (λ l buffer. (cut_positive l buffer).answer) (λ l buffer. (cut_positive l buffer).buffer)
unfolding write_lent list_of each_from write write_of write_verdict first_of any_unrecordable
no_positive_too_many w =
    let r = (w (beside [] (0 ∷ []) []) [] (record { positive = λ i. omega arith; negative = λ i. omega arith; entropy = λ i. omega arith })).uneven (inr (inr (inr (inr (inr (inl (λ e. omega (arith, e)))))))) in
    let d = ap refusal_of_law r.answer in omega (arith, d)

abbrev cut_negative : Lists → List ℕ → Written
cut_negative l =
    write_lent (lent l.kinds l.registers l.values l.positive l.negative l.entropy l.receive_positive_law (take (length l.kinds) l.receive_negative_law))

pub no_negative_too_many : ¬ WriteCalls (λ l buffer. (cut_negative l buffer).answer) (λ l buffer. (cut_negative l buffer).buffer)
unfolding write_lent list_of each_from write write_of write_verdict first_of any_unrecordable
no_negative_too_many w =
    let r = (w (beside [] [] (0 ∷ [])) [] (record { positive = λ i. omega arith; negative = λ i. omega arith; entropy = λ i. omega arith })).uneven (inr (inr (inr (inr (inr (inr (λ e. omega (arith, e)))))))) in
    let d = ap refusal_of_law r.answer in omega (arith, d)

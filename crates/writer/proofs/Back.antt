-- Reading what was written and writing what was read, of the lent lists.
-- Assumes nothing.
use Prim.Native.Nat.{ℕ, ◌+◌, ◌*◌, ◌^◌, ◌<◌}
use mathlib.Core.Path.{◌≡◌, sym, ap, ◌∙◌, subst}
use mathlib.Core.Bool.{Bool, true, cond}
use mathlib.Core.List.{List, []}
use lib.IntN.{ℤ}
use lib.ListN.{get_or, length, take}
use borrow.Author.Tests.{not-false}
use Rattle.std.specs.Prelude.{Ok, Err}
use Rattle.bits.proofs.IndexLaws.{none_at}
use Rattle.trace_rules.specs.Edition.{newest, record_bytes}
use Rattle.rules.specs.State.{words}
use Rattle.trace_rules.specs.Writer.{AllWired, AllSame, write_verdict, write_of, write}
use Rattle.rules.specs.declared.Input.{Input}
use Rattle.rules.specs.declared.Refusal.TheVariants.{NoRecord}
use Rattle.rules.specs.Answer.{Verdict}
use Rattle.trace_rules.specs.Record.{inputs_of}
use Rattle.trace_laws.proofs.WriterLaws.{each_wired, records_length, accepted_recordable, write_accepted, read_written, written_read, well_formed_accepted}
use Rattle.writer.specs.Lent.{Lent, word_at, input_at, list_of, even, write_lent, Wrote, Numbers, ReadBack, WrittenBack}
use Rattle.writer.specs.EntryParts.{unrecordable_at}
use Rattle.writer.proofs.EntryLists.{any_in_list, length_list}
use Rattle.writer.proofs.EntryKinds.{held}
use Rattle.writer.proofs.StoreLaws.{words_fit}

module _ (l : Lent) where
  -- every number of the lists has the 64 bits of its wires, and the 32 of an entropy word
  all_wired : ((i : ℕ) → get_or l.positive i 0 < 2 ^ 64) → ((i : ℕ) → get_or l.negative i 0 < 2 ^ 64) → ((i : ℕ) → get_or l.entropy i 0 < 2 ^ 32) → AllWired (list_of l)
  unfolding list_of
  all_wired p q w =
      each_wired (length l.kinds) (input_at l)
      (λ i. record { positive = words_fit words (word_at l.positive i) (λ v. p (i * words + v)); negative = words_fit words (word_at l.negative i) (λ v. q (i * words + v)); word = w i })

  -- an accepted list has its numbers
  numbers_back : (buffer : List ℕ) → write_verdict newest (list_of l) buffer ≡ Ok tt → Numbers l
  numbers_back buffer v i h =
      let n = held (get_or l.kinds i 0) (get_or l.registers i 0) (get_or l.values i 0)
      (not-false _ (none_at (unrecordable_at l) (length l.kinds) i (sym (any_in_list l) ∙ accepted_recordable newest (list_of l) buffer v) h)) in
      (n.kind, n.register, n.value)

  module _ (buffer : List ℕ) (r : ℤ) (left : List ℕ) (w : Wrote l buffer r left) where
    bytes_left : even l ≡ true → left ≡ (write newest (list_of l) buffer).buffer
    unfolding write_lent
    bytes_left e = w.bytes ∙ ap (λ (b : Bool). (cond b (write newest (list_of l) buffer) (write_of newest (Err NoRecord) [] buffer)).buffer) e

    -- a word of wires has 64 bits and an entropy word 32
    pub read_back : ((i : ℕ) → get_or l.positive i 0 < 2 ^ 64) → ((i : ℕ) → get_or l.negative i 0 < 2 ^ 64) → ((i : ℕ) → get_or l.entropy i 0 < 2 ^ 32) → ReadBack l buffer left
    read_back p q o e v = (
      subst (AllSame newest (list_of l))
          (sym (ap (λ (bs : List ℕ). inputs_of newest (take (length l.kinds * record_bytes newest) bs)) (bytes_left e)
          ∙ ap (λ (n : ℕ). inputs_of newest (take (n * record_bytes newest) (write newest (list_of l) buffer).buffer)) (sym (length_list l))))
          (read_written (list_of l) buffer (all_wired p q o) v),
      numbers_back buffer v,
    )

    pub written_back : WrittenBack l buffer left
    written_back bytes f e q h =
        let xs = inputs_of newest bytes in
        let n : length xs * record_bytes newest ≡ length bytes = sym (records_length newest xs) ∙ ap length (written_read bytes f) in
        bytes_left e ∙ ap (λ (ys : List Input). (write newest ys buffer).buffer) q ∙ write_accepted newest xs buffer (well_formed_accepted bytes buffer f h)
        ∙ rw (written_read bytes f, n)

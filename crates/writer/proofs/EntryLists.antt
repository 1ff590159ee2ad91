-- The entries of the lent lists, one after another: the test of all, and the records of all.
-- Assumes nothing.
use Prim.Native.Nat.{ℕ, zero, suc, ◌+◌, ◌*◌, ◌≤◌, ◌<◌}
use mathlib.Core.Path.{◌≡◌, refl, sym, ap, ap₂, ◌∙◌}
use mathlib.Core.Bool.{Bool, not, ◌||◌}
use mathlib.Core.List.{List, [], ◌∷◌, ◌++◌, append-nil}
use native.Mathlib.Nat.{add-zero, add-suc, suc-add, zero-add}
use native.Mathlib.Numerals.{add-one}
use native.Mathlib.Omega.{arith}
use lib.ListN.{get_or, length, take, drop}
use lib.Seq.{sets, sets-eq, take-suc, take_all, length-take-le}
use Rattle.bits.specs.Index.{each_from, any_to}
use Rattle.bits.proofs.IndexLaws.{length_each, at_each, any_ext, any_first}
use Rattle.trace_rules.specs.Edition.{newest, record_bytes}
use Rattle.trace_rules.specs.Record.{record_of, recordable}
use Rattle.trace_rules.specs.Writer.{records_of, any_unrecordable}
use Rattle.rules.specs.declared.Input.{Input}
use Rattle.trace_laws.proofs.WriterLaws.{records_length, records_append}
use Rattle.writer.specs.Lent.{Lent, input_at, list_of}
use Rattle.writer.specs.EntryParts.{unrecordable_at}
use Rattle.writer.proofs.StoreLaws.{sets_append}

-- ── the test of all entries ──

any_from : (b n : ℕ) (f : ℕ → Input) → any_unrecordable newest (each_from b n f) ≡ any_to (λ i. not (recordable newest (f (b + i)).access)) n
unfolding any_unrecordable each_from any_to
any_from b zero f = refl
any_from b (suc n) f =
    let g : ℕ → Bool = λ i. not (recordable newest (f i).access) in
    ap₂ ◌||◌ (ap g (sym (add-zero b)))
    (any_from (suc b) n f ∙ any_ext (λ i. g (suc b + i)) (λ i. g (b + suc i)) n (λ i h. ap g (suc-add b i ∙ sym (add-suc b i))))
    ∙ sym (any_first (λ i. g (b + i)) n)

module _ (l : Lent) where
  pub any_in_list : any_unrecordable newest (list_of l) ≡ any_to (unrecordable_at l) (length l.kinds)
  unfolding list_of
  any_in_list =
      any_from 0 (length l.kinds) (input_at l) ∙ any_ext _ (unrecordable_at l) (length l.kinds) (λ i h. ap (unrecordable_at l) (zero-add i))

  -- ── the records of all entries ──

  pub length_list : length (list_of l) ≡ length l.kinds
  unfolding list_of
  length_list = length_each (length l.kinds) (input_at l)

  at_list : (i : ℕ) (d : Input) → i < length l.kinds → get_or (list_of l) i d ≡ input_at l i
  unfolding list_of
  at_list i d h = at_each (length l.kinds) (input_at l) i d h

  -- the records of the first entries and one more
  records_next : (i : ℕ) → i < length l.kinds → records_of newest (take (suc i) (list_of l)) ≡ records_of newest (take i (list_of l)) ++ record_of newest (input_at l i)
  unfolding records_of
  records_next i h =
      let d = input_at l i in
      let xs = list_of l in
      ap (records_of newest) (take-suc xs i d (omega (arith, length_list)) ∙ ap (λ (x : Input). take i xs ++ (x ∷ [])) (at_list i d h))
      ∙ records_append newest (take i xs) (d ∷ [])
      ∙ ap (λ (bs : List ℕ). records_of newest (take i xs) ++ bs) (append-nil (record_of newest d))

  length_records : (i : ℕ) → i ≤ length l.kinds → length (records_of newest (take i (list_of l))) ≡ i * record_bytes newest
  length_records i h = records_length newest (take i (list_of l)) ∙ ap (λ (n : ℕ). n * record_bytes newest) (length-take-le i (list_of l) (omega (arith, length_list)))

  -- the record of entry i behind those before it
  pub put_next : (old out next : List ℕ) (i : ℕ) → i < length l.kinds → out ≡ sets old 0 (records_of newest (take i (list_of l)))
      → next ≡ sets out (i * record_bytes newest) (record_of newest (input_at l i)) → next ≡ sets old 0 (records_of newest (take (i + 1) (list_of l)))
  put_next old out next i h p q =
      let bs = records_of newest (take i (list_of l)) in
      let b = record_of newest (input_at l i) in
      let e : i * record_bytes newest ≡ 0 + length bs = omega (arith, length_records i (omega arith)) in
      q ∙ ap₂ (λ (o : List ℕ) (n : ℕ). sets o n b) p e ∙ sets_append old 0 bs b
      ∙ rw add-one (ap (sets old 0) (sym (records_next i h)))

  -- all of them
  pub put_end : (old out : List ℕ) (i : ℕ) → i ≡ length l.kinds → length l.kinds * record_bytes newest ≤ length old
      → out ≡ sets old 0 (records_of newest (take i (list_of l))) → out ≡ records_of newest (list_of l) ++ drop (length l.kinds * record_bytes newest) old
  put_end old out i e r p =
      let xs = list_of l in
      let n : 0 + length (records_of newest xs) ≡ length l.kinds * record_bytes newest = omega (arith, records_length newest xs, length_list) in
      p ∙ ap (λ (ys : List Input). sets old 0 (records_of newest ys)) (take_all i xs (omega (arith, length_list)))
      ∙ sets-eq (records_of newest xs) old 0 (omega arith)
      ∙ ap (λ (k : ℕ). records_of newest xs ++ drop k old) n

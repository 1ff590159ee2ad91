-- What a call gives in each case: refused by 10 or 11, or the records of all entries.
-- Assumes nothing.
use Prim.Native.Nat.{ℕ, ◌*◌, ◌/◌, ◌≤◌, ◌<◌}
use mathlib.Core.Path.{◌≡◌, refl, sym, ap, ap₂, ◌∙◌}
use mathlib.Core.Bool.{Bool, true, false, cond}
use mathlib.Core.List.{List, [], ◌∷◌, ◌++◌}
use native.Mathlib.Omega.{arith}
use borrow.Author.Tests.{eqb-true, lt-ltb, le-ltb}
use lib.Dec.{eqb, ltb}
use lib.IntN.{pos}
use lib.ListN.{length, drop}
use Rattle.std.specs.Prelude.{Ok, Err}
use Rattle.bits.specs.Index.{any_to}
use Rattle.bits.proofs.IndexLaws.{and-true}
use Rattle.rules.specs.Answer.{first_of, number, Verdict}
use Rattle.trace_rules.specs.Edition.{newest, record_bytes}
use Rattle.rules.specs.State.{words}
use Rattle.trace_rules.specs.Writer.{Written, records_of, write_verdict, write_of, write}
use Rattle.rules.specs.declared.Answer.{Answer}
use Rattle.rules.specs.declared.Refusal.{Refusal}
use Rattle.rules.specs.declared.Refusal.TheVariants.{NoRecord, ShortBuffer}
use Rattle.writer.specs.Lent.{Lent, list_of, even, write_lent, Wrote}
use Rattle.writer.specs.EntryParts.{unrecordable_at}
use Rattle.writer.proofs.EntryLists.{any_in_list, length_list}

-- every list has the parts of each entry
pub record Lengths (l : Lent) : Type 0 where
  pub registers : length l.registers ≡ length l.kinds
  pub values : length l.values ≡ length l.kinds
  pub positive : length l.positive ≡ length l.kinds * words
  pub negative : length l.negative ≡ length l.kinds * words
  pub entropy : length l.entropy ≡ length l.kinds
  pub receive_positive : length l.receive_positive_law ≡ length l.kinds
  pub receive_negative : length l.receive_negative_law ≡ length l.kinds

pub lengths : (l : Lent) → even l ≡ true → Lengths l
lengths l e =
    let k = length l.kinds in
    let a = and-true (eqb (length l.registers) k) _ e in
    let b = and-true (eqb (length l.values) k) _ a.1 in
    let c = and-true (eqb (length l.positive) (k * words)) _ b.1 in
    let d = and-true (eqb (length l.negative) (k * words)) _ c.1 in
    let f = and-true (eqb (length l.entropy) k) _ d.1 in
    let g = and-true (eqb (length l.receive_positive_law) k) _ f.1 in
    record {
      registers = eqb-true _ _ a.0;
      values = eqb-true _ _ b.0;
      positive = eqb-true _ _ c.0;
      negative = eqb-true _ _ d.0;
      entropy = eqb-true _ _ f.0;
      receive_positive = eqb-true _ _ g.0;
      receive_negative = eqb-true _ _ g.1;
    }

module _ (l : Lent) (buffer : List ℕ) where
  -- lists of unequal lengths
  pub wrote_uneven : (left : List ℕ) → even l ≡ false → left ≡ buffer → Wrote l buffer (number (Answer.Refused NoRecord)) left
  unfolding write_lent write_of
  wrote_uneven left e q =
      let w : write_lent l buffer ≡ record { answer = number (Answer.Refused NoRecord); buffer = buffer } =
      ap (λ (b : Bool). cond b (write newest (list_of l) buffer) (write_of newest (Err NoRecord) [] buffer)) e in
      record { answer = sym (ap (λ (x : Written). x.answer) w); bytes = q ∙ sym (ap (λ (x : Written). x.buffer) w) }

  module _ (e : even l ≡ true) where
    -- lists of equal lengths are written as the list of their entries
    as_list : (v : Verdict) → write_verdict newest (list_of l) buffer ≡ v → write_lent l buffer ≡ write_of newest v (list_of l) buffer
    unfolding write_lent write
    as_list v p =
        ap (λ (b : Bool). cond b (write newest (list_of l) buffer) (write_of newest (Err NoRecord) [] buffer)) e
        ∙ ap (λ (w : Verdict). write_of newest w (list_of l) buffer) p

    -- the tests of the code are those of the verdict: an entry without a record, and the buffer's length in whole records
    verdict : (u s : Bool) → any_to (unrecordable_at l) (length l.kinds) ≡ u → ltb (length buffer) (length l.kinds * record_bytes newest) ≡ s
        → write_verdict newest (list_of l) buffer ≡ first_of (record { refusal = NoRecord; holds = u } ∷ record { refusal = ShortBuffer; holds = s } ∷ [])
    unfolding write_verdict
    verdict u s p q =
        ap₂ (λ (a b : Bool). first_of (record { refusal = NoRecord; holds = a } ∷ record { refusal = ShortBuffer; holds = b } ∷ []))
        (any_in_list l ∙ p) (ap (λ (n : ℕ). ltb (length buffer) (n * record_bytes newest)) (length_list l) ∙ q)

    refused : (m : Refusal) (left : List ℕ) → write_verdict newest (list_of l) buffer ≡ Err m → left ≡ buffer
        → Wrote l buffer (number (Answer.Refused m)) left
    unfolding write_of
    refused m left v q =
        let w = as_list (Err m) v in
        record { answer = sym (ap (λ (x : Written). x.answer) w); bytes = q ∙ sym (ap (λ (x : Written). x.buffer) w) }

    pub wrote_unrecordable : (left : List ℕ) → any_to (unrecordable_at l) (length l.kinds) ≡ true → left ≡ buffer
        → Wrote l buffer (number (Answer.Refused NoRecord)) left
    unfolding first_of
    wrote_unrecordable left p q = refused NoRecord left (verdict true _ p refl) q

    pub wrote_short : (left : List ℕ) → any_to (unrecordable_at l) (length l.kinds) ≡ false → length buffer / record_bytes newest < length l.kinds → left ≡ buffer
        → Wrote l buffer (number (Answer.Refused ShortBuffer)) left
    unfolding first_of
    wrote_short left p h q = refused ShortBuffer left (verdict false true p (lt-ltb (length buffer) (length l.kinds * record_bytes newest) (omega arith))) q

    pub wrote_records : (left : List ℕ) → any_to (unrecordable_at l) (length l.kinds) ≡ false → length l.kinds ≤ length buffer / record_bytes newest
        → left ≡ records_of newest (list_of l) ++ drop (length l.kinds * record_bytes newest) buffer → Wrote l buffer (pos (length l.kinds * record_bytes newest)) left
    unfolding first_of write_of
    wrote_records left p h q =
        let w = as_list (Ok tt) (verdict false false p (le-ltb (length buffer) (length l.kinds * record_bytes newest) (omega arith))) in
        let n = sym (length_list l) in
        record {
          answer = ap (λ (k : ℕ). pos (k * record_bytes newest)) n ∙ sym (ap (λ (x : Written). x.answer) w);
          bytes = q ∙ ap (λ (k : ℕ). records_of newest (list_of l) ++ drop (k * record_bytes newest) buffer) n ∙ sym (ap (λ (x : Written). x.buffer) w);
        }

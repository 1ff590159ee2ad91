-- The parts of a dump behind N, one after the other.
-- Assumes nothing.
use Prim.Native.Nat.{ℕ}
use mathlib.Core.Path.{◌≡◌, subst}
use lib.Dec.{eqb, leb}
use Rattle.std.specs.Prelude.{Result, Ok, Err}
use Rattle.std.specs.Result.{IsErrAnd}
use Rattle.formats.specs.Format.{field, chain}
use Rattle.dump_rules.specs.Dump.{to_full, head_bits}
use Rattle.dump_rules.specs.Reader.{any_number, bits_format, classes_format, cause_count, lock_count, shadowed_from, stage_chain, zero_format, stages_format, padded_format, locks_format, flags_format, body_format}
use Rattle.dump_rules.specs.declared.Unread.{Unread}
use Rattle.dump_rules.proofs.LawfulDump.{bits_lawful, classes_lawful}
use Rattle.dump_reader.specs.Reads.{Reads, ReadsNumber}
use Rattle.dump_reader.specs.declared.reader.Reader.{Reader}
use Rattle.dump_reader.proofs.ReadLaws.{then_failed, then_number, then_pass}
use Rattle.dump_reader.proofs.WholeLaws.{flags_read, pad_read}

module _ (n : ℕ) {D : Type 0} (from mid : Reader) (r : Result D Unread) where
  pub classes_on : {C : Type 0} (to : Reader) (u : C) → Reads classes_format from mid (Ok u) → Reads (flags_format n) mid to r → Reads (body_format n) from to r
  classes_on to u = then_pass classes_format (flags_format n) classes_lawful from mid to u r

  pub classes_failed : {C : Type 0} (e : Unread) → Reads {B = C} classes_format from mid (Err e) → IsErrAnd r (λ y. y ≡ e) → Reads (body_format n) from mid r
  classes_failed e = then_failed classes_format (λ c. flags_format n) from mid r e

  pub causes_on : {C : Type 0} (to : Reader) (m : ℕ) (u : C) → m ≡ cause_count n → Reads (field m any_number) from mid (Ok u) → Reads (locks_format n) mid to r → Reads (flags_format n) from to r
  causes_on to m u e q = then_pass (bits_format (cause_count n)) (locks_format n) (bits_lawful (cause_count n)) from mid to u r (flags_read (cause_count n) m from mid (Ok u) e q)

  pub causes_failed : {C : Type 0} (m : ℕ) (e : Unread) → m ≡ cause_count n → Reads {B = C} (field m any_number) from mid (Err e) → IsErrAnd r (λ y. y ≡ e) → Reads (flags_format n) from mid r
  causes_failed m e i q = then_failed (bits_format (cause_count n)) (λ x. locks_format n) from mid r e (flags_read (cause_count n) m from mid (Err e) i q)

  pub locks_on : {C : Type 0} (to : Reader) (m : ℕ) (u : C) → m ≡ lock_count n → Reads (field m any_number) from mid (Ok u) → Reads (padded_format n) mid to r → Reads (locks_format n) from to r
  locks_on to m u e q = then_pass (bits_format (lock_count n)) (padded_format n) (bits_lawful (lock_count n)) from mid to u r (flags_read (lock_count n) m from mid (Ok u) e q)

  pub locks_failed : {C : Type 0} (m : ℕ) (e : Unread) → m ≡ lock_count n → Reads {B = C} (field m any_number) from mid (Err e) → IsErrAnd r (λ y. y ≡ e) → Reads (locks_format n) from mid r
  locks_failed m e i q = then_failed (bits_format (lock_count n)) (λ x. padded_format n) from mid r e (flags_read (lock_count n) m from mid (Err e) i q)

  pub zeros_on : (to : Reader) (c l w v : ℕ) → c ≡ cause_count n → l ≡ lock_count n → w ≡ to_full (head_bits c l) → ReadsNumber w (eqb 0) from mid (Ok v) → Reads (stages_format n) mid to r → Reads (padded_format n) from to r
  zeros_on to c l w v e f g q = then_number (to_full (head_bits (cause_count n) (lock_count n))) (eqb 0) (λ z. stages_format n) from mid to v r (pad_read n c l w from mid (Ok v) e f g q)

  pub zeros_failed : (c l w : ℕ) (e : Unread) → c ≡ cause_count n → l ≡ lock_count n → w ≡ to_full (head_bits c l) → ReadsNumber w (eqb 0) from mid (Err e) → IsErrAnd r (λ y. y ≡ e) → Reads (padded_format n) from mid r
  zeros_failed c l w e i j g q = then_failed (zero_format n) (λ z. stages_format n) from mid r e (pad_read n c l w from mid (Err e) i j g q).reads

  pub count_on : (to : Reader) (s v : ℕ) → s ≡ n → ReadsNumber 16 (λ k. leb k (shadowed_from n 0)) from mid (Ok v) → Reads (chain (stage_chain s) v 0) mid to r → Reads (stages_format n) from to r
  count_on to s v e q c =
      then_number 16 (λ k. leb k (shadowed_from n 0)) (λ k. chain (stage_chain n) k 0) from mid to v r q
      (subst (λ (x : ℕ). Reads (chain (stage_chain x) v 0) mid to r) e c)

  pub count_failed : (e : Unread) → ReadsNumber 16 (λ k. leb k (shadowed_from n 0)) from mid (Err e) → IsErrAnd r (λ y. y ≡ e) → Reads (stages_format n) from mid r
  count_failed e q = then_failed (field 16 (λ k. leb k (shadowed_from n 0))) (λ k. chain (stage_chain n) k 0) from mid r e q.reads

pub most_rule : (n s m : ℕ) → s ≡ n → m ≡ shadowed_from s 0 → (x : ℕ) → leb x (shadowed_from n 0) ≡ leb x m
most_rule n s m e f x = rw (f, e)

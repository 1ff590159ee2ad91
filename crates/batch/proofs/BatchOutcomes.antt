-- What a batch gives in each case: refused by 7, 8 or 9, or not refused.
-- Assumes nothing.
use Prim.Native.Nat.{ℕ, ◌%◌, ◌≤◌}
use mathlib.Core.Path.{◌≡◌, sym, ap, ◌∙◌}
use mathlib.Core.Bool.{true, false, not}
use mathlib.Core.List.{List, ◌++◌, map}
use borrow.Author.Tests.{not-false, eqb-true, ltb-false}
use lib.Dec.{eqb, ltb}
use lib.IntN.{ℤ}
use lib.ListN.{length, drop}
use native.Mathlib.Omega.{arith}
use Rattle.std.specs.Prelude.{Ok, Err}
use Rattle.laws.proofs.Access.Refusals.{first_accepts}
use Rattle.rules.specs.Answer.{first_of, number}
use Rattle.trace_rules.specs.Batch as rules
use Rattle.trace_rules.specs.Batch.{admits, batch_cases, batch_verdict}
use Rattle.trace_rules.specs.Edition.{record_bytes}
use Rattle.rules.specs.Run.{run, ticks}
use Rattle.rules.specs.declared.Answer.{Answer}
use Rattle.trace_rules.specs.declared.Edition.{Edition}
use Rattle.rules.specs.declared.Handler.{Handler}
use Rattle.rules.specs.declared.Refusal.{Refusal}
use Rattle.rules.specs.declared.Refusal.TheVariants.{BadState, BadLength, ShortList}
use Rattle.trace_rules.specs.Word.{word_of}
use Rattle.trace_rules.specs.Record.{inputs_of, record_count}
use Rattle.trace_laws.proofs.BatchLaws.{batch_good, batch_refused}
use Rattle.batch.specs.BatchedBy.{BatchedBy}
use Rattle.batch.specs.declared.Batched.{Batched}

module _ (e : Edition) (h : Handler) (bytes out : List ℕ) where
  -- for a batch the order is 7, 8, 9
  pub seven : not (admits e h) ≡ true → batch_verdict e h bytes out ≡ Err BadState
  unfolding batch_verdict first_of
  seven v = rw v

  pub eight : not (admits e h) ≡ false → not (eqb (length bytes % record_bytes e) 0) ≡ true → batch_verdict e h bytes out ≡ Err BadLength
  unfolding batch_verdict first_of
  eight v w = rw (v, w)

  pub nine : not (admits e h) ≡ false → not (eqb (length bytes % record_bytes e) 0) ≡ false → ltb (length out) (record_count e bytes) ≡ true
      → batch_verdict e h bytes out ≡ Err ShortList
  unfolding batch_verdict first_of
  nine v w r = rw (v, w, r)

  -- a batch that is taken gets none of 7, 8 and 9
  pub taken : batch_verdict e h bytes out ≡ Ok tt → (admits e h ≡ true) × ((length bytes % record_bytes e ≡ 0) × (record_count e bytes ≤ length out))
  unfolding batch_verdict
  taken v =
      let holds = (first_accepts (batch_cases e h bytes out) (record { refusal = BadState; holds = false })).0 v in
      (not-false _ (holds 0 (omega arith)), (eqb-true _ _ (not-false _ (holds 1 (omega arith))), ltb-false _ _ (holds 2 (omega arith))))

  -- state and list unchanged
  pub given_refusal : (m : Refusal) (r : Batched) → batch_verdict e h bytes out ≡ Err m → r ≡ record { handler = h; answer = number (Answer.Refused m) }
      → BatchedBy e h bytes out r out
  given_refusal m r v q =
      let b = batch_refused e h bytes out m v in
      record {
        handler = ap (λ (x : Batched). x.handler) q ∙ sym (ap (λ (x : rules.Batched). x.handler) b);
        answer = ap (λ (x : Batched). x.answer) q ∙ sym (ap (λ (x : rules.Batched). x.answer) b);
        words = sym (ap (λ (x : rules.Batched). x.out) b);
      }

  -- the ticks of its records, and 0
  pub given_ticks : batch_verdict e h bytes out ≡ Ok tt → (g : Handler) (a : ℤ) (ws : List ℕ)
      → (g ≡ run h (inputs_of e bytes)) × (ws ≡ map word_of (ticks h (inputs_of e bytes)) ++ drop (record_count e bytes) out) → a ≡ number Answer.Done
      → BatchedBy e h bytes out (record { handler = g; answer = a }) ws
  given_ticks v g a ws t f =
      let u = taken v in
      let b = batch_good e h bytes out u.0 u.1.0 u.1.1 in
      record {
        handler = t.0 ∙ sym (ap (λ (x : rules.Batched). x.handler) b);
        answer = f ∙ sym (ap (λ (x : rules.Batched). x.answer) b);
        words = t.1 ∙ sym (ap (λ (x : rules.Batched). x.out) b);
      }

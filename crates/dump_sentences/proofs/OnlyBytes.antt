-- No sentence of a dump's bytes is missing: two dumps of a state are one.
-- Assumes nothing.
use Prim.Native.Nat.{ℕ, zero, suc, ◌+◌, ◌-◌, ◌*◌, ◌/◌, ◌%◌, ◌≤◌, ◌<◌}
use mathlib.Core.Path.{◌≡◌, sym, ap, ◌∙◌, subst}
use mathlib.Core.Logic.{◌⊎◌, inl, inr}
use mathlib.Core.List.{List}
use native.Mathlib.Omega.{arith}
use native.Mathlib.Decide.{dec_lt}
use lib.ListN.{get_or, length}
use lib.Seq.{ext_get_or}
use Rattle.rules.specs.declared.Handler.{Handler}
use Rattle.sentences.proofs.SentenceCases.{same_test}
use Rattle.trace_sentences.specs.RecordBits.{bit_at}
use Rattle.dump_sentences.specs.DumpBytes.{Staged, stages_at, Stands, StageBits, DumpOf}
use Rattle.dump_sentences.proofs.BitPlaces.{byte_by_bits}
use Rattle.dump_sentences.proofs.StagedLaws.{dec_staged}

module _ (h : Handler) (m : h.n ≤ 248) (a b : List ℕ) (x : DumpOf h a) (y : DumpOf h b) where
  abbrev Same : ℕ → Type 0
  Same p = bit_at a p ≡ bit_at b p

  moved : (p q : ℕ) → q ≡ p → Same q → Same p
  moved p q e s = subst Same e s

  -- a number that stands in both
  both : (p w v : ℕ) → Stands a p w v → Stands b p w v → (q : ℕ) → p ≤ q → q < p + w → Same q
  both p w v s t q l u = let k : q - p < w = omega arith in moved q (p + (q - p)) (omega arith) (s (q - p) k ∙ sym (t (q - p) k))

  -- ── the stages ──

  abbrev X : StageBits h a
  X = x.stages

  abbrev Y : StageBits h b
  Y = y.stages

  same_many : (r : ℕ) → r ≤ 1344 → X.many r ≡ Y.many r
  same_many zero l = X.none ∙ sym Y.none
  same_many (suc r) l = let u : r < 1344 = omega arith in go u (same_many r (omega arith)) (dec_staged h m r)
    where
      go : r < 1344 → X.many r ≡ Y.many r → ((v : ℕ) × Staged h r v) ⊎ ((v : ℕ) → ¬ Staged h r v) → X.many (suc r) ≡ Y.many (suc r)
      go u e (inl s) = X.one_more r s.0 u s.1 ∙ ap (λ (i : ℕ). suc i) e ∙ sym (Y.one_more r s.0 u s.1)
      go u e (inr s) = X.no_more r u s ∙ e ∙ sym (Y.no_more r u s)

  abbrev S : ℕ
  S = 8 * stages_at h.n

  -- the 48 bits of a register's stage
  entry : (r v : ℕ) → r < 1344 → Staged h r v → (q : ℕ) → S + 16 + 48 * X.many r ≤ q → q < S + 64 + 48 * X.many r → Same q
  entry r v l s q f u = go (dec_lt q (S + 32 + 48 * X.many r))
    where
      e : X.many r ≡ Y.many r
      e = same_many r (omega arith)

      go : Dec (q < S + 32 + 48 * X.many r) → Same q
      go (yes c) = both (S + 16 + 48 * X.many r) 16 r (X.register r v l s) (subst (λ (i : ℕ). Stands b (S + 16 + 48 * i) 16 r) (sym e) (Y.register r v l s)) q f (omega arith)
      go (no c) = both (S + 32 + 48 * X.many r) 32 v (X.value r v l s) (subst (λ (i : ℕ). Stands b (S + 32 + 48 * i) 32 v) (sym e) (Y.value r v l s)) q (omega arith) (omega arith)

  -- all below the number of stages up to r
  below : (r : ℕ) → r ≤ 1344 → (q : ℕ) → S + 16 ≤ q → q < S + 16 + 48 * X.many r → Same q
  below zero l q f u = absurd (omega (arith, X.none))
  below (suc r) l q f u = let k : r < 1344 = omega arith in go k (below r (omega arith) q f) (dec_staged h m r) (dec_lt q (S + 16 + 48 * X.many r))
    where
      go : r < 1344 → (q < S + 16 + 48 * X.many r → Same q) → ((v : ℕ) × Staged h r v) ⊎ ((v : ℕ) → ¬ Staged h r v) → Dec (q < S + 16 + 48 * X.many r) → Same q
      go k i s (yes c) = i c
      go k i (inl s) (no c) = entry r s.0 k s.1 q (omega arith) (omega (arith, X.one_more r s.0 k s.1, u))
      go k i (inr s) (no c) = absurd (omega (arith, X.no_more r k s, u))

  same_size : length a ≡ length b
  same_size = let e = same_many 1344 (omega arith) in X.size ∙ omega (arith, e, Y.size)

  -- ── the classes: 51 bits each ──

  class_bit : (k j : ℕ) → k < 4 → j < 51 → Same (40 + 51 * k + j)
  class_bit k j l u = go (dec_lt j 3) (dec_lt j 35)
    where
      go : Dec (j < 3) → Dec (j < 35) → Same (40 + 51 * k + j)
      go (yes c) d = both (40 + 51 * k) 3 _ (x.classes k l).state (y.classes k l).state _ (omega arith) (omega arith)
      go (no c) (yes d) = both (43 + 51 * k) 32 _ (x.classes k l).count (y.classes k l).count _ (omega arith) (omega arith)
      go (no c) (no d) = both (75 + 51 * k) 16 _ (x.classes k l).accumulator (y.classes k l).accumulator _ (omega arith) (omega arith)

  -- ── causes and locks ──

  cause_bit : (q : ℕ) → 244 ≤ q → q < 251 + h.n → Same q
  cause_bit q f u = go (dec_lt q 251)
    where
      go : Dec (q < 251) → Same q
      go (yes c) = let k : q - 244 < 7 = omega arith in moved q (244 + (q - 244)) (omega arith) (same_test _ _ (x.causes.locals (q - 244) k) (y.causes.locals (q - 244) k))
      go (no c) = let k : q - 251 < h.n = omega arith in moved q (251 + (q - 251)) (omega arith) (same_test _ _ (x.causes.alerts (q - 251) k) (y.causes.alerts (q - 251) k))

  class_lock_bit : (k : ℕ) → k < 4 → (j : ℕ) → j < 2 → Same (259 + 2 * h.n + 2 * k + j)
  class_lock_bit k l zero u = moved _ (259 + 2 * h.n + 2 * k) (omega arith) (same_test _ _ (x.locks.classes k l) (y.locks.classes k l))
  class_lock_bit k l (suc zero) u = moved _ (260 + 2 * h.n + 2 * k) (omega arith) (same_test _ _ (x.locks.clears k l) (y.locks.clears k l))
  class_lock_bit k l (suc (suc j)) u = absurd (omega arith)

  lock_bit : (q : ℕ) → 251 + h.n ≤ q → q < 267 + 2 * h.n → Same q
  lock_bit q f u = go (dec_lt q (252 + h.n)) (dec_lt q (259 + h.n)) (dec_lt q (259 + 2 * h.n))
    where
      go : Dec (q < 252 + h.n) → Dec (q < 259 + h.n) → Dec (q < 259 + 2 * h.n) → Same q
      go (yes c) d e = moved q (251 + h.n) (omega arith) (same_test _ _ x.locks.timer y.locks.timer)
      go (no c) (yes d) e =
          let k : q - (252 + h.n) < 7 = omega arith in
          moved q (252 + h.n + (q - (252 + h.n))) (omega arith) (same_test _ _ (x.locks.locals (q - (252 + h.n)) k) (y.locks.locals (q - (252 + h.n)) k))
      go (no c) (no d) (yes e) =
          let k : q - (259 + h.n) < h.n = omega arith in
          moved q (259 + h.n + (q - (259 + h.n))) (omega arith) (same_test _ _ (x.locks.alerts (q - (259 + h.n)) k) (y.locks.alerts (q - (259 + h.n)) k))
      go (no c) (no d) (no e) =
          let w = q - (259 + 2 * h.n) in
          moved q (259 + 2 * h.n + 2 * (w / 2) + w % 2) (omega arith) (class_lock_bit (w / 2) (omega arith) (w % 2) (omega arith))

  -- ── every bit behind the mark ──

  same_bit : (q : ℕ) → 32 ≤ q → q < 8 * length a → Same q
  same_bit q f u = go (dec_lt q 40) (dec_lt q 244) (dec_lt q (251 + h.n)) (dec_lt q (267 + 2 * h.n)) (dec_lt q S) (dec_lt q (S + 16))
    where
      go : Dec (q < 40) → Dec (q < 244) → Dec (q < 251 + h.n) → Dec (q < 267 + 2 * h.n) → Dec (q < S) → Dec (q < S + 16) → Same q
      go (yes c) d e g i j = both 32 8 h.n x.alerts y.alerts q f (omega arith)
      go (no c) (yes d) e g i j =
          moved q (40 + 51 * ((q - 40) / 51) + (q - 40) % 51) (omega arith) (class_bit ((q - 40) / 51) ((q - 40) % 51) (omega arith) (omega arith))
      go (no c) (no d) (yes e) g i j = cause_bit q (omega arith) e
      go (no c) (no d) (no e) (yes g) i j = lock_bit q (omega arith) g
      go (no c) (no d) (no e) (no g) (yes i) j = let l : 267 + 2 * h.n ≤ q = omega arith in x.zeros q l i ∙ sym (y.zeros q l i)
      go (no c) (no d) (no e) (no g) (no i) (yes j) =
          both S 16 (X.many 1344) X.number (subst (λ (w : ℕ). Stands b S 16 w) (sym (same_many 1344 (omega arith))) Y.number) q (omega arith) j
      go (no c) (no d) (no e) (no g) (no i) (no j) = below 1344 (omega arith) q (omega arith) (omega (arith, X.size, u))

  same_byte : (i : ℕ) → i < length a → get_or a i 0 ≡ get_or b i 0
  same_byte zero l = x.mark_t ∙ sym y.mark_t
  same_byte (suc zero) l = x.mark_d ∙ sym y.mark_d
  same_byte (suc (suc zero)) l = x.mark_m ∙ sym y.mark_m
  same_byte (suc (suc (suc zero))) l = x.mark_p ∙ sym y.mark_p
  same_byte (suc (suc (suc (suc i)))) l =
      let n : ℕ = suc (suc (suc (suc i))) in
      byte_by_bits a b n (x.byte n) (y.byte n) (λ q f u. same_bit q (omega arith) (omega arith))

  pub same_bytes : a ≡ b
  same_bytes = ext_get_or 0 a b same_size same_byte

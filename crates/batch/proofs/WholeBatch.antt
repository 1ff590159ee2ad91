-- What a batch gives once more, taken from its promise over every edition, state, list of bytes and list of words, in raw numbers: each refusal, and else
-- state, answer and every word; and demand 3 in the words. A promise that says less, or asks for more, does not give it.
-- Assumes nothing.
use Prim.Native.Nat.{ℕ, ◌+◌, ◌-◌, ◌*◌, ◌/◌, ◌%◌, ◌≤◌, ◌<◌}
use mathlib.Core.Path.{◌≡◌, refl, ap, ap₂, ◌∙◌, subst}
use mathlib.Core.Logic.{◌⊎◌, ⊎_elim}
use mathlib.Core.Bool.{Bool, true, false, not, ◌&&◌, ◌||◌}
use mathlib.Core.List.{List, ◌++◌, map}
use native.Mathlib.Omega.{arith}
use borrow.Author.Tests.{eq-eqb, ne_eqb, lt-ltb, le-ltb, le-leb, lt-leb}
use lib.Dec.{leb}
use lib.IntN.{pos, negsuc}
use lib.ListN.{get_or, length, take, drop}
use Rattle.std.specs.Prelude.{Ok, Err}
use Rattle.bits.specs.Bits.{bit, field}
use Rattle.bits.proofs.IndexLaws.{true_and}
use Rattle.class_rules.specs.Step.{starts}
use Rattle.class_rules.specs.declared.Class.{Class}
use Rattle.escalation.specs.Escalation.{OfPhase, Demand3}
use Rattle.escalation.specs.List.{IsTick, no_input}
use Rattle.rules.specs.Access.{acted}
use Rattle.rules.specs.Answer.{first_of, number, Verdict}
use Rattle.rules.specs.Run.{run, ticks}
use Rattle.rules.specs.State.{class_at, is_on}
use Rattle.rules.specs.Tick.{signals_in}
use Rattle.rules.specs.Valid.{valid}
use Rattle.rules.specs.declared.Answer.{Answer}
use Rattle.rules.specs.declared.Handler.{Handler}
use Rattle.rules.specs.declared.Input.{Input}
use Rattle.rules.specs.declared.Refusal.{Refusal}
use Rattle.rules.specs.declared.Refusal.TheVariants.{BadState, BadLength, ShortList}
use Rattle.trace_laws.proofs.BatchLaws.{batch_good, batch_refused}
use Rattle.trace_rules.specs.Batch as rules
use Rattle.trace_rules.specs.Batch.{admits, batch_verdict, batch_inputs}
use Rattle.trace_rules.specs.Edition.{record_bytes, alerts, has_timer}
use Rattle.trace_rules.specs.Record.{inputs_of}
use Rattle.trace_rules.specs.Word.{word_of}
use Rattle.trace_rules.specs.declared.Edition.{Edition}
use Rattle.batch.specs.BatchedBy.{BatchedBy}
use Rattle.batch.specs.declared.Batched.{Batched}
use Rattle.batch.proofs.BatchOutcomes.{seven, eight, nine}
use Rattle.batch.proofs.Running.{length_inputs}
use Rattle.batch.proofs.WordLines.{line_of_list}

and_no : (b : Bool) → (b && false) ≡ false
and_no true = refl
and_no false = refl

module _ (e : Edition) (h : Handler) (bytes out : List ℕ) where
  admitted : valid h ≡ true → h.n ≤ alerts e → (has_timer e || not (is_on h)) ≡ true → admits e h ≡ true
  unfolding admits
  admitted v n o = true_and v (true_and (le-leb h.n (alerts e) n) o)

  accepted : admits e h ≡ true → length bytes % record_bytes e ≡ 0 → length bytes / record_bytes e ≤ length out → batch_verdict e h bytes out ≡ Ok tt
  unfolding batch_verdict first_of
  accepted a w m = rw (a, eq-eqb (length bytes % record_bytes e) 0 w, le-ltb (length out) (length bytes / record_bytes e) m)

  module _ (r : Batched) (left : List ℕ) (b : BatchedBy e h bytes out r left) where
    -- ── refused: state and list unchanged ──

    refused : (m : Refusal) → batch_verdict e h bytes out ≡ Err m → (r.handler ≡ h) × (r.answer ≡ number (Answer.Refused m)) × (left ≡ out)
    refused m v =
        let q = batch_refused e h bytes out m v in (
          b.handler ∙ ap (λ (x : rules.Batched). x.handler) q,
          b.answer ∙ ap (λ (x : rules.Batched). x.answer) q,
          b.words ∙ ap (λ (x : rules.Batched). x.out) q,
        )

    -- 7, also for a state of more alerts than the edition's, and where the timer is on and the edition is older
    refused_7 : (valid h ≡ false) ⊎ ((alerts e < h.n) ⊎ ((has_timer e ≡ false) × (h.timer.enable ≡ 1))) → (r.handler ≡ h) × (r.answer ≡ negsuc 6) × (left ≡ out)
    unfolding admits number
    refused_7 c = refused BadState (seven e h bytes out (ap not (⊎_elim bad (⊎_elim many on) c)))
      where
        old : Bool
        old = has_timer e || not (is_on h)

        bad : valid h ≡ false → admits e h ≡ false
        bad v = ap (λ (x : Bool). x && (leb h.n (alerts e) && old)) v

        many : alerts e < h.n → admits e h ≡ false
        many m = ap (λ (x : Bool). valid h && (x && old)) (lt-leb h.n (alerts e) m) ∙ and_no (valid h)

        on : (has_timer e ≡ false) × (h.timer.enable ≡ 1) → admits e h ≡ false
        on w =
            ap₂ (λ (x y : Bool). valid h && (leb h.n (alerts e) && (x || not y))) w.0 (eq-eqb h.timer.enable 1 w.1)
            ∙ ap (λ (x : Bool). valid h && x) (and_no (leb h.n (alerts e))) ∙ and_no (valid h)

    module _ (v : valid h ≡ true) (n : h.n ≤ alerts e) (o : (has_timer e || not (is_on h)) ≡ true) where
      -- 8
      refused_8 : (length bytes % record_bytes e ≡ 0 → ⊥) → (r.handler ≡ h) × (r.answer ≡ negsuc 7) × (left ≡ out)
      unfolding number
      refused_8 m = refused BadLength (eight e h bytes out (ap not (admitted v n o)) (ap not (ne_eqb (length bytes % record_bytes e) 0 m)))

      module _ (w : length bytes % record_bytes e ≡ 0) where
        -- 9
        refused_9 : length out < length bytes / record_bytes e → (r.handler ≡ h) × (r.answer ≡ negsuc 8) × (left ≡ out)
        unfolding number
        refused_9 m =
            refused ShortList
            (nine e h bytes out (ap not (admitted v n o)) (ap not (eq-eqb (length bytes % record_bytes e) 0 w)) (lt-ltb (length out) (length bytes / record_bytes e) m))

        -- ── not refused: the ticks of its records, a word for each, and later words as they were ──

        module _ (room : length bytes / record_bytes e ≤ length out) where
          ran : (r.handler ≡ run h (inputs_of e bytes))
              × (r.answer ≡ pos 0)
              × (left ≡ map word_of (ticks h (inputs_of e bytes)) ++ drop (length bytes / record_bytes e) out)
          unfolding number
          ran =
              let q = batch_good e h bytes out (admitted v n o) w room in (
                b.handler ∙ ap (λ (x : rules.Batched). x.handler) q,
                b.answer ∙ ap (λ (x : rules.Batched). x.answer) q,
                b.words ∙ ap (λ (x : rules.Batched). x.out) q,
              )

          -- demand 3, as the contract says it, is of these ticks
          module _ (d : valid h ≡ true → Demand3 h (batch_inputs e (batch_verdict e h bytes out) bytes)) where
            abbrev xs : List Input
            xs = inputs_of e bytes

            claim : Demand3 h xs
            claim = subst (λ (x : Verdict). Demand3 h (batch_inputs e x bytes)) (accepted (admitted v n o) w room) (d v)

            abbrev read : ℕ → ℕ → Class
            read i k = class_at (acted (run h (take i xs)) (get_or xs i no_input).access) k

            -- a locked class with EN and LOCK starts in tick s: line j is on at bit 59 - j of the word of each tick of its mapped phase
            line_on : (first k s t j : ℕ) → k < 4 → first ≤ s → s ≤ t → t < first + length bytes / record_bytes e
                → starts (signals_in (run h (take (s - first) xs)) (get_or xs (s - first) no_input) k) (read (s - first) k) ≡ true
                → (read (s - first) k).regwen ≡ 0 → bit (read (s - first) k).ctrl 0 ≡ true → bit (read (s - first) k).ctrl 1 ≡ true
                → j < 4 → bit (read (s - first) k).ctrl (2 + j) ≡ true → OfPhase (read (s - first) k) s (field (6 + 2 * j) 2 (read (s - first) k).ctrl) t
                → bit (get_or left (t - first) 0) (59 - j) ≡ true
            line_on first k s t j small from later to start shut has_en has_lock lj enabled phase =
                let c : length xs ≡ length bytes / record_bytes e = length_inputs e bytes in
                let is : IsTick first xs s = record { from = from; to = omega (arith, c) } in
                let it : IsTick first xs t = record { from = omega arith; to = omega (arith, c) } in
                ap (λ (ws : List ℕ). bit (get_or ws (t - first) 0) (59 - j)) b.words
                ∙ line_of_list e h bytes out (admitted v n o) w room first t j it lj
                ∙ ((claim.escalation first k s is (record { is_class = small; is_start = start; is_locked = shut; has_en = has_en; has_lock = has_lock }) t later it).line j lj
                ).inside enabled phase

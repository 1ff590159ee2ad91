-- A batch, record by record.
-- Assumes nothing.
use Prim.Native.Nat.{ℕ, suc, ◌≤◌, ◌<◌}
use mathlib.Core.Path.{◌≡◌, refl, sym, ap, ap₂, subst, ◌∙◌}
use mathlib.Core.Bool.{true}
use mathlib.Core.List.{List, [], ◌∷◌, ◌++◌, map, map-append}
use native.Mathlib.Omega.{arith}
use lib.ListN.{length, get_or, set, take, drop, length-set, length-map}
use lib.Seq.{take-suc, take_all, length-take-le, drop-cons, set_at, append_snoc}
use Rattle.bits.proofs.IndexLaws.{at_each, length_each}
use Rattle.trace_rules.specs.Record.{input_of, inputs_of, record_at, record_count}
use Rattle.rules.specs.Access.{answer_to, accessed}
use Rattle.rules.specs.Run.{run, ticks}
use Rattle.rules.specs.State.{most}
use Rattle.rules.specs.Tick.{tick, ticked}
use Rattle.rules.specs.Valid.{valid}
use Rattle.trace_rules.specs.declared.Edition.{Edition}
use Rattle.rules.specs.declared.Accessed.{Accessed}
use Rattle.rules.specs.declared.Answer.{Answer}
use Rattle.rules.specs.declared.Handler.{Handler}
use Rattle.rules.specs.declared.Input.{Input}
use Rattle.rules.specs.declared.Ticked.{Ticked}
use Rattle.handler.specs.Finished.{finished, finished_of}
use Rattle.handler.specs.declared.tick.Finished.{Finished}
use Rattle.handler.proofs.WholeTick.{finished_tick}
use Rattle.trace_rules.specs.Word.{word_by, word_of}
use Rattle.laws.proofs.Valid.KeepsValid.{run_valid}
use Rattle.laws.proofs.Valid.Refusal7.{ticked_good}
use Rattle.laws.proofs.Tick.Runs.{run_next, ticks_append, length_ticks}
use Rattle.laws.proofs.Valid.ValidLaws.{facts}
use Rattle.batch.specs.Running.{Running}

module _ (h : Handler) (xs : List Input) (old : List ℕ) where
  -- no bytes, no ticks
  pub start : Running h xs old h old 0
  unfolding run ticks
  start = record { within = omega arith; state = refl; words = refl; same = refl }

  -- the words of one more tick
  words_next : (i : ℕ) (d : Input) → i < length xs → map word_of (ticks h (take (suc i) xs)) ≡ map word_of (ticks h (take i xs)) ++ (word_of (ticked (run h (take i xs)) (get_or xs i d)) ∷ [])
  unfolding ticks
  words_next i d l =
      ap (λ (ys : List Input). map word_of (ticks h ys)) (take-suc xs i d l)
      ∙ ap (map word_of) (ticks_append h (take i xs) (get_or xs i d ∷ []))
      ∙ map-append word_of (ticks h (take i xs)) (ticks (run h (take i xs)) (get_or xs i d ∷ []))

  -- how many there are
  length_words : (i : ℕ) → i ≤ length xs → length (map word_of (ticks h (take i xs))) ≡ i
  length_words i l = length-map (ticks h (take i xs)) word_of ∙ length_ticks h (take i xs) ∙ length-take-le i xs l

  -- the tick of record i, on the state that the records before it left, and its word at place i
  pub step : (g : Handler) (out : List ℕ) (i : ℕ) (d : Input) → Running h xs old g out i → i < length xs → i < length old
      → Running h xs old (ticked g (get_or xs i d)).handler (set out i (word_of (ticked g (get_or xs i d)))) (suc i)
  step g out i d r l m =
      record {
        within = l;
        state = ap (λ (f : Handler). (ticked f (get_or xs i d)).handler) r.state ∙ sym (run_next h xs i d l);
        words = stored;
        same = length-set out i _ ∙ r.same;
      }
    where
      ws : List ℕ
      ws = map word_of (ticks h (take i xs))

      w : ℕ
      w = word_of (ticked (run h (take i xs)) (get_or xs i d))

      stored : set out i (word_of (ticked g (get_or xs i d))) ≡ map word_of (ticks h (take (suc i) xs)) ++ drop (suc i) old
      stored =
          ap₂ (λ (os : List ℕ) (f : Handler). set os i (word_of (ticked f (get_or xs i d)))) r.words r.state
          ∙ ap (λ (ys : List ℕ). set (ws ++ ys) i w) (drop-cons old i 0 m)
          ∙ set_at ws (get_or old i 0) (drop (suc i) old) w i (length_words i r.within)
          ∙ sym (append_snoc ws w (drop (suc i) old))
          ∙ ap (λ (ys : List ℕ). ys ++ drop (suc i) old) (sym (words_next i d l))

  -- all records
  pub end : (g : Handler) (out : List ℕ) (i : ℕ) → Running h xs old g out i → length xs ≤ i
      → (g ≡ run h xs) × (out ≡ map word_of (ticks h xs) ++ drop i old)
  end g out i r l = (
    r.state ∙ ap (run h) (take_all i xs l),
    r.words ∙ ap (λ (ys : List Input). map word_of (ticks h ys) ++ drop i old) (take_all i xs l),
  )

-- ── the records of a batch whose first state is valid ──

-- a batch has as many inputs as records
pub length_inputs : (e : Edition) (bytes : List ℕ) → length (inputs_of e bytes) ≡ record_count e bytes
unfolding inputs_of
length_inputs e bytes = length_each (record_count e bytes) (λ i. input_of e (record_at e bytes i))

input_at : (e : Edition) (bytes : List ℕ) (i : ℕ) (d : Input) → i < record_count e bytes → get_or (inputs_of e bytes) i d ≡ input_of e (record_at e bytes i)
unfolding inputs_of
input_at e bytes i d l = at_each (record_count e bytes) (λ j. input_of e (record_at e bytes j)) i d l

module _ (h : Handler) (xs : List Input) (old : List ℕ) (v : valid h ≡ true) (g : Handler) (out : List ℕ) (i : ℕ) (r : Running h xs old g out i) where
  -- refusal 7 is looked for once: each later state is valid
  pub still_valid : valid g ≡ true
  still_valid = subst (λ (f : Handler). valid f ≡ true) (sym r.state) (run_valid h (take i xs) v)

  pub few_alerts : g.n ≤ most
  few_alerts = (facts g still_valid).n

-- record i, its tick and its word: a is step 1, t the rest of the tick
module _ (e : Edition) (h : Handler) (bytes old : List ℕ) (v : valid h ≡ true) (g : Handler) (out : List ℕ) (i : ℕ) (r : Running h (inputs_of e bytes) old g out i) (l : i < record_count e bytes) (m : i < length old) where
  pub next_record : (x : Input) (a : Accessed) (t : Finished) (w : ℕ) → x ≡ input_of e (record_at e bytes i) → a ≡ accessed g x.access → t ≡ finished a.handler a.effects x.sample
      → w ≡ word_by t.interrupts t.lines a.answer
      → Running h (inputs_of e bytes) old t.handler (set out i w) (suc i)
  unfolding word_of tick answer_to
  next_record x a t w z y f u =
      let c : finished_of (ticked g (get_or (inputs_of e bytes) i x)) ≡ t =
      ap (λ (y : Input). finished_of (ticked g y)) (input_at e bytes i x l ∙ sym z)
      ∙ ap (λ (d : Ticked). finished_of d) (ticked_good g x (still_valid h (inputs_of e bytes) old v g out i r)) ∙ sym (f ∙ finished_tick g x a y) in
      let b : (ticked g (get_or (inputs_of e bytes) i x)).answer ≡ a.answer =
      ap (λ (y : Input). (ticked g y).answer) (input_at e bytes i x l ∙ sym z)
      ∙ ap (λ (d : Ticked). d.answer) (ticked_good g x (still_valid h (inputs_of e bytes) old v g out i r)) ∙ sym (ap (λ (d : Accessed). d.answer) y) in
      let k : i < length (inputs_of e bytes) = omega (arith, length_inputs e bytes) in
      subst (λ (n : ℕ). Running h (inputs_of e bytes) old t.handler (set out i n) (suc i)) (sym u)
      (subst (λ (d : Answer). Running h (inputs_of e bytes) old t.handler (set out i (word_by t.interrupts t.lines d)) (suc i)) b
      (subst (λ (d : Finished). Running h (inputs_of e bytes) old d.handler (set out i (word_by d.interrupts d.lines (ticked g (get_or (inputs_of e bytes) i x)).answer)) (suc i)) c
      (step h (inputs_of e bytes) old g out i x r k m)))

-- The rules' batch satisfies the sentences.
-- Assumes nothing.
use Prim.Native.Nat.{ℕ, zero, suc, ◌+◌, ◌-◌, ◌%◌, ◌≤◌, ◌<◌}
use mathlib.Core.Path.{◌≡◌, refl, sym, ap, ◌∙◌, subst}
use mathlib.Core.Logic.{◌⊎◌, ◌≢◌, inl, inr, ◌↔◌}
use mathlib.Core.Bool.{Bool, true, false, false≢true, and-false, not, ◌||◌}
use mathlib.Core.List.{List, [], ◌∷◌, ◌++◌, map}
use native.Mathlib.Omega.{arith}
use native.Mathlib.Decide.{dec_lt, ℕ_discrete}
use native.Mathlib.Nat.{le_of_suc-le-suc, not-suc-le-zero}
use borrow.Author.Tests.{lt-ltb, lt-leb, le-leb, eq-eqb, ne_eqb}
use lib.Dec.{leb}
use lib.IntN.{pos, neg_ℤ}
use lib.ListN.{get_or, length, take, drop, length-append, length-drop, length-map, get_or-append}
use lib.Seq.{take_all, get_or-append-add, get_or-drop}
use Rattle.std.specs.Prelude.{Err}
use Rattle.bits.proofs.IndexLaws.{at_each, length_each, true_and}
use Rattle.rules.specs.Answer.{first_of, number, Verdict}
use Rattle.trace_rules.specs.Batch.{Batched, admits, batch, batch_verdict}
use Rattle.trace_rules.specs.Edition.{record_bytes, alerts, has_timer}
use Rattle.trace_rules.specs.Record.{input_of, inputs_of, record_at, record_count}
use Rattle.rules.specs.Run.{run, ticks}
use Rattle.rules.specs.State.{is_on}
use Rattle.rules.specs.Tick.{ticked}
use Rattle.rules.specs.Valid.{valid}
use Rattle.trace_rules.specs.Word.{word_of}
use Rattle.rules.specs.declared.Answer.{Answer}
use Rattle.trace_rules.specs.declared.Edition.{Edition}
use Rattle.trace_rules.specs.declared.Edition.TheVariants.{Alerts64, Alerts248, Pings, Wires}
use Rattle.rules.specs.declared.Handler.{Handler}
use Rattle.rules.specs.declared.Input.{Input}
use Rattle.rules.specs.declared.Refusal.{Refusal}
use Rattle.rules.specs.declared.Refusal.TheVariants.{BadState, BadLength, ShortList}
use Rattle.trace_laws.proofs.BatchLaws.{batch_refused, batch_good}
use Rattle.laws.proofs.Tick.Runs.{run_next, ticks_at, length_ticks}
use Rattle.sentences.specs.Valid.{Valid}
use Rattle.sentences.proofs.SentenceCases.{off}
use Rattle.sentences.proofs.HoldsValid.{holds_valid}
use Rattle.trace_sentences.specs.BatchTicks.{Refuses, Ran, Batches}

-- an entry of a mapped list
map_at : {A : Type 0} (f : A → ℕ) (xs : List A) (i : ℕ) (d : A) → i < length xs → get_or (map f xs) i 0 ≡ f (get_or xs i d)
map_at f [] i d l = absurd (not-suc-le-zero l)
map_at f (x ∷ xs) zero d l = refl
map_at f (x ∷ xs) (suc i) d l = map_at f xs i d (le_of_suc-le-suc l)

-- ── the ticks of n inputs ──

pub word_at : (h : Handler) (xs : List Input) (i : ℕ) (d : Input) → i < length xs → get_or (map word_of (ticks h xs)) i 0 ≡ word_of (ticked (run h (take i xs)) (get_or xs i d))
word_at h xs i d k = map_at word_of (ticks h xs) i (ticked h d) (omega (arith, length_ticks h xs)) ∙ ap word_of (ticks_at h xs i d (ticked h d) k)

module _ (h : Handler) (xs : List Input) (out : List ℕ) (n : ℕ) (x : ℕ → Input) (d : Input) (l : length xs ≡ n) (at : (i : ℕ) → i < n → get_or xs i d ≡ x i)
    (r : n ≤ length out) where
  abbrev front : List ℕ
  front = map word_of (ticks h xs)

  front_length : length front ≡ n
  front_length = length-map (ticks h xs) word_of ∙ length_ticks h xs ∙ l

  front_at : (i : ℕ) → i < n → get_or (front ++ drop n out) i 0 ≡ word_of (ticked (run h (take i xs)) (x i))
  front_at i m =
      let k : i < length xs = omega arith in
      get_or-append front (drop n out) 0 i (omega (arith, front_length)) ∙ word_at h xs i d k ∙ ap (λ (y : Input). word_of (ticked (run h (take i xs)) y)) (at i m)

  rest_at : (i : ℕ) → n ≤ i → get_or (front ++ drop n out) i 0 ≡ get_or out i 0
  rest_at i m =
      let e : length front + (i - n) ≡ i = omega (arith, front_length) in
      let f : n + (i - n) ≡ i = omega arith in
      ap (λ (j : ℕ). get_or (front ++ drop n out) j 0) (sym e) ∙ get_or-append-add front (drop n out) (i - n) 0 ∙ get_or-drop n out (i - n) 0
      ∙ ap (λ (j : ℕ). get_or out j 0) f

  ran : Ran ticked word_of n x h out (run h xs) (pos 0) (front ++ drop n out)
  unfolding run
  ran =
      record {
        answer = refl;
        states = λ i. run h (take i xs);
        first = refl;
        next = λ i m. let k : i < length xs = omega arith in run_next h xs i d k ∙ ap (λ (y : Input). (ticked (run h (take i xs)) y).handler) (at i m);
        last = ap (run h) (sym (take_all n xs (omega arith)));
        word_of_law = front_at;
        later = λ i l. let m : n ≤ i = omega arith in rest_at i m;
        lent = length-append front (drop n out) ∙ (let a : length front ≡ n = front_length in let b = length-drop n out in omega arith);
      }

-- ── the cases, in the rules' words ──

module _ (e : Edition) (h : Handler) (bytes out : List ℕ) where
  abbrev Seven : Type 0
  Seven = (¬ Valid h) ⊎ ((alerts e < h.n) ⊎ ((has_timer e ≡ false) × (h.timer.enable ≡ 1)))

  abbrev Eight : Type 0
  Eight = length bytes % record_bytes e ≢ 0

  abbrev Nine : Type 0
  Nine = length out < record_count e bytes

  not_admitted : Seven → admits e h ≡ false
  unfolding admits
  not_admitted (inl f) = rw (off (valid h) (holds_valid h) f)
  not_admitted (inr (inl l)) = rw (lt-leb h.n (alerts e) l, and-false (valid h))
  not_admitted (inr (inr (o, t))) = rw (o, eq-eqb h.timer.enable 1 t, and-false (leb h.n (alerts e)), and-false (valid h))

  admitted : ¬ Seven → admits e h ≡ true
  unfolding admits
  admitted f =
      true_and (go (valid h) (holds_valid h))
      (true_and (le-leb h.n (alerts e) (small (dec_lt (alerts e) h.n))) (timed (has_timer e) (ℕ_discrete h.timer.enable 1) (λ o t. f (inr (inr (o, t))))))
    where
      go : (b : Bool) → (b ≡ true) ↔ Valid h → b ≡ true
      go true s = refl
      go false s = absurd (f (inl (λ v. false≢true (s.1 v))))

      small : Dec (alerts e < h.n) → h.n ≤ alerts e
      small (yes l) = absurd (f (inr (inl l)))
      small (no m) = omega arith

      timed : (b : Bool) → Dec (h.timer.enable ≡ 1) → (b ≡ false → h.timer.enable ≡ 1 → ⊥) → (b || not (is_on h)) ≡ true
      timed true d g = refl
      timed false (yes t) g = absurd (g refl t)
      timed false (no t) g = ap not (ne_eqb h.timer.enable 1 t)

  whole : ¬ Eight → length bytes % record_bytes e ≡ 0
  whole f = go (ℕ_discrete (length bytes % record_bytes e) 0)
    where
      go : Dec (length bytes % record_bytes e ≡ 0) → length bytes % record_bytes e ≡ 0
      go (yes z) = z
      go (no g) = absurd (f g)

  seven : Seven → batch_verdict e h bytes out ≡ Err BadState
  unfolding batch_verdict first_of
  seven s = rw (not_admitted s)

  eight : ¬ Seven → Eight → batch_verdict e h bytes out ≡ Err BadLength
  unfolding batch_verdict first_of
  eight f s = rw (admitted f, ne_eqb (length bytes % record_bytes e) 0 s)

  nine : ¬ Seven → ¬ Eight → Nine → batch_verdict e h bytes out ≡ Err ShortList
  unfolding batch_verdict first_of
  nine f g s = rw (admitted f, eq-eqb (length bytes % record_bytes e) 0 (whole g), lt-ltb (length out) (record_count e bytes) s)

  refuses : (m : Refusal) (n : ℕ) → number (Answer.Refused m) ≡ neg_ℤ (pos n) → batch_verdict e h bytes out ≡ Err m
      → Refuses n h out (batch e h bytes out).handler (batch e h bytes out).answer (batch e h bytes out).out
  refuses m n z v =
      let b = batch_refused e h bytes out m v in
      record { answer = ap (λ (s : Batched). s.answer) b ∙ z; state = ap (λ (s : Batched). s.handler) b; list = ap (λ (s : Batched). s.out) b }

  runs : ¬ Seven → ¬ Eight → ¬ Nine
      → Ran ticked word_of (record_count e bytes) (λ i. input_of e (record_at e bytes i)) h out (batch e h bytes out).handler (batch e h bytes out).answer (batch e h bytes out).out
  unfolding inputs_of number
  runs f g k =
      let r : record_count e bytes ≤ length out = omega arith in
      subst (λ (s : Batched). Ran ticked word_of (record_count e bytes) (λ i. input_of e (record_at e bytes i)) h out s.handler s.answer s.out)
      (sym (batch_good e h bytes out (admitted f) (whole g) r))
      (ran h (inputs_of e bytes) out (record_count e bytes) (λ i. input_of e (record_at e bytes i)) (input_of e [])
      (length_each (record_count e bytes) (λ i. input_of e (record_at e bytes i)))
      (λ i l. at_each (record_count e bytes) (λ i. input_of e (record_at e bytes i)) i (input_of e []) l) r)

-- ── the batch ──

pub holds_batches : Batches ticked word_of input_of (λ e h bytes out. (batch e h bytes out).handler) (λ e h bytes out. (batch e h bytes out).answer) (λ e h bytes out. (batch e h bytes out).out)
unfolding number
holds_batches Alerts64 h bytes out =
    record {
      refused_7 = λ s. refuses Alerts64 h bytes out BadState 7 refl (seven Alerts64 h bytes out s);
      refused_8 = λ f s. refuses Alerts64 h bytes out BadLength 8 refl (eight Alerts64 h bytes out f s);
      refused_9 = λ f g s. refuses Alerts64 h bytes out ShortList 9 refl (nine Alerts64 h bytes out f g s);
      runs = λ f g k. runs Alerts64 h bytes out f g k;
    }
holds_batches Alerts248 h bytes out =
    record {
      refused_7 = λ s. refuses Alerts248 h bytes out BadState 7 refl (seven Alerts248 h bytes out s);
      refused_8 = λ f s. refuses Alerts248 h bytes out BadLength 8 refl (eight Alerts248 h bytes out f s);
      refused_9 = λ f g s. refuses Alerts248 h bytes out ShortList 9 refl (nine Alerts248 h bytes out f g s);
      runs = λ f g k. runs Alerts248 h bytes out f g k;
    }
holds_batches Pings h bytes out =
    record {
      refused_7 = λ s. refuses Pings h bytes out BadState 7 refl (seven Pings h bytes out s);
      refused_8 = λ f s. refuses Pings h bytes out BadLength 8 refl (eight Pings h bytes out f s);
      refused_9 = λ f g s. refuses Pings h bytes out ShortList 9 refl (nine Pings h bytes out f g s);
      runs = λ f g k. runs Pings h bytes out f g k;
    }
holds_batches Wires h bytes out =
    record {
      refused_7 = λ s. refuses Wires h bytes out BadState 7 refl (seven Wires h bytes out s);
      refused_8 = λ f s. refuses Wires h bytes out BadLength 8 refl (eight Wires h bytes out f s);
      refused_9 = λ f g s. refuses Wires h bytes out ShortList 9 refl (nine Wires h bytes out f g s);
      runs = λ f g k. runs Wires h bytes out f g k;
    }

-- A batch: refused, it changes nothing; otherwise it gives what its ticks give one by one, and a trace may be cut between records.
-- Assumes nothing.
use Prim.Native.Nat.{ℕ, ◌+◌, ◌-◌, ◌*◌, ◌/◌, ◌%◌, ◌≤◌, ◌<◌}
use mathlib.Core.Path.{◌≡◌, refl, sym, ap, ap₂, ◌∙◌}
use mathlib.Core.Bool.{Bool, true, false, and-false, not, ◌&&◌, ◌||◌}
use mathlib.Core.List.{List, [], ◌++◌, map, map-append, append_assoc}
use native.Mathlib.Decide.{dec_lt}
use native.Mathlib.Omega.{arith}
use borrow.Author.Tests.{not-true, eq-eqb, le-leb, le-ltb}
use lib.Dec.{leb}
use lib.ListN.{length, get_or, take, drop, length-append, length-drop, length-map, get_or-append}
use lib.Seq.{take-append-le, drop-append-le, drop-append-add, get_or-append-add, take_at, drop_at, drop-drop}
use Rattle.std.specs.Prelude.{Ok, Err}
use Rattle.bits.proofs.IndexLaws.{and-true, true_and, at_each, length_each, is_each}
use Rattle.bits.specs.Index.{each}
use Rattle.rules.specs.Answer.{first_of, number, Verdict}
use Rattle.trace_rules.specs.Batch.{Batched, admits, batch, batch_of, batch_inputs, batch_verdict}
use Rattle.trace_rules.specs.Edition.{newest, record_bytes, alerts, has_timer}
use Rattle.trace_rules.specs.Record.{input_of, inputs_of, record_at, record_count}
use Rattle.rules.specs.Run.{run, ticks}
use Rattle.rules.specs.Valid.{valid}
use Rattle.rules.specs.declared.Answer.{Answer}
use Rattle.trace_rules.specs.declared.Edition.{Edition}
use Rattle.rules.specs.State.{most, is_on}
use Rattle.rules.specs.declared.Handler.{Handler}
use Rattle.rules.specs.declared.Input.{Input}
use Rattle.rules.specs.declared.Refusal.{Refusal}
use Rattle.rules.specs.declared.Refusal.TheVariants.{BadState}
use Rattle.trace_rules.specs.Word.{word_of}
use Rattle.trace_laws.specs.Batches.{of_ticks, behind, followed}
use Rattle.laws.specs.Above.{SameAbove}
use Rattle.laws.proofs.State.Above.{run_above}
use Rattle.laws.proofs.Valid.KeepsValid.{run_valid}
use Rattle.trace_laws.proofs.OlderEditions.{older_off}
use Rattle.trace_laws.proofs.PartLaws.{some_bytes, part_within, count_add, place_add, rest_add}
use Rattle.laws.proofs.Tick.Runs.{run_append, ticks_append, length_ticks}
use Rattle.laws.proofs.Valid.ValidLaws.{facts}

-- ── the states that an edition admits ──

pub admits_valid : (e : Edition) (h : Handler) → admits e h ≡ true → valid h ≡ true
unfolding admits
admits_valid e h a = (and-true (valid h) (leb h.n (alerts e) && (has_timer e || not (is_on h))) a).0

-- the ticks of its records keep the timer off, where it is without it
kept_off : (e : Edition) (h : Handler) (bytes : List ℕ) (b : Bool) → has_timer e ≡ b → (b || not (is_on h)) ≡ true → (b || not (is_on (run h (inputs_of e bytes)))) ≡ true
kept_off e h bytes true t a = a
kept_off e h bytes false t a = ap not (older_off e t h bytes (not-true (is_on h) a))

-- any number of ticks of its records leaves one
pub run_admits : (e : Edition) (h : Handler) (bytes : List ℕ) → admits e h ≡ true → admits e (run h (inputs_of e bytes)) ≡ true
unfolding admits
run_admits e h bytes a =
    let xs : List Input = inputs_of e bytes in
    let b = and-true (valid h) (leb h.n (alerts e) && (has_timer e || not (is_on h))) a in
    let c = and-true (leb h.n (alerts e)) (has_timer e || not (is_on h)) b.1 in
    true_and (run_valid h xs b.0)
    (true_and (ap (λ (n : ℕ). leb n (alerts e)) (run_above h xs).n ∙ c.0) (kept_off e h bytes (has_timer e) refl c.1))

-- the newest records speak of every alert that there is, and of the timer
pub admits_all : (h : Handler) → valid h ≡ true → admits newest h ≡ true
unfolding admits
admits_all h v = true_and v (true_and (le-leb h.n most (facts h v).n) refl)

-- request (xi): the records of request (ix) do too, so that their batch runs wherever one of the newest does
pub admits_pings : (h : Handler) → admits Edition.Pings h ≡ admits newest h
unfolding admits
admits_pings h = refl

-- ── refused or not ──

-- request (iii): a batch of old records answers 7 to a state of more than 64 alerts all the same, by what its edition admits
pub batch_valid : (e : Edition) (h : Handler) (bytes out : List ℕ) → valid h ≡ true → valid (batch e h bytes out).handler ≡ true
unfolding batch batch_of
batch_valid e h bytes out v = run_valid h (batch_inputs e (batch_verdict e h bytes out) bytes) v

-- the entries at N and above stay
pub batch_above : (e : Edition) (h : Handler) (bytes out : List ℕ) → SameAbove h (batch e h bytes out).handler
unfolding batch batch_of
batch_above e h bytes out = run_above h (batch_inputs e (batch_verdict e h bytes out) bytes)

-- ── a refused batch ──

-- it leaves the state and the list as they were
pub batch_refused : (e : Edition) (h : Handler) (bytes out : List ℕ) (m : Refusal) → batch_verdict e h bytes out ≡ Err m
    → batch e h bytes out ≡ record { handler = h; answer = number (Answer.Refused m); out = out }
unfolding batch batch_of run ticks
batch_refused e h bytes out m r = ap (λ (v : Verdict). batch_of e v h bytes out) r

-- request (ix): "an older batch answers 7 where the timer is on", before 8 and 9
pub older_refused : (e : Edition) (h : Handler) (bytes out : List ℕ) → has_timer e ≡ false → is_on h ≡ true → batch_verdict e h bytes out ≡ Err BadState
unfolding batch_verdict first_of admits
older_refused e h bytes out o t = rw (o, t, and-false (leb h.n (alerts e)), and-false (valid h))

-- so it leaves the timer on or off, as it was
pub older_batch : (e : Edition) (h : Handler) (bytes out : List ℕ) → has_timer e ≡ false → is_on (batch e h bytes out).handler ≡ is_on h
unfolding batch batch_of run
older_batch e h bytes out o = go (is_on h) refl
  where
    by : (v : Verdict) → is_on h ≡ false → is_on (run h (batch_inputs e v bytes)) ≡ is_on h
    by (Ok tt) t = older_off e o h bytes t ∙ sym t
    by (Err m) t = refl

    go : (b : Bool) → is_on h ≡ b → is_on (batch e h bytes out).handler ≡ is_on h
    go true t = ap (λ (s : Batched). is_on s.handler) (batch_refused e h bytes out BadState (older_refused e h bytes out o t))
    go false t = by (batch_verdict e h bytes out) t

-- ── any other ──

module _ (e : Edition) (h : Handler) (bytes out : List ℕ) where
  verdict_good : admits e h ≡ true → length bytes % record_bytes e ≡ 0 → record_count e bytes ≤ length out → batch_verdict e h bytes out ≡ Ok tt
  unfolding batch_verdict first_of
  verdict_good v w r = rw (v, eq-eqb (length bytes % record_bytes e) 0 w, le-ltb (length out) (record_count e bytes) r)

  -- its answer is 0, its state and words those of its ticks
  pub batch_good : admits e h ≡ true → length bytes % record_bytes e ≡ 0 → record_count e bytes ≤ length out → batch e h bytes out ≡ of_ticks e h bytes out
  unfolding batch batch_of inputs_of
  batch_good v w r =
      ap (λ (t : Verdict). batch_of e t h bytes out) (verdict_good v w r)
      ∙ ap (λ (n : ℕ). record { handler = run h (inputs_of e bytes); answer = number Answer.Done; out = map word_of (ticks h (inputs_of e bytes)) ++ drop n out })
      (length_each (record_count e bytes) (λ i. input_of e (record_at e bytes i)))

-- ── a trace cut between two records ──

-- a list by index, of two parts
each_append : {A : Type 0} (m n : ℕ) (f g k : ℕ → A) (d : A) → ((i : ℕ) → i < m → f i ≡ k i) → ((i : ℕ) → i < n → g i ≡ k (m + i)) → each m f ++ each n g ≡ each (m + n) k
each_append {A} m n f g k d p q =
    is_each (m + n) (each m f ++ each n g) k d
    (length-append (each m f) (each n g) ∙ ap₂ ◌+◌ (length_each m f) (length_each n g)) (λ i h. go i h (dec_lt i m))
  where
    go : (i : ℕ) → i < m + n → Dec (i < m) → get_or (each m f ++ each n g) i d ≡ k i
    go i h (yes l) = get_or-append (each m f) (each n g) d i (omega (arith, length_each m f)) ∙ at_each m f i d l ∙ p i l
    go i h (no l) =
        let e : length (each m f) + (i - m) ≡ i = omega (arith, length_each m f) in
        let c : i - m < n = omega arith in
        let r : m + (i - m) ≡ i = omega arith in
        ap (λ (x : ℕ). get_or (each m f ++ each n g) x d) (sym e) ∙ get_or-append-add (each m f) (each n g) (i - m) d
        ∙ at_each n g (i - m) d c ∙ q (i - m) c ∙ ap k r

module _ (e : Edition) (a b : List ℕ) (w : length a % record_bytes e ≡ 0) where
  pub count_append : record_count e (a ++ b) ≡ record_count e a + record_count e b
  count_append = ap (λ (n : ℕ). n / record_bytes e) (length-append a b) ∙ count_add (record_bytes e) (some_bytes e) (length a) (length b) w

  pub rest_append : length (a ++ b) % record_bytes e ≡ length b % record_bytes e
  rest_append = ap (λ (n : ℕ). n % record_bytes e) (length-append a b) ∙ rest_add (record_bytes e) (some_bytes e) (length a) (length b) w

  -- the records of a, and then those of b
  pub record_first : (i : ℕ) → i < record_count e a → record_at e (a ++ b) i ≡ record_at e a i
  record_first i l =
      let in_a : i * record_bytes e + record_bytes e ≤ length a = part_within (record_bytes e) (some_bytes e) (length a) i l in
      ap (take (record_bytes e)) (drop-append-le (i * record_bytes e) a b (omega arith))
      ∙ take-append-le (record_bytes e) (drop (i * record_bytes e) a) b (simp length-drop (omega arith))

  pub record_second : (i : ℕ) → record_at e (a ++ b) (record_count e a + i) ≡ record_at e b i
  record_second i =
      ap (λ (n : ℕ). take (record_bytes e) (drop n (a ++ b))) (place_add (record_bytes e) (some_bytes e) (length a) i w)
      ∙ ap (take (record_bytes e)) (drop-append-add a b (i * record_bytes e))

  pub inputs_append : inputs_of e (a ++ b) ≡ inputs_of e a ++ inputs_of e b
  unfolding inputs_of
  inputs_append =
      ap (λ (n : ℕ). each n (λ i. input_of e (record_at e (a ++ b) i))) count_append
      ∙ sym (each_append (record_count e a) (record_count e b) (λ i. input_of e (record_at e a i)) (λ i. input_of e (record_at e b i)) (λ i. input_of e (record_at e (a ++ b) i)) (input_of e [])
      (λ i l. ap (input_of e) (sym (record_first i l))) (λ i l. ap (input_of e) (sym (record_second i))))

module _ (e : Edition) (h : Handler) (a b out : List ℕ) (v : admits e h ≡ true) (wa : length a % record_bytes e ≡ 0) (wb : length b % record_bytes e ≡ 0)
    (r : record_count e (a ++ b) ≤ length out) where
  abbrev left : Handler
  left = run h (inputs_of e a)

  abbrev first_words : List ℕ
  first_words = map word_of (ticks h (inputs_of e a))

  abbrev rest : List ℕ
  rest = drop (record_count e a) out

  words_first : length first_words ≡ record_count e a
  unfolding inputs_of
  words_first = length-map (ticks h (inputs_of e a)) word_of ∙ length_ticks h (inputs_of e a) ∙ length_each (record_count e a) (λ i. input_of e (record_at e a i))

  -- the words of both
  words_both : (of_ticks e h (a ++ b) out).out ≡ first_words ++ (of_ticks e left b rest).out
  words_both =
      ap₂ (λ (ws vs : List ℕ). ws ++ vs)
      (ap (λ (xs : List Input). map word_of (ticks h xs)) (inputs_append e a b wa) ∙ ap (map word_of) (ticks_append h (inputs_of e a) (inputs_of e b))
      ∙ map-append word_of (ticks h (inputs_of e a)) (ticks left (inputs_of e b)))
      (ap (λ (n : ℕ). drop n out) (count_append e a b wa) ∙ sym (drop-drop (record_count e b) (record_count e a) out))
      ∙ append_assoc first_words (map word_of (ticks left (inputs_of e b))) (drop (record_count e b) rest)

  ticks_both : of_ticks e h (a ++ b) out ≡ behind first_words (of_ticks e left b rest)
  ticks_both =
      ap₂ (λ (g : Handler) (ws : List ℕ). record { handler = g; answer = number Answer.Done; out = ws })
      (ap (run h) (inputs_append e a b wa) ∙ run_append h (inputs_of e a) (inputs_of e b)) words_both

  followed_ticks : followed e (record_count e a) (of_ticks e h a out) b ≡ behind first_words (of_ticks e left b rest)
  followed_ticks =
      ap₂ (λ (ws vs : List ℕ). behind ws (batch e left b vs)) (take_at first_words rest (record_count e a) words_first) (drop_at first_words rest (record_count e a) words_first)
      ∙ ap (behind first_words) (batch_good e left b rest (run_admits e h a v) wb (simp length-drop (omega (arith, count_append e a b wa))))

  -- one batch gives what two give, the second on the state that the first leaves
  pub batch_append : batch e h (a ++ b) out ≡ followed e (record_count e a) (batch e h a out) b
  batch_append =
      batch_good e h (a ++ b) out v (rest_append e a b wa ∙ wb) r ∙ ticks_both ∙ sym followed_ticks
      ∙ sym (ap (λ (f : Batched). followed e (record_count e a) f b) (batch_good e h a out v wa (omega (arith, count_append e a b wa))))

-- The records that some bytes hold whole, and the text of their words.
-- Assumes nothing.
use Prim.Native.Nat.{ℕ, zero, suc, ◌+◌, ◌*◌, ◌/◌, ◌%◌, ◌≤◌, ◌<◌}
use mathlib.Core.Path.{◌≡◌, refl, ap, ap₂, subst, ◌∙◌}
use mathlib.Core.Bool.{true}
use mathlib.Core.List.{List, [], ◌∷◌, ◌++◌, map}
use native.Mathlib.Nat.{div-lt_iff_lt-mul, mul-mod_left, suc-mul}
use native.Mathlib.Omega.{arith}
use lib.ListN.{length, take, drop, length-map}
use lib.Seq.{take-take, take_at, take_all, length-take-le}
use Rattle.bits.proofs.IndexLaws.{each_ext}
use Rattle.bits.specs.Index.{each}
use Rattle.trace_rules.specs.Batch as rules
use Rattle.trace_rules.specs.Batch.{admits}
use Rattle.trace_rules.specs.Edition.{record_bytes}
use Rattle.trace_rules.specs.Record.{input_of, inputs_of, record_at, record_count}
use Rattle.rules.specs.Run.{run, ticks}
use Rattle.trace_rules.specs.declared.Edition.{Edition}
use Rattle.rules.specs.declared.Handler.{Handler}
use Rattle.rules.specs.declared.Input.{Input}
use Rattle.trace_rules.specs.Word.{word_of}
use Rattle.trace_laws.proofs.BatchLaws.{batch_good}
use Rattle.trace_laws.proofs.PartLaws.{some_bytes, part_within, parts_within, many_parts}
use Rattle.laws.proofs.Tick.Runs.{length_ticks}
use Rattle.trace_laws.specs.Batches.{of_ticks}
use Rattle.batch.proofs.Running.{length_inputs}
use Rattle.batch.specs.BatchedBy as batch
use Rattle.batch.specs.declared.Batched.{Batched}
use Rattle.text.specs.HexLines.{Written, lines_of, count_of}
use Rattle.replay.specs.ReplayedBy.{ReplayedBy}

-- a part of a list that the list's start holds
pub part_take : {A : Type 0} (n k m : ℕ) (xs : List A) → k + n ≤ m → take n (drop k (take m xs)) ≡ take n (drop k xs)
part_take n zero m xs h = take-take n m xs (omega arith)
part_take n (suc k) zero xs h = absurd (omega arith)
part_take n (suc k) (suc m) [] h = refl
part_take n (suc k) (suc m) (x ∷ xs) h = part_take n k m xs (omega arith)

-- the bytes of the records that some bytes hold whole
abbrev pub whole_of : Edition → List ℕ → List ℕ
whole_of e bytes = take (record_count e bytes * record_bytes e) bytes

pub length_whole : (e : Edition) (bytes : List ℕ) → length (whole_of e bytes) ≡ record_count e bytes * record_bytes e
length_whole e bytes = length-take-le (record_count e bytes * record_bytes e) bytes (parts_within (record_bytes e) (some_bytes e) (length bytes) (record_count e bytes) (omega arith))

count_whole : (e : Edition) (bytes : List ℕ) → record_count e (whole_of e bytes) ≡ record_count e bytes
count_whole e bytes = ap (λ (n : ℕ). n / record_bytes e) (length_whole e bytes) ∙ many_parts (record_bytes e) (some_bytes e) (record_count e bytes)

pub whole_length : (e : Edition) (bytes : List ℕ) → length (whole_of e bytes) % record_bytes e ≡ 0
whole_length e bytes = ap (λ (n : ℕ). n % record_bytes e) (length_whole e bytes) ∙ mul-mod_left (record_count e bytes) (record_bytes e)

-- bytes of n records at most
pub few_records : (e : Edition) (bytes : List ℕ) (n : ℕ) → length bytes ≤ n * record_bytes e → record_count e bytes ≤ n
few_records e bytes n h =
    let l : record_count e bytes < suc n = (div-lt_iff_lt-mul (some_bytes e)).1 (omega (arith, suc-mul n (record_bytes e), some_bytes e)) in
    omega arith

-- rest bytes are no record
pub inputs_whole : (e : Edition) (bytes : List ℕ) → inputs_of e (whole_of e bytes) ≡ inputs_of e bytes
unfolding inputs_of
inputs_whole e bytes =
    let n = record_count e bytes in
    let d = record_bytes e in
    let within : (i : ℕ) → i < n → i * d + d ≤ n * d = λ i h. part_within d (some_bytes e) (n * d) i (omega (arith, many_parts d (some_bytes e) n)) in
    ap (λ (k : ℕ). each k (λ i. input_of e (record_at e (whole_of e bytes) i))) (count_whole e bytes)
    ∙ each_ext n (λ i. input_of e (record_at e (whole_of e bytes) i)) (λ i. input_of e (record_at e bytes i)) (input_of e [])
    (λ i h. ap (input_of e) (part_take d (i * d) (n * d) bytes (within i h)))

-- the words of their ticks, as many as records
abbrev words_of : Edition → Handler → List ℕ → List ℕ
words_of e h bytes = map word_of (ticks h (inputs_of e bytes))

length_words : (e : Edition) (h : Handler) (bytes : List ℕ) → length (words_of e h bytes) ≡ record_count e bytes
length_words e h bytes = length-map (ticks h (inputs_of e bytes)) word_of ∙ length_ticks h (inputs_of e bytes) ∙ length_inputs e bytes

module _ (e : Edition) (h : Handler) (bytes text out : List ℕ) (v : admits e h ≡ true) (fits : record_count e bytes ≤ length out) (room : 17 * record_count e bytes ≤ length text) where
  -- the batch of the whole records is not refused
  done : rules.batch e h (whole_of e bytes) out ≡ of_ticks e h (whole_of e bytes) out
  done = batch_good e h (whole_of e bytes) out v (whole_length e bytes) (omega (arith, count_whole e bytes))

  pub given_text : (b : Batched) (left : List ℕ) → batch.BatchedBy e h (whole_of e bytes) out b left
      → (n : ℕ) (filled : List ℕ) → Written (take (record_count e bytes) left) text n filled
      → ReplayedBy e h bytes text (record { handler = b.handler; written = n }) filled
  given_text b left g n filled w =
      let a : left ≡ words_of e h bytes ++ drop (record_count e bytes) out =
      g.words ∙ ap (λ (x : rules.Batched). x.out) done
      ∙ ap₂ (λ (xs : List Input) (k : ℕ). map word_of (ticks h xs) ++ drop k out) (inputs_whole e bytes) (count_whole e bytes) in
      let t : take (record_count e bytes) left ≡ words_of e h bytes = ap (take (record_count e bytes)) a ∙ take_at (words_of e h bytes) (drop (record_count e bytes) out) (record_count e bytes) (length_words e h bytes) in
      let c : count_of (take (record_count e bytes) left) text ≡ record_count e bytes = ap (λ (ws : List ℕ). count_of ws text) t ∙ omega (arith, length_words e h bytes) in
      record {
        handler = g.handler ∙ ap (λ (x : rules.Batched). x.handler) done ∙ ap (run h) (inputs_whole e bytes);
        written = w.bytes ∙ ap (λ (k : ℕ). 17 * k) c;
        lines =
            w.lines
            ∙ ap₂ (λ (k : ℕ) (ws : List ℕ). lines_of (take k ws) ++ drop (17 * k) text) c t
            ∙ ap (λ (ws : List ℕ). lines_of ws ++ drop (17 * record_count e bytes) text) (take_all (record_count e bytes) (words_of e h bytes) (omega (arith, length_words e h bytes)));
      }

  -- the same by the size d of a record
  pub given_sized : (d : ℕ) → d ≡ record_bytes e → (b : Batched) (left : List ℕ) → batch.BatchedBy e h (take (length bytes / d * d) bytes) out b left
      → (n : ℕ) (filled : List ℕ) → Written (take (length bytes / d) left) text n filled
      → ReplayedBy e h bytes text (record { handler = b.handler; written = n }) filled
  given_sized d z b left g n filled w =
      given_text b left (subst (λ (k : ℕ). batch.BatchedBy e h (take (length bytes / k * k) bytes) out b left) z g) n filled
      (subst (λ (k : ℕ). Written (take (length bytes / k) left) text n filled) z w)

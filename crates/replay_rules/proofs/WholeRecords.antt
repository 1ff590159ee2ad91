-- The records that some bytes hold whole, and the bytes behind them.
-- Assumes nothing.
use Prim.Native.Nat.{ℕ, zero, suc, ◌+◌, ◌*◌, ◌/◌, ◌%◌, ◌≤◌, ◌<◌}
use mathlib.Core.Path.{◌≡◌, refl, sym, ap, ◌∙◌}
use mathlib.Core.List.{List, [], ◌∷◌, ◌++◌, append_assoc}
use native.Mathlib.Nat.{div-add-mod', div-eq_of_lt, div-lt_iff_lt-mul, mod-lt, mul-mod_left, suc-mul, zero-mul}
use native.Mathlib.Omega.{arith}
use lib.ListN.{length, take, drop, length-drop, take-append-drop}
use lib.Seq.{drop-append-add, take-take, length-take-le}
use Rattle.bits.proofs.IndexLaws.{each_ext}
use Rattle.bits.specs.Index.{each, each_from}
use Rattle.trace_rules.specs.Edition.{record_bytes}
use Rattle.trace_rules.specs.Record.{input_of, inputs_of, record_at, record_count}
use Rattle.trace_rules.specs.declared.Edition.{Edition}
use Rattle.trace_laws.proofs.BatchLaws.{count_append, inputs_append, rest_append}
use Rattle.trace_laws.proofs.PartLaws.{some_bytes, part_within, parts_within, many_parts, place_add}
use Rattle.replay_rules.specs.Turns.{rest_of}

-- a part of a list that the list's start holds
pub part_take : {A : Type 0} (n k m : ℕ) (xs : List A) → k + n ≤ m → take n (drop k (take m xs)) ≡ take n (drop k xs)
part_take n zero m xs h = take-take n m xs (omega arith)
part_take n (suc k) zero xs h = absurd (omega arith)
part_take n (suc k) (suc m) [] h = refl
part_take n (suc k) (suc m) (x ∷ xs) h = part_take n k m xs (omega arith)

-- the bytes of the records that some bytes hold whole
abbrev pub whole_of : Edition → List ℕ → List ℕ
whole_of e bytes = take (record_count e bytes * record_bytes e) bytes

pub length_whole : (e : Edition) (bytes : List ℕ) → length (whole_of e bytes) ≡ record_count e bytes * record_bytes e
length_whole e bytes = length-take-le (record_count e bytes * record_bytes e) bytes (parts_within (record_bytes e) (some_bytes e) (length bytes) (record_count e bytes) (omega arith))

pub count_whole : (e : Edition) (bytes : List ℕ) → record_count e (whole_of e bytes) ≡ record_count e bytes
count_whole e bytes = ap (λ (n : ℕ). n / record_bytes e) (length_whole e bytes) ∙ many_parts (record_bytes e) (some_bytes e) (record_count e bytes)

pub whole_length : (e : Edition) (bytes : List ℕ) → length (whole_of e bytes) % record_bytes e ≡ 0
whole_length e bytes = ap (λ (n : ℕ). n % record_bytes e) (length_whole e bytes) ∙ mul-mod_left (record_count e bytes) (record_bytes e)

-- bytes of n records at most
pub few_records : (e : Edition) (bytes : List ℕ) (n : ℕ) → length bytes ≤ n * record_bytes e → record_count e bytes ≤ n
few_records e bytes n h =
    let l : record_count e bytes < suc n = (div-lt_iff_lt-mul (some_bytes e)).1 (omega (arith, suc-mul n (record_bytes e), some_bytes e)) in
    omega arith

-- rest bytes are no record
pub inputs_whole : (e : Edition) (bytes : List ℕ) → inputs_of e (whole_of e bytes) ≡ inputs_of e bytes
unfolding inputs_of
inputs_whole e bytes =
    let n = record_count e bytes in
    let d = record_bytes e in
    let within : (i : ℕ) → i < n → i * d + d ≤ n * d = λ i h. part_within d (some_bytes e) (n * d) i (omega (arith, many_parts d (some_bytes e) n)) in
    ap (λ (k : ℕ). each k (λ i. input_of e (record_at e (whole_of e bytes) i))) (count_whole e bytes)
    ∙ each_ext n (λ i. input_of e (record_at e (whole_of e bytes) i)) (λ i. input_of e (record_at e bytes i)) (input_of e [])
    (λ i h. ap (input_of e) (part_take d (i * d) (n * d) bytes (within i h)))

-- ── the rest ──

pub length_rest : (e : Edition) (bytes : List ℕ) → length (rest_of e bytes) ≡ length bytes % record_bytes e
length_rest e bytes =
    let s : length bytes / record_bytes e * record_bytes e + length bytes % record_bytes e ≡ length bytes = div-add-mod' (length bytes) (record_bytes e) in
    simp length-drop (omega arith)

pub rest_short : (e : Edition) (bytes : List ℕ) → length (rest_of e bytes) < record_bytes e
rest_short e bytes = omega (arith, length_rest e bytes, mod-lt (length bytes) (some_bytes e))

-- bytes that hold no whole record
module _ (e : Edition) (bytes : List ℕ) (short : length bytes < record_bytes e) where
  pub none_whole : record_count e bytes ≡ 0
  none_whole = div-eq_of_lt short

  pub no_inputs : inputs_of e bytes ≡ []
  unfolding inputs_of each_from
  no_inputs = ap (λ (k : ℕ). each_from 0 k (λ i. input_of e (record_at e bytes i))) none_whole

  pub all_rest : rest_of e bytes ≡ bytes
  all_rest = ap (λ (k : ℕ). drop (k * record_bytes e) bytes) none_whole ∙ ap (λ (k : ℕ). drop k bytes) (zero-mul (record_bytes e))

-- ── completed ──

module _ (e : Edition) (a b : List ℕ) where
  -- the whole records of a, and then its rest with b
  cut_whole : a ++ b ≡ whole_of e a ++ (rest_of e a ++ b)
  cut_whole = ap (λ (xs : List ℕ). xs ++ b) (sym (take-append-drop (record_count e a * record_bytes e) a)) ∙ append_assoc (whole_of e a) (rest_of e a) b

  pub inputs_behind : inputs_of e (a ++ b) ≡ inputs_of e a ++ inputs_of e (rest_of e a ++ b)
  inputs_behind =
      ap (inputs_of e) cut_whole ∙ inputs_append e (whole_of e a) (rest_of e a ++ b) (whole_length e a)
      ∙ ap (λ xs. xs ++ inputs_of e (rest_of e a ++ b)) (inputs_whole e a)

  pub rest_behind : rest_of e (a ++ b) ≡ rest_of e (rest_of e a ++ b)
  rest_behind =
      let c = rest_of e a ++ b in
      let w = whole_length e a in
      ap (rest_of e) cut_whole
      ∙ ap (λ (k : ℕ). drop k (whole_of e a ++ c))
      (ap (λ (k : ℕ). k * record_bytes e) (count_append e (whole_of e a) c w) ∙ place_add (record_bytes e) (some_bytes e) (length (whole_of e a)) (record_count e c) w)
      ∙ drop-append-add (whole_of e a) c (record_count e c * record_bytes e)

  pub length_behind : length (rest_of e a ++ b) % record_bytes e ≡ length (a ++ b) % record_bytes e
  length_behind = sym (rest_append e (whole_of e a) (rest_of e a ++ b) (whole_length e a)) ∙ ap (λ (xs : List ℕ). length xs % record_bytes e) (sym cut_whole)

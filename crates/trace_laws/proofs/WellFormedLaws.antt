-- Bytes that are whole records, none of them malformed: one record, the parts of a list of them, and induction on it.
-- Assumes nothing.
use Prim.Native.Nat.{ℕ, zero, suc, ◌+◌, ◌-◌, ◌*◌, ◌%◌, ◌^◌, ◌≤◌, ◌<◌}
use mathlib.Core.Path.{◌≡◌, sym, ap, ◌∙◌, subst}
use mathlib.Core.Bool.{false}
use mathlib.Core.List.{List, [], ◌∷◌, ◌++◌}
use native.Mathlib.Decide.{dec_lt}
use native.Mathlib.Nat.{zero-mul, suc-mul, zero-div, zero-mod}
use native.Mathlib.Omega.{arith}
use lib.ListN.{get_or, length, take, drop, length-drop, take-append-drop, get_or-append, get_or-eq_default}
use lib.Pow.{pow_pos}
use lib.Seq.{length-take-le, take_all, get_or-append-add}
use Rattle.bits.specs.Index.{each, each_from}
use Rattle.rules.specs.Access.{malformed}
use Rattle.trace_rules.specs.Edition.{record_bytes}
use Rattle.trace_rules.specs.Record.{held_in, input_of, inputs_of, record_at, record_count}
use Rattle.trace_rules.specs.Writer.{WellFormed}
use Rattle.trace_rules.specs.declared.Edition.{Edition}
use Rattle.rules.specs.declared.Input.{Input}
use Rattle.trace_laws.proofs.BatchLaws.{count_append, rest_append, record_first, record_second, inputs_append}
use Rattle.trace_laws.proofs.PartLaws.{some_bytes, one_part, one_whole, whole_parts}

-- ── one record ──

record_alone : (e : Edition) (bytes : List ℕ) → length bytes ≡ record_bytes e → record_at e bytes 0 ≡ bytes
record_alone e bytes n =
    ap (λ (k : ℕ). take (record_bytes e) (drop k bytes)) (zero-mul (record_bytes e)) ∙ take_all (record_bytes e) bytes (omega arith)

pub formed_one : (e : Edition) (bytes : List ℕ) → length bytes ≡ record_bytes e → WellFormed e bytes → malformed (held_in e bytes).access ≡ false
formed_one e bytes n w =
    ap (λ (b : List ℕ). malformed (held_in e b).access) (sym (record_alone e bytes n))
    ∙ w.formed 0 (omega (arith, one_part (record_bytes e) (some_bytes e) (length bytes) n))

pub one_formed : (e : Edition) (bytes : List ℕ) → length bytes ≡ record_bytes e → ((i : ℕ) → get_or bytes i 0 < 2 ^ 8) → malformed (held_in e bytes).access ≡ false
    → WellFormed e bytes
one_formed e bytes n h f =
    record {
      whole = one_whole (record_bytes e) (some_bytes e) (length bytes) n;
      byte = h;
      formed = λ i l. let z : i ≡ 0 = omega (arith, one_part (record_bytes e) (some_bytes e) (length bytes) n) in ap (λ (j : ℕ). malformed (held_in e (record_at e bytes j)).access) z
          ∙ ap (λ (b : List ℕ). malformed (held_in e b).access) (record_alone e bytes n) ∙ f;
    }

inputs_one : (e : Edition) (bytes : List ℕ) → length bytes ≡ record_bytes e → inputs_of e bytes ≡ input_of e bytes ∷ []
unfolding inputs_of each_from
inputs_one e bytes n =
    ap (λ (k : ℕ). each k (λ i. input_of e (record_at e bytes i))) (one_part (record_bytes e) (some_bytes e) (length bytes) n)
    ∙ ap (λ (b : List ℕ). input_of e b ∷ []) (record_alone e bytes n)

-- ── a record before others ──

pub inputs_cons : (e : Edition) (r rest : List ℕ) → length r ≡ record_bytes e → inputs_of e (r ++ rest) ≡ input_of e r ∷ inputs_of e rest
inputs_cons e r rest n =
    inputs_append e r rest (one_whole (record_bytes e) (some_bytes e) (length r) n) ∙ ap (λ (xs : List Input). xs ++ inputs_of e rest) (inputs_one e r n)

pub inputs_none : (e : Edition) → inputs_of e [] ≡ []
unfolding inputs_of each_from
inputs_none e = ap (λ (n : ℕ). each n (λ i. input_of e (record_at e [] i))) (zero-div (record_bytes e))

pub none_formed : (e : Edition) → WellFormed e []
none_formed e = record { whole = zero-mod (record_bytes e); byte = λ i. pow_pos 8; formed = λ i l. absurd (omega (arith, zero-div (record_bytes e))) }

-- ── the parts of well-formed bytes, cut between records ──

module _ (e : Edition) (a b : List ℕ) (k : length a % record_bytes e ≡ 0) (w : WellFormed e (a ++ b)) where
  byte_first : (i : ℕ) → get_or a i 0 < 2 ^ 8
  byte_first i = go (dec_lt i (length a))
    where
      go : Dec (i < length a) → get_or a i 0 < 2 ^ 8
      go (yes l) = subst (λ (n : ℕ). n < 2 ^ 8) (get_or-append a b 0 i l) (w.byte i)
      go (no l) = subst (λ (n : ℕ). n < 2 ^ 8) (sym (get_or-eq_default a 0 (let g : length a ≤ i = omega arith in g))) (pow_pos 8)

  pub well_formed_first : WellFormed e a
  well_formed_first =
      record {
        whole = k;
        byte = byte_first;
        formed = λ i l. ap (λ (r : List ℕ). malformed (held_in e r).access) (sym (record_first e a b k i l)) ∙ w.formed i (omega (arith, count_append e a b k));
      }

  pub well_formed_second : WellFormed e b
  well_formed_second =
      record {
        whole = sym (rest_append e a b k) ∙ w.whole;
        byte = λ i. subst (λ (n : ℕ). n < 2 ^ 8) (get_or-append-add a b i 0) (w.byte (length a + i));
        formed = λ i l. ap (λ (r : List ℕ). malformed (held_in e r).access) (sym (record_second e a b k i))
            ∙ w.formed (record_count e a + i) (omega (arith, count_append e a b k));
      }

-- ── one list of records after the other ──

module _ (e : Edition) (a b : List ℕ) (v : WellFormed e a) (w : WellFormed e b) where
  byte_both : (i : ℕ) → get_or (a ++ b) i 0 < 2 ^ 8
  byte_both i = go (dec_lt i (length a))
    where
      go : Dec (i < length a) → get_or (a ++ b) i 0 < 2 ^ 8
      go (yes l) = subst (λ (n : ℕ). n < 2 ^ 8) (sym (get_or-append a b 0 i l)) (v.byte i)
      go (no l) =
          let z : length a + (i - length a) ≡ i = omega arith in
          subst (λ (n : ℕ). n < 2 ^ 8) (sym (get_or-append-add a b (i - length a) 0) ∙ ap (λ (j : ℕ). get_or (a ++ b) j 0) z) (w.byte (i - length a))

  formed_both : (i : ℕ) → i < record_count e (a ++ b) → malformed (held_in e (record_at e (a ++ b) i)).access ≡ false
  formed_both i l = go (dec_lt i (record_count e a))
    where
      go : Dec (i < record_count e a) → malformed (held_in e (record_at e (a ++ b) i)).access ≡ false
      go (yes m) = ap (λ (r : List ℕ). malformed (held_in e r).access) (record_first e a b v.whole i m) ∙ v.formed i m
      go (no m) =
          let z : record_count e a + (i - record_count e a) ≡ i = omega arith in
          ap (λ (j : ℕ). malformed (held_in e (record_at e (a ++ b) j)).access) (sym z)
          ∙ ap (λ (r : List ℕ). malformed (held_in e r).access) (record_second e a b v.whole (i - record_count e a))
          ∙ w.formed (i - record_count e a) (omega (arith, count_append e a b v.whole))

  pub well_formed_append : WellFormed e (a ++ b)
  well_formed_append = record { whole = rest_append e a b v.whole ∙ w.whole; byte = byte_both; formed = formed_both }

-- ── by records ──

-- what holds of no bytes, and of a record before bytes of which it holds, holds of all well-formed bytes
module _ (e : Edition) (P : List ℕ → Type 0) (none : P [])
    (more : (r rest : List ℕ) → length r ≡ record_bytes e → WellFormed e r → P rest → P (r ++ rest)) where
  by_count : (n : ℕ) (bytes : List ℕ) → length bytes ≡ n * record_bytes e → WellFormed e bytes → P bytes
  by_count zero [] z w = none
  by_count zero (b ∷ bytes) z w = absurd (omega (arith, zero-mul (record_bytes e)))
  by_count (suc n) bytes z w =
      let r = take (record_bytes e) bytes in
      let rest = drop (record_bytes e) bytes in
      let s : r ++ rest ≡ bytes = take-append-drop (record_bytes e) bytes in
      let m : length r ≡ record_bytes e = length-take-le (record_bytes e) bytes (omega (arith, suc-mul n (record_bytes e))) in
      let l : length rest ≡ n * record_bytes e =
      length-drop (record_bytes e) bytes ∙ (let d : length bytes - record_bytes e ≡ n * record_bytes e = omega (arith, suc-mul n (record_bytes e)) in d) in
      let v : WellFormed e (r ++ rest) = subst (WellFormed e) (sym s) w in
      let k : length r % record_bytes e ≡ 0 = one_whole (record_bytes e) (some_bytes e) (length r) m in
      subst P s (more r rest m (well_formed_first e r rest k v) (by_count n rest l (well_formed_second e r rest k v)))

  pub by_records : (bytes : List ℕ) → WellFormed e bytes → P bytes
  by_records bytes w = by_count (record_count e bytes) bytes (sym (whole_parts (record_bytes e) (some_bytes e) (length bytes) w.whole)) w

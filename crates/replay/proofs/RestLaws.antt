-- The rest bytes: moved to the buffer's start, and completed by what comes next.
-- Assumes nothing.
use Prim.Native.Nat.{ℕ, ◌+◌, ◌-◌, ◌*◌, ◌/◌, ◌%◌, ◌≤◌, ◌<◌}
use mathlib.Core.Path.{◌≡◌, sym, ap, ap₂, subst, ◌∙◌}
use mathlib.Core.List.{List, ◌++◌, append_assoc}
use native.Mathlib.Nat.{div-add-mod', mod-lt}
use native.Mathlib.Omega.{arith}
use lib.ListN.{length, take, drop, length-drop, take-append-drop}
use lib.Seq.{drop-append-add, length-take-le, paste, take_all, take_at}
use Rattle.std.specs.List.{copy_within}
use Rattle.trace_rules.specs.Edition.{record_bytes}
use Rattle.trace_rules.specs.declared.Edition.{Edition}
use Rattle.trace_rules.specs.Record.{inputs_of, record_count}
use Rattle.trace_laws.proofs.BatchLaws.{count_append, inputs_append}
use Rattle.trace_laws.proofs.PartLaws.{some_bytes, place_add}
use Rattle.replay.specs.Rest.{Kept, rest_of}
use Rattle.replay.proofs.WholeRecords.{inputs_whole, part_take, whole_length, whole_of}

-- ── moved to the start ──

-- the rest of the first n entries, copied to the start
pub kept_front : (e : Edition) (n : ℕ) (xs : List ℕ) (d : ℕ) → d ≡ record_bytes e → n ≤ length xs → Kept e (take n xs) (n % d) (copy_within xs (n - n % d) n 0)
kept_front e n xs d z h =
    let r = n % d in
    let k = n - n % d in
    let l = length-take-le n xs h in
    let s : n / d * d + n % d ≡ n = div-add-mod' n d in
    let c : n / d * d ≡ record_count e (take n xs) * record_bytes e = ap₂ (λ (m i : ℕ). m / i * i) (sym l) z in
    let k_is : k ≡ record_count e (take n xs) * record_bytes e = omega arith in
    let r_is : n - k ≡ r = omega arith in
    let part : length (take r (drop k xs)) ≡ r = length-take-le r (drop k xs) (simp length-drop (omega arith)) in
    let small : r < record_bytes e = subst (λ (i : ℕ). n % d < i) z (mod-lt n (subst (λ (i : ℕ). 0 < i) (sym z) (some_bytes e))) in
    record {
      rest =
          ap (λ (m : ℕ). take r (paste xs 0 (drop k xs) m)) r_is
          ∙ take_at (take r (drop k xs)) (drop (0 + r) xs) r part
          ∙ sym (part_take r k n xs (omega arith))
          ∙ take_all r (drop k (take n xs)) (simp length-drop (omega arith))
          ∙ ap (λ (j : ℕ). drop j (take n xs)) k_is;
      short = small;
    }

-- ── completed ──

module _ (e : Edition) (a b : List ℕ) where
  -- the whole records of a, and then its rest with b
  cut_whole : a ++ b ≡ whole_of e a ++ (rest_of e a ++ b)
  cut_whole = ap (λ (xs : List ℕ). xs ++ b) (sym (take-append-drop (record_count e a * record_bytes e) a)) ∙ append_assoc (whole_of e a) (rest_of e a) b

  pub inputs_behind : inputs_of e (a ++ b) ≡ inputs_of e a ++ inputs_of e (rest_of e a ++ b)
  inputs_behind =
      ap (inputs_of e) cut_whole ∙ inputs_append e (whole_of e a) (rest_of e a ++ b) (whole_length e a)
      ∙ ap (λ xs. xs ++ inputs_of e (rest_of e a ++ b)) (inputs_whole e a)

  pub rest_behind : rest_of e (a ++ b) ≡ rest_of e (rest_of e a ++ b)
  rest_behind =
      let c = rest_of e a ++ b in
      let w = whole_length e a in
      ap (rest_of e) cut_whole
      ∙ ap (λ (k : ℕ). drop k (whole_of e a ++ c))
      (ap (λ (k : ℕ). k * record_bytes e) (count_append e (whole_of e a) c w) ∙ place_add (record_bytes e) (some_bytes e) (length (whole_of e a)) (record_count e c) w)
      ∙ drop-append-add (whole_of e a) c (record_count e c * record_bytes e)

-- Reading by places: a field, one format behind another, a list.
-- Assumes nothing.
use Prim.Native.Nat.{ℕ, ◌+◌, ◌-◌, ◌*◌, ◌^◌, ◌≤◌, ◌<◌}
use mathlib.Core.Path.{◌≡◌, refl, sym, ap, ap₂, ◌∙◌}
use mathlib.Core.Bool.{Bool, true, false, false≢true, cond}
use mathlib.Core.List.{List, ◌++◌}
use native.Mathlib.Omega.{arith}
use native.Mathlib.Nat.{add-zero}
use borrow.Author.Tests.{leb-true, leb-false, le-leb, lt-leb}
use lib.Dec.{leb}
use lib.ListN.{length, take, drop, length-append, length-drop}
use lib.Pow.{pow_pos}
use lib.Seq.{take_at, drop_at, drop-drop}
use Rattle.std.specs.Prelude.{Result, Ok, Err}
use Rattle.bits.specs.Index.{any_to}
use Rattle.bits.proofs.IndexLaws.{any_at, any_none}
use Rattle.formats.specs.BitList.{bit_list, number_of, bits_of_bytes, filled}
use Rattle.formats.specs.Format.{Outcome, got, cut, wrong, Format, Lawful, field, some_from, nothing, pair, with_first, and_then, as_type, outcome_to}
use Rattle.formats.proofs.BitListLaws.{length_bits, list_back}
use Rattle.formats.proofs.FormatLaws.{field_lawful}
use Rattle.formats.proofs.BitAtLaws.{filled_whole, filled_short}
use Rattle.dump_reader.specs.Steps.{step_of, step_at, step_by}
use Rattle.dump_rules.specs.declared.Unread.{Unread}
use Rattle.dump_rules.specs.declared.Unread.TheVariants.{CutDump, NoDump}

-- where a step has come to
abbrev pub on : ℕ → Result ℕ Unread
on b = Ok b

module _ (bytes : List ℕ) (at : ℕ) where
  abbrev all_bits : List Bool
  all_bits = bits_of_bytes bytes

  abbrev total : ℕ
  total = length all_bits

  abbrev left : List Bool
  left = drop at all_bits

  -- what is to be fine of a field: its value where it is whole, else some value that begins so
  abbrev pub fine_of : ℕ → (ℕ → Bool) → Bool
  fine_of w ok = cond (leb w (total - at)) (ok (filled w left)) (some_from ok w left)

  pub field_step : (w : ℕ) (ok : ℕ → Bool) → at ≤ total → step_at (field w ok) bytes at ≡ step_by total at w (fine_of w ok)
  unfolding step_at
  field_step w ok h = go (leb w (length left)) refl
    where
      n : length left ≡ total - at
      n = length-drop at all_bits

      go : (t : Bool) → leb w (length left) ≡ t → step_at (field w ok) bytes at ≡ step_by total at w (fine_of w ok)
      go true e =
          let l : w ≤ length left = leb-true w (length left) e in
          let m : leb w (total - at) ≡ true = le-leb w (total - at) (omega (arith, n)) in
          let v : filled w left ≡ number_of (take w left) = filled_whole w left l in
          let p : total - length (drop w left) ≡ at + w = let q : length (drop w left) ≡ length left - w = length-drop w left in omega (arith, n) in
          rw (e, m, v) (fit (ok (number_of (take w left))) p)
        where
          fit : (b : Bool) → total - length (drop w left) ≡ at + w
              → step_of total (cond b (got (number_of (take w left)) (drop w left)) wrong) ≡ cond b (Ok (at + w)) (Err NoDump)
          fit true p = ap on p
          fit false p = refl
      go false e =
          let l : length left < w = leb-false w (length left) e in
          let m : leb w (total - at) ≡ false = lt-leb w (total - at) (omega (arith, n)) in
          rw (e, m) (fit (some_from ok w left))
        where
          fit : (b : Bool) → step_of {A = ℕ} total (cond b cut wrong) ≡ cond b (Err CutDump) (Err NoDump)
          fit true = refl
          fit false = refl

  -- a rule that admits all below what it admits judges the least
  pub down_fine : (w : ℕ) (ok : ℕ → Bool) → at ≤ total → ((a b : ℕ) → a ≤ b → ok b ≡ true → ok a ≡ true) → ok (filled w left) ≡ fine_of w ok
  down_fine w ok h down = go (leb w (total - at)) refl
    where
      base : ℕ
      base = number_of left * 2 ^ (w - length left)

      some : (b : Bool) → ok base ≡ b → any_to (λ x. ok (base + x)) (2 ^ (w - length left)) ≡ b
      some true e = any_at (λ x. ok (base + x)) (2 ^ (w - length left)) 0 (pow_pos (w - length left)) (ap ok (add-zero base) ∙ e)
      some false e = any_none (λ x. ok (base + x)) (2 ^ (w - length left)) (λ x l. never x (ok (base + x)) refl)
        where
          never : (x : ℕ) (t : Bool) → ok (base + x) ≡ t → t ≡ false
          never x true p = absurd (false≢true (sym e ∙ down base (base + x) (omega arith) p))
          never x false p = refl

      go : (t : Bool) → leb w (total - at) ≡ t → ok (filled w left) ≡ cond t (ok (filled w left)) (some_from ok w left)
      go true e = refl
      go false e =
          let l : length left ≤ w = let n : length left ≡ total - at = length-drop at all_bits in let m : total - at < w = leb-false w (total - at) e in omega arith in
          ap ok (filled_short w left l) ∙ sym (some (ok base) refl)

  -- ── one behind the other ──

  -- where a lawful format ends, what it reads and what is left
  pub step_on : {A : Type 0} (f : Format A) → Lawful f → at ≤ total → (b : ℕ) → step_at f bytes at ≡ Ok b
      → (a : A) × (f.read left ≡ got a (drop b all_bits)) × (b ≤ total)
  unfolding step_at
  step_on {A} f lf h b = go (f.read left) refl
    where
      go : (o : Outcome A) → f.read left ≡ o → step_of total o ≡ Ok b → (a : A) × (f.read left ≡ got a (drop b all_bits)) × (b ≤ total)
      go (got a rest) e i =
          let x : left ≡ f.bits a ++ rest = (lf.only left a rest e).1 in
          let k : ℕ = length (f.bits a) in
          let n : length left ≡ k + length rest = ap length x ∙ length-append (f.bits a) rest in
          let m : length left ≡ total - at = length-drop at all_bits in
          let p : total - length rest ≡ b = cc in
          let q : at + k ≡ b = omega arith in
          let r : rest ≡ drop b all_bits = sym (drop_at (f.bits a) rest k refl) ∙ ap (drop k) (sym x) ∙ drop-drop k at all_bits ∙ ap (λ (j : ℕ). drop j all_bits) q in
          (a, e ∙ ap (got a) r, omega arith)
      go cut e i = cc
      go wrong e i = cc

module _ {A B : Type 0} (f : Format A) (g : A → Format B) (bytes : List ℕ) (at : ℕ) where
  first_kept : (t : ℕ) (a : A) (o : Outcome B) → step_of t (with_first a o) ≡ step_of t o
  first_kept t a (got b rest) = refl
  first_kept t a cut = refl
  first_kept t a wrong = refl

  pub pair_on : (a : A) (b : ℕ) → f.read (drop at (bits_of_bytes bytes)) ≡ got a (drop b (bits_of_bytes bytes)) → step_at (pair f g) bytes at ≡ step_at (g a) bytes b
  unfolding step_at
  pair_on a b e =
      ap (λ (o : Outcome A). step_of (length (bits_of_bytes bytes)) (and_then g o)) e
      ∙ first_kept (length (bits_of_bytes bytes)) a ((g a).read (drop b (bits_of_bytes bytes)))

  pub pair_err : (e : Unread) → step_at f bytes at ≡ Err e → step_at (pair f g) bytes at ≡ Err e
  unfolding step_at
  pair_err e = go (f.read (drop at (bits_of_bytes bytes)))
    where
      go : (o : Outcome A) → step_of (length (bits_of_bytes bytes)) o ≡ Err e → step_of (length (bits_of_bytes bytes)) (and_then g o) ≡ Err e
      go (got a rest) h = cc
      go cut h = h
      go wrong h = h

pub as_step : {A B : Type 0} (to : A → B) (from : B → A) (f : Format A) (bytes : List ℕ) (at : ℕ) → step_at (as_type to from f) bytes at ≡ step_at f bytes at
unfolding step_at
as_step {A} to from f bytes at = go (f.read (drop at (bits_of_bytes bytes)))
  where
    go : (o : Outcome A) → step_of (length (bits_of_bytes bytes)) (outcome_to to o) ≡ step_of (length (bits_of_bytes bytes)) o
    go (got a rest) = refl
    go cut = refl
    go wrong = refl

-- no more: it ends where it begins
pub nothing_step : {A : Type 0} (a : A) (bytes : List ℕ) (at : ℕ) → at ≤ length (bits_of_bytes bytes) → step_at (nothing a) bytes at ≡ Ok at
unfolding step_at
nothing_step a bytes at h = ap on (let n : length (drop at (bits_of_bytes bytes)) ≡ length (bits_of_bytes bytes) - at = length-drop at (bits_of_bytes bytes) in omega arith)

-- a field that is whole and fine
pub field_on : (w : ℕ) (ok : ℕ → Bool) (bytes : List ℕ) (at b : ℕ) → at ≤ length (bits_of_bytes bytes) → step_at (field w ok) bytes at ≡ Ok b
    → ((field w ok).read (drop at (bits_of_bytes bytes)) ≡ got (filled w (drop at (bits_of_bytes bytes))) (drop b (bits_of_bytes bytes)))
    × (b ≤ length (bits_of_bytes bytes)) × (b ≡ at + w) × (ok (filled w (drop at (bits_of_bytes bytes))) ≡ true)
field_on w ok bytes at b h e =
    let bs : List Bool = bits_of_bytes bytes in
    let x = step_on bytes at (field w ok) (field_lawful w ok) h b e in
    let a : ℕ = x.0 in
    let y = (field_lawful w ok).only (drop at bs) a (drop b bs) x.1 in
    let n : length (drop at bs) ≡ w + length (drop b bs) = ap length y.1 ∙ length-append (bit_list w a) (drop b bs) ∙ ap (λ (k : ℕ). k + length (drop b bs)) (length_bits w a) in
    let m : length (drop at bs) ≡ length bs - at = length-drop at bs in
    let k : length (drop b bs) ≡ length bs - b = length-drop b bs in
    let l : b ≤ length bs = x.2 in
    let t : take w (drop at bs) ≡ bit_list w a = ap (take w) y.1 ∙ take_at (bit_list w a) (drop b bs) w (length_bits w a) in
    let v : filled w (drop at bs) ≡ a = filled_whole w (drop at bs) (omega arith) ∙ ap number_of t ∙ list_back w a y.0.0 in
    (x.1 ∙ ap (λ (z : ℕ). got z (drop b bs)) (sym v), l, omega arith, ap ok v ∙ y.0.1)

-- the same test whether a field is whole or cut: one of the numbers that it can be is admitted
pub fine_any : (w : ℕ) (ok : ℕ → Bool) (bytes : List ℕ) (at : ℕ) → at ≤ length (bits_of_bytes bytes)
    → any_to (λ x. ok (filled w (drop at (bits_of_bytes bytes)) + x)) (2 ^ (w - (length (bits_of_bytes bytes) - at))) ≡ fine_of bytes at w ok
unfolding any_to
fine_any w ok bytes at h = go (leb w (length bs - at)) refl
  where
    bs : List Bool
    bs = bits_of_bytes bytes

    n : length (drop at bs) ≡ length bs - at
    n = length-drop at bs

    go : (t : Bool) → leb w (length bs - at) ≡ t → any_to (λ x. ok (filled w (drop at bs) + x)) (2 ^ (w - (length bs - at))) ≡ cond t (ok (filled w (drop at bs))) (some_from ok w (drop at bs))
    go true e =
        let l : w ≤ length bs - at = leb-true w (length bs - at) e in
        let z : w - (length bs - at) ≡ 0 = omega arith in
        ap (λ (k : ℕ). any_to (λ x. ok (filled w (drop at bs) + x)) (2 ^ k)) z ∙ ap ok (add-zero (filled w (drop at bs)))
    go false e =
        let l : length bs - at < w = leb-false w (length bs - at) e in
        let f : filled w (drop at bs) ≡ number_of (drop at bs) * 2 ^ (w - length (drop at bs)) = filled_short w (drop at bs) (omega (arith, n)) in
        ap₂ (λ (k m : ℕ). any_to (λ x. ok (m + x)) (2 ^ (w - k))) (sym n) f

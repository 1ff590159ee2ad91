-- Events that are noted one after the other.
-- Assumes nothing.
use Prim.Native.Nat.{ℕ, suc, ◌≤◌, ◌<◌}
use mathlib.Core.Path.{◌≡◌, refl, sym, ap, ◌∙◌}
use mathlib.Core.Bool.{Bool, false, ◌&&◌, and-false}
use mathlib.Core.List.{List}
use native.Mathlib.Omega.{arith}
use native.Mathlib.Decide.{dec_lt, ℕ_discrete}
use lib.Bits.{bit_or}
use lib.Dec.{eqb, ltb}
use lib.ListN.{get_or, set, length, length-set}
use lib.Seq.{get_or-set_same, get_or-set_other}
use borrow.Author.Tests.{lt-ltb, le-ltb}
use Rattle.bits.specs.Bits.{bits_of}
use Rattle.bits.specs.Index.{any_to}
use Rattle.bits.proofs.IndexLaws.{is_each, at_each, length_each, each_ext, any_ext, any_skip}
use Rattle.bits.proofs.WordLaws.{or_bits_of}
use Rattle.rules.specs.Samples.{marked}
use Rattle.events.specs.Noted.{Noted}

and_none : (a b : Bool) → a ≡ false → (a && b) ≡ false
and_none a b e = rw e

module _ (f : ℕ → Bool) (class before : List ℕ) (size : ℕ) where
  -- at first none is noted
  pub noted_start : length before ≡ size → Noted f class before size 0 before 0
  unfolding any_to bits_of
  noted_start l =
      record {
        causes = is_each size before (λ i. marked (ltb i 0 && f i) (get_or before i 0)) 0 l (λ i h. rw (le-ltb i 0 (omega arith)));
        classes = refl;
      }

  module _ (i : ℕ) (cause : List ℕ) (hits : ℕ) (s : Noted f class before size i cause hits) where
    -- what stands in the causes so far
    pub noted_long : length cause ≡ size
    noted_long = ap length s.causes ∙ length_each size (λ j. marked (ltb j i && f j) (get_or before j 0))

    was : (j : ℕ) → j < size → get_or cause j 0 ≡ marked (ltb j i && f j) (get_or before j 0)
    was j h = ap (λ (xs : List ℕ). get_or xs j 0) s.causes ∙ at_each size (λ j. marked (ltb j i && f j) (get_or before j 0)) j 0 h

    ltb_suc : (j : ℕ) → (j ≡ i → ⊥) → ltb j i ≡ ltb j (suc i)
    ltb_suc j d = go (dec_lt j i)
      where
        go : Dec (j < i) → ltb j i ≡ ltb j (suc i)
        go (yes l) = lt-ltb j i l ∙ sym (lt-ltb j (suc i) (omega arith))
        go (no l) = le-ltb j i (omega arith) ∙ sym (le-ltb j (suc i) (omega arith))

    -- and once alert i has had its turn
    cause_step : (j : ℕ) → i < size → j < size → Dec (j ≡ i) → get_or (set cause i (marked (f i) (get_or cause i 0))) j 0 ≡ marked (ltb j (suc i) && f j) (get_or before j 0)
    cause_step j g h (yes d) =
        let k : i < length cause = omega (arith, noted_long) in
        rw (d, lt-ltb i (suc i) (omega arith))
        (get_or-set_same cause i (marked (f i) (get_or cause i 0)) 0 k ∙ ap (marked (f i)) (was i g ∙ ap (λ (t : Bool). marked (t && f i) (get_or before i 0)) (le-ltb i i (omega arith))))
    cause_step j g h (no d) =
        get_or-set_other cause i j (marked (f i) (get_or cause i 0)) 0 d ∙ was j h ∙ ap (λ (t : Bool). marked (t && f j) (get_or before j 0)) (ltb_suc j d)

    -- alert i is noted next
    pub noted_step : i < size → Noted f class before size (suc i) (set cause i (marked (f i) (get_or cause i 0))) (bit_or hits (bits_of 4 (λ k. f i && eqb (get_or class i 0) k)))
    unfolding any_to
    noted_step g =
        record {
          causes =
              is_each size (set cause i (marked (f i) (get_or cause i 0))) (λ j. marked (ltb j (suc i) && f j) (get_or before j 0)) 0
              (length-set cause i (marked (f i) (get_or cause i 0)) ∙ noted_long) (λ j h. cause_step j g h (ℕ_discrete j i));
          classes =
              ap (λ (x : ℕ). bit_or x (bits_of 4 (λ k. f i && eqb (get_or class i 0) k))) s.classes
              ∙ or_bits_of 4 (λ k. any_to (λ j. f j && eqb (get_or class j 0) k) i) (λ k. f i && eqb (get_or class i 0) k);
        }

    -- from i up to m none is to be noted
    pub noted_skip : (m : ℕ) → i ≤ m → ((j : ℕ) → i ≤ j → j < m → f j ≡ false) → Noted f class before size m cause hits
    noted_skip m h none =
        let any : (k : ℕ) → any_to (λ j. f j && eqb (get_or class j 0) k) i ≡ any_to (λ j. f j && eqb (get_or class j 0) k) m =
        λ k. sym (any_skip (λ j. f j && eqb (get_or class j 0) k) i m h (λ j a b. and_none (f j) (eqb (get_or class j 0) k) (none j a b))) in
        record {
          causes =
              s.causes
              ∙ each_ext size (λ j. marked (ltb j i && f j) (get_or before j 0)) (λ j. marked (ltb j m && f j) (get_or before j 0)) 0
              (λ j l. ap (λ (t : Bool). marked t (get_or before j 0)) (go j (dec_lt j i) (dec_lt j m)));
          classes = s.classes ∙ ap (bits_of 4) (λ t k. any k t);
        }
      where
        go : (j : ℕ) → Dec (j < i) → Dec (j < m) → (ltb j i && f j) ≡ (ltb j m && f j)
        go j (yes l) d = rw (lt-ltb j i l, lt-ltb j m (omega arith))
        go j (no l) (yes d) = rw (le-ltb j i (omega arith), lt-ltb j m d, none j (omega arith) d)
        go j (no l) (no d) = rw (le-ltb j i (omega arith), le-ltb j m (omega arith))

guard : (i n : ℕ) (x y : Bool) → (i < n → x ≡ y) → (ltb i n && x) ≡ (ltb i n && y)
guard i n x y e = go (dec_lt i n)
  where
    go : Dec (i < n) → (ltb i n && x) ≡ (ltb i n && y)
    go (yes l) = ap (λ (t : Bool). ltb i n && t) (e l)
    go (no l) = rw (le-ltb i n (omega arith))

-- rules that agree below n note the same
pub noted_by : (f g : ℕ → Bool) (class before : List ℕ) (size n : ℕ) (cause : List ℕ) (hits : ℕ) → ((i : ℕ) → i < n → f i ≡ g i)
    → Noted f class before size n cause hits → Noted g class before size n cause hits
noted_by f g class before size n cause hits e s =
    let any : (k : ℕ) → any_to (λ i. f i && eqb (get_or class i 0) k) n ≡ any_to (λ i. g i && eqb (get_or class i 0) k) n =
    λ k. any_ext (λ i. f i && eqb (get_or class i 0) k) (λ i. g i && eqb (get_or class i 0) k) n (λ i h. ap (λ (t : Bool). t && eqb (get_or class i 0) k) (e i h)) in
    record {
      causes =
          s.causes
          ∙ each_ext size (λ i. marked (ltb i n && f i) (get_or before i 0)) (λ i. marked (ltb i n && g i) (get_or before i 0)) 0
          (λ i h. ap (λ (t : Bool). marked t (get_or before i 0)) (guard i n (f i) (g i) (e i)));
      classes = s.classes ∙ ap (bits_of 4) (λ t k. any k t);
    }

-- a rule that has none from n on notes below m what it notes below n
pub noted_cut : (f : ℕ → Bool) (class before : List ℕ) (size n m : ℕ) (cause : List ℕ) (hits : ℕ) → n ≤ m
    → Noted (λ i. ltb i n && f i) class before size m cause hits → Noted f class before size n cause hits
noted_cut f class before size n m cause hits h s =
    let any : (k : ℕ) → any_to (λ i. (ltb i n && f i) && eqb (get_or class i 0) k) m ≡ any_to (λ i. f i && eqb (get_or class i 0) k) n =
    λ k.
    any_skip (λ i. (ltb i n && f i) && eqb (get_or class i 0) k) n m h (λ i a b. rw (le-ltb i n a))
    ∙ any_ext (λ i. (ltb i n && f i) && eqb (get_or class i 0) k) (λ i. f i && eqb (get_or class i 0) k) n (λ i l. rw (lt-ltb i n l)) in
    record {
      causes =
          s.causes
          ∙ each_ext size (λ i. marked (ltb i m && (ltb i n && f i)) (get_or before i 0)) (λ i. marked (ltb i n && f i) (get_or before i 0)) 0
          (λ i l. ap (λ (t : Bool). marked t (get_or before i 0)) (go i (dec_lt i n)));
      classes = s.classes ∙ ap (bits_of 4) (λ t k. any k t);
    }
  where
    go : (i : ℕ) → Dec (i < n) → (ltb i m && (ltb i n && f i)) ≡ (ltb i n && f i)
    go i (yes l) = rw (lt-ltb i m (omega arith))
    go i (no l) = rw (le-ltb i n (omega arith)) (and-false (ltb i m))

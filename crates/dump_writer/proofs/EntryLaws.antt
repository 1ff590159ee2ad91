-- An entry for each register that is picked, one more in each turn.
-- Assumes nothing.
use Prim.Native.Nat.{ℕ, zero, suc, ◌+◌, ◌*◌, ◌≤◌, ◌<◌}
use mathlib.Core.Path.{◌≡◌, refl, sym, ap, ◌∙◌, subst}
use mathlib.Core.Bool.{Bool, true, false, cond}
use mathlib.Core.List.{List, [], ◌∷◌, ◌++◌, map, append_assoc}
use native.Mathlib.Omega.{arith}
use native.Mathlib.Nat.{add-zero, mul-add, mul-le-mul_left}
use lib.ListN.{length, length-map}
use Rattle.bits.specs.Bits.{num}
use Rattle.formats.specs.Format.{flat}
use Rattle.formats.proofs.FormatLaws.{flat_length}
use Rattle.dump_rules.specs.Shown.{picks}
use Rattle.dump_rules.proofs.PickLaws.{many, many_next, many_grow}
use Rattle.dump_writer.specs.Puts.{Puts}
use Rattle.dump_writer.specs.declared.put.Pen.{Pen}
use Rattle.dump_writer.proofs.PutLaws.{puts_none, puts_then}

picks_next : (p : ℕ → Bool) (a m : ℕ) → picks p a (suc m) ≡ picks p a m ++ cond (p (a + m)) ((a + m) ∷ []) []
unfolding picks
picks_next p a zero = go (p a) refl ∙ ap (λ (x : ℕ). cond (p x) (x ∷ []) []) (sym (add-zero a))
  where
    go : (t : Bool) → p a ≡ t → cond (p a) (a ∷ []) [] ≡ cond (p a) (a ∷ []) []
    go t e = refl
picks_next p a (suc m) = go (p a) (picks_next p (suc a) m ∙ ap (λ (x : ℕ). picks p (suc a) m ++ cond (p x) (x ∷ []) []) (let e : suc a + m ≡ a + suc m = omega arith in e))
  where
    go : (t : Bool) → picks p (suc a) (suc m) ≡ picks p (suc a) m ++ cond (p (a + suc m)) ((a + suc m) ∷ []) []
        → cond t (a ∷ picks p (suc a) (suc m)) (picks p (suc a) (suc m)) ≡ cond t (a ∷ picks p (suc a) m) (picks p (suc a) m) ++ cond (p (a + suc m)) ((a + suc m) ∷ []) []
    go true ih = ap (λ (l : List ℕ). a ∷ l) ih
    go false ih = ih

-- at most the bits of all
many_room : (p : ℕ → Bool) (r m w : ℕ) → r < m → w ≡ num (p r) → many p 0 r + w ≤ many p 0 m
many_room p r m w h e =
    let x : many p 0 (suc r) ≡ many p 0 r + num (p (0 + r)) = many_next p 0 r in
    let y : num (p (0 + r)) ≡ num (p r) = ap (λ (z : ℕ). num (p z)) (let q : 0 + r ≡ r = omega arith in q) in
    let g : many p 0 (suc r) ≤ many p 0 m = many_grow p 0 (suc r) m h in
    omega arith

module _ {A : Type 0} (p : ℕ → Bool) (f : ℕ → A) (g : A → List Bool) (width : ℕ) (same : (x : A) → length (g x) ≡ width) where
  flat_both : (xs ys : List A) → flat g (xs ++ ys) ≡ flat g xs ++ flat g ys
  unfolding flat
  flat_both [] ys = refl
  flat_both (x ∷ xs) ys = ap (λ (l : List Bool). g x ++ l) (flat_both xs ys) ∙ sym (append_assoc (g x) (flat g xs) (flat g ys))

  map_both : (xs ys : List ℕ) → map f (xs ++ ys) ≡ map f xs ++ map f ys
  map_both [] ys = refl
  map_both (x ∷ xs) ys = ap (λ (l : List A). f x ∷ l) (map_both xs ys)

  abbrev pub entries_to : ℕ → List Bool
  entries_to r = flat g (map f (picks p 0 r))

  pub length_entries : (r : ℕ) → length (entries_to r) ≡ width * many p 0 r
  length_entries r = flat_length g width same (map f (picks p 0 r)) ∙ ap (λ (k : ℕ). width * k) (length-map (picks p 0 r) f)

  nil_right : (xs : List Bool) → xs ++ [] ≡ xs
  nil_right [] = refl
  nil_right (x ∷ xs) = ap (λ (l : List Bool). x ∷ l) (nil_right xs)

  one_entry : (t : Bool) (r : ℕ) → flat g (map f (cond t (r ∷ []) [])) ≡ cond t (g (f r)) []
  unfolding flat
  one_entry true r = nil_right (g (f r))
  one_entry false r = refl

  entry_next : (r : ℕ) → entries_to (suc r) ≡ entries_to r ++ cond (p r) (g (f r)) []
  entry_next r =
      ap (λ (l : List ℕ). flat g (map f l)) (picks_next p 0 r ∙ ap (λ (z : ℕ). picks p 0 r ++ cond (p z) (z ∷ []) []) (let q : 0 + r ≡ r = omega arith in q))
      ∙ ap (flat g) (map_both (picks p 0 r) (cond (p r) (r ∷ []) []))
      ∙ flat_both (map f (picks p 0 r)) (map f (cond (p r) (r ∷ []) []))
      ∙ ap (λ (l : List Bool). entries_to r ++ l) (one_entry (p r) r)

  pub entry_none : (q : Pen) → Puts (entries_to 0) q q
  unfolding picks flat
  entry_none q = puts_none q

  next_is : (r : ℕ) (t : Bool) → p r ≡ t → entries_to (r + 1) ≡ entries_to r ++ cond t (g (f r)) []
  next_is r t e =
      ap entries_to (let q : r + 1 ≡ suc r = omega arith in q) ∙ entry_next r ∙ ap (λ (b : Bool). entries_to r ++ cond b (g (f r)) []) e

  pub entry_yes : (r : ℕ) (x y z : Pen) → p r ≡ true → Puts (entries_to r) x y → Puts (g (f r)) y z → Puts (entries_to (r + 1)) x z
  entry_yes r x y z e h i = subst (λ (l : List Bool). Puts l x z) (sym (next_is r true e)) (puts_then (entries_to r) (g (f r)) x y z h i)

  pub entry_no : (r : ℕ) (x y : Pen) → p r ≡ false → Puts (entries_to r) x y → Puts (entries_to (r + 1)) x y
  entry_no r x y e h = subst (λ (l : List Bool). Puts l x y) (sym (next_is r false e ∙ nil_right (entries_to r))) h

  -- one more has room where all have it
  pub entry_room : (r m room : ℕ) (x y : Pen) → p r ≡ true → r < m → Puts (entries_to r) x y → x.at + width * many p 0 m ≤ room → (y.at + width ≤ room) × (length y.out.now ≡ length x.out.now) × (y.at ≡ x.at + width * many p 0 r)
  entry_room r m room x y e l h i =
      let a : many p 0 r + 1 ≤ many p 0 m = many_room p r m 1 l (ap num (sym e)) in
      let b : width * (many p 0 r + 1) ≤ width * many p 0 m = mul-le-mul_left width a in
      let d : width * (many p 0 r + 1) ≡ width * many p 0 r + width * 1 = mul-add width (many p 0 r) 1 in
      let n : y.at ≡ x.at + width * many p 0 r = h.place ∙ ap (λ (k : ℕ). x.at + k) (length_entries r) in
      (omega arith, h.room, n)

-- Numbers picked from a range, rising.
-- Assumes nothing.
use Prim.Native.Nat.{ℕ, zero, suc, ◌+◌, ◌-◌, ◌≤◌, ◌<◌}
use mathlib.Core.Path.{◌≡◌, refl, sym, ap, ◌∙◌, subst}
use mathlib.Core.Bool.{Bool, true, false, cond}
use mathlib.Core.List.{List, [], ◌∷◌}
use native.Mathlib.Omega.{arith}
use native.Mathlib.Decide.{ℕ_discrete}
use native.Mathlib.Decide.{le_ind}
use native.Mathlib.Nat.{add-zero}
use lib.ListN.{length}
use Rattle.bits.specs.Bits.{num}
use Rattle.formats.specs.Format.{All}
use Rattle.dump_rules.specs.Shown.{picks}

module _ (p : ℕ → Bool) where
  -- how many
  abbrev pub many : ℕ → ℕ → ℕ
  many a m = length (picks p a m)

  pub many_in : (a m : ℕ) → p a ≡ true → many a (suc m) ≡ suc (many (suc a) m)
  unfolding picks
  many_in a m e = ap (λ (t : Bool). length (cond t (a ∷ picks p (suc a) m) (picks p (suc a) m))) e

  pub many_out : (a m : ℕ) → p a ≡ false → many a (suc m) ≡ many (suc a) m
  unfolding picks
  many_out a m e = ap (λ (t : Bool). length (cond t (a ∷ picks p (suc a) m) (picks p (suc a) m))) e

  pub many_le : (a m : ℕ) → many a m ≤ m
  unfolding picks
  many_le a zero = omega arith
  many_le a (suc m) = go (p a) refl (many_le (suc a) m)
    where
      go : (t : Bool) → p a ≡ t → many (suc a) m ≤ m → many a (suc m) ≤ suc m
      go true e h = omega (arith, many_in a m e)
      go false e h = omega (arith, many_out a m e)

  many_down : (a m : ℕ) → many (suc a) m ≤ many a (suc m)
  many_down a m = go (p a) refl
    where
      go : (t : Bool) → p a ≡ t → many (suc a) m ≤ many a (suc m)
      go true e = omega (arith, many_in a m e)
      go false e = omega (arith, many_out a m e)

  -- above one that has p there is one fewer at most
  pub many_above : (a m r : ℕ) → a ≤ r → r < a + m → p r ≡ true → suc (many (suc r) (a + m - suc r)) ≤ many a m
  many_above a zero r l h e = absurd (omega arith)
  many_above a (suc m) r l h e = go (ℕ_discrete a r) (λ s. many_above (suc a) m r s (omega arith) e)
    where
      go : Dec (a ≡ r) → (suc a ≤ r → suc (many (suc r) (suc a + m - suc r)) ≤ many (suc a) m) → suc (many (suc r) (a + suc m - suc r)) ≤ many a (suc m)
      go (yes d) ih =
          let x : many (suc r) (a + suc m - suc r) ≡ many (suc a) m = let y : a + suc m - suc r ≡ m = omega arith in ap (λ (z : ℕ). many (suc z) (a + suc m - suc r)) (sym d) ∙ ap (many (suc a)) y in
          omega (arith, many_in a m (ap p d ∙ e))
      go (no d) ih =
          let y : suc a + m - suc r ≡ a + suc m - suc r = omega arith in
          let x : suc (many (suc r) (a + suc m - suc r)) ≤ many (suc a) m = subst (λ (z : ℕ). suc (many (suc r) z) ≤ many (suc a) m) y (ih (omega arith)) in
          omega (arith, many_down a m)

  -- the first of them
  pub many_first : (a m k : ℕ) → suc k ≤ many a m → (r : ℕ) × (a ≤ r) × (r < a + m) × (p r ≡ true) × (k ≤ many (suc r) (a + m - suc r))
  unfolding picks
  many_first a zero k h = absurd (omega arith)
  many_first a (suc m) k h = go (p a) refl (many_first (suc a) m k)
    where
      go : (t : Bool) → p a ≡ t
          → (suc k ≤ many (suc a) m → (r : ℕ) × (suc a ≤ r) × (r < suc a + m) × (p r ≡ true) × (k ≤ many (suc r) (suc a + m - suc r)))
          → (r : ℕ) × (a ≤ r) × (r < a + suc m) × (p r ≡ true) × (k ≤ many (suc r) (a + suc m - suc r))
      go true e ih =
          let y : m ≡ a + suc m - suc a = omega arith in
          let x : k ≤ many (suc a) m = omega (arith, many_in a m e) in
          (a, omega arith, omega arith, e, subst (λ (z : ℕ). k ≤ many (suc a) z) y x)
      go false e ih =
          let s = ih (omega (arith, many_out a m e)) in
          let y : suc a + m - suc s.0 ≡ a + suc m - suc s.0 = omega arith in
          (s.0, omega (arith, s.1), omega (arith, s.2), s.3, subst (λ (z : ℕ). k ≤ many (suc s.0) z) y s.4)

  -- each has p and is in the range
  pub all_picked : (a m : ℕ) → All (λ r. (a ≤ r) × (r < a + m) × (p r ≡ true)) (picks p a m)
  unfolding picks
  all_picked a zero = tt
  all_picked a (suc m) = go (p a) refl (weaken (picks p (suc a) m) (all_picked (suc a) m))
    where
      weaken : (xs : List ℕ) → All (λ r. (suc a ≤ r) × (r < suc a + m) × (p r ≡ true)) xs → All (λ r. (a ≤ r) × (r < a + suc m) × (p r ≡ true)) xs
      weaken [] h = tt
      weaken (x ∷ xs) h = ((omega (arith, h.0.0), omega (arith, h.0.1), h.0.2), weaken xs h.1)

      go : (t : Bool) → p a ≡ t → All (λ r. (a ≤ r) × (r < a + suc m) × (p r ≡ true)) (picks p (suc a) m)
          → All (λ r. (a ≤ r) × (r < a + suc m) × (p r ≡ true)) (cond t (a ∷ picks p (suc a) m) (picks p (suc a) m))
      go true e h = ((omega arith, omega arith, e), h)
      go false e h = h

-- one more number
pub many_next : (p : ℕ → Bool) (a m : ℕ) → many p a (suc m) ≡ many p a m + num (p (a + m))
unfolding picks
many_next p a zero = go (p a) refl ∙ ap (λ (x : ℕ). num (p x)) (sym (add-zero a)) ∙ (let e : num (p (a + 0)) ≡ 0 + num (p (a + 0)) = omega arith in e)
  where
    go : (t : Bool) → p a ≡ t → many p a 1 ≡ num t
    go true e = many_in p a 0 e
    go false e = many_out p a 0 e
many_next p a (suc m) = go (p a) refl (many_next p (suc a) m)
  where
    place : suc a + m ≡ a + suc m
    place = omega arith

    go : (t : Bool) → p a ≡ t → many p (suc a) (suc m) ≡ many p (suc a) m + num (p (suc a + m)) → many p a (suc (suc m)) ≡ many p a (suc m) + num (p (a + suc m))
    go true e ih =
        many_in p a (suc m) e ∙ ap suc ih ∙ ap (λ (x : ℕ). suc (many p (suc a) m + num (p x))) place
        ∙ (let f : many p a (suc m) ≡ suc (many p (suc a) m) = many_in p a m e in
        let g : suc (many p (suc a) m + num (p (a + suc m))) ≡ many p a (suc m) + num (p (a + suc m)) = omega arith in g)
    go false e ih =
        many_out p a (suc m) e ∙ ih ∙ ap (λ (x : ℕ). many p (suc a) m + num (p x)) place
        ∙ (let f : many p a (suc m) ≡ many p (suc a) m = many_out p a m e in
        let g : many p (suc a) m + num (p (a + suc m)) ≡ many p a (suc m) + num (p (a + suc m)) = omega arith in g)

-- a range in two
pub many_split : (p : ℕ → Bool) (a m k : ℕ) → many p a (m + k) ≡ many p a m + many p (a + m) k
unfolding picks
many_split p a zero k =
    let x : 0 + k ≡ k = omega arith in
    let y : a ≡ a + 0 = omega arith in
    ap (many p a) x ∙ ap (λ (z : ℕ). many p z k) y ∙ (let z : many p (a + 0) k ≡ 0 + many p (a + 0) k = omega arith in z)
many_split p a (suc m) k = go (p a) refl (many_split p (suc a) m k)
  where
    place : suc a + m ≡ a + suc m
    place = omega arith

    longer : suc m + k ≡ suc (m + k)
    longer = omega arith

    go : (t : Bool) → p a ≡ t → many p (suc a) (m + k) ≡ many p (suc a) m + many p (suc a + m) k → many p a (suc m + k) ≡ many p a (suc m) + many p (a + suc m) k
    go true e ih =
        ap (many p a) longer ∙ many_in p a (m + k) e ∙ ap suc ih ∙ ap (λ (z : ℕ). suc (many p (suc a) m + many p z k)) place
        ∙ (let f : many p a (suc m) ≡ suc (many p (suc a) m) = many_in p a m e in
        let g : suc (many p (suc a) m + many p (a + suc m) k) ≡ many p a (suc m) + many p (a + suc m) k = omega arith in g)
    go false e ih =
        ap (many p a) longer ∙ many_out p a (m + k) e ∙ ih ∙ ap (λ (z : ℕ). many p (suc a) m + many p z k) place
        ∙ ap (λ (x : ℕ). x + many p (a + suc m) k) (sym (many_out p a m e))

-- from 0 on: one more, and no fewer in a longer range
pub many_up : (p : ℕ → Bool) (r : ℕ) → many p 0 (suc r) ≡ many p 0 r + num (p r)
many_up p r = many_next p 0 r ∙ (let z : 0 + r ≡ r = omega arith in ap (λ (x : ℕ). many p 0 r + num (p x)) z)

pub many_grow : (p : ℕ → Bool) (a r m : ℕ) → r ≤ m → many p a r ≤ many p a m
many_grow p a r m h =
    le_ind (λ (x : ℕ). many p a r ≤ many p a x) (omega arith)
    (λ x l ih. let e : many p a (suc x) ≡ many p a x + num (p (a + x)) = many_next p a x in omega arith) m h

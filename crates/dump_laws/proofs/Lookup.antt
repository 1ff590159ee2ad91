-- What a state shows, looked up by register number: it is what the state holds there.
-- Assumes nothing.
use Prim.Native.Nat.{ℕ, zero, suc, ◌+◌, ◌-◌, ◌≤◌, ◌<◌}
use mathlib.Core.Path.{◌≡◌, refl, sym, ap, ap₂, ◌∙◌}
use mathlib.Core.Bool.{Bool, true, false, false≢true, cond, not}
use mathlib.Core.List.{List, ◌∷◌, map}
use native.Mathlib.Omega.{arith}
use native.Mathlib.Decide.{ℕ_discrete}
use borrow.Author.Tests.{eq-eqb, ne_eqb, eqb-true, eqb-false}
use lib.Dec.{eqb}
use lib.ListN.{get_or}
use Rattle.dump_rules.specs.Content.{flag_at, code_at}
use Rattle.dump_rules.specs.Shown.{ShownStage, picks}
use Rattle.dump_rules.proofs.PickLaws.{many, many_in, many_out}

-- ── bits ──

module _ (p : ℕ → Bool) (f : ℕ → ℕ) where
  -- an entry by how many were picked before it
  picked_at : (a m r : ℕ) → a ≤ r → r < a + m → p r ≡ true → get_or (map f (picks p a m)) (many p a (r - a)) 0 ≡ f r
  unfolding picks
  picked_at a zero r l h e = absurd (omega arith)
  picked_at a (suc m) r l h e = go (ℕ_discrete a r) (p a) refl (λ x. picked_at (suc a) m r x (omega arith) e)
    where
      go : Dec (a ≡ r) → (t : Bool) → p a ≡ t → (suc a ≤ r → get_or (map f (picks p (suc a) m)) (many p (suc a) (r - suc a)) 0 ≡ f r)
          → get_or (map f (cond t (a ∷ picks p (suc a) m) (picks p (suc a) m))) (many p a (r - a)) 0 ≡ f r
      go (yes i) true x ih =
          let z : r - a ≡ 0 = omega arith in
          ap (λ (k : ℕ). get_or (f a ∷ map f (picks p (suc a) m)) (many p a k) 0) z ∙ ap f i
      go (yes i) false x ih = absurd (false≢true (sym x ∙ ap p i ∙ e))
      go (no i) true x ih =
          let z : r - a ≡ suc (r - suc a) = omega arith in
          ap (λ (k : ℕ). get_or (f a ∷ map f (picks p (suc a) m)) k 0) (ap (many p a) z ∙ many_in p a (r - suc a) x) ∙ ih (omega arith)
      go (no i) false x ih =
          let z : r - a ≡ suc (r - suc a) = omega arith in
          ap (λ (k : ℕ). get_or (map f (picks p (suc a) m)) k 0) (ap (many p a) z ∙ many_out p a (r - suc a) x) ∙ ih (omega arith)

  pub flag_held : (m r : ℕ) → r < m → flag_at p (map f (picks p 0 m)) r ≡ cond (p r) (f r) 0
  flag_held m r l = go (p r) refl
    where
      go : (t : Bool) → p r ≡ t → cond t (get_or (map f (picks p 0 m)) (many p 0 r) 0) 0 ≡ cond t (f r) 0
      go true e =
          let z : r ≡ r - 0 = omega arith in
          ap (λ (k : ℕ). get_or (map f (picks p 0 m)) (many p 0 k) 0) z ∙ picked_at 0 m r (omega arith) (omega arith) e
      go false e = refl

  -- only what is picked counts
  pub map_picked : (a m : ℕ) → map f (picks p a m) ≡ map (λ r. cond (p r) (f r) 0) (picks p a m)
  unfolding picks
  map_picked a zero = refl
  map_picked a (suc m) = go (p a) refl (map_picked (suc a) m)
    where
      go : (t : Bool) → p a ≡ t → map f (picks p (suc a) m) ≡ map (λ r. cond (p r) (f r) 0) (picks p (suc a) m)
          → map f (cond t (a ∷ picks p (suc a) m) (picks p (suc a) m)) ≡ map (λ r. cond (p r) (f r) 0) (cond t (a ∷ picks p (suc a) m) (picks p (suc a) m))
      go true e ih = ap₂ {C = List ℕ} ◌∷◌ (sym (ap (λ (t : Bool). cond t (f a) 0) e)) ih
      go false e ih = ih

-- ── stages ──

module _ (g : ℕ → ℕ) where
  abbrev shown_at : ℕ → ShownStage
  shown_at r = record { register = r; value = g r - 1 }

  abbrev opens : ℕ → Bool
  opens r = not (eqb (g r) 0)

  before : (a m r : ℕ) → r < a → code_at (map shown_at (picks opens a m)) r ≡ 0
  unfolding picks code_at
  before a zero r l = refl
  before a (suc m) r l = go (opens a) (before (suc a) m r (omega arith))
    where
      go : (t : Bool) → code_at (map shown_at (picks opens (suc a) m)) r ≡ 0 → code_at (map shown_at (cond t (a ∷ picks opens (suc a) m) (picks opens (suc a) m))) r ≡ 0
      go true ih = ap (λ (t : Bool). cond t (g a - 1 + 1) (code_at (map shown_at (picks opens (suc a) m)) r)) (ne_eqb a r (λ (e : a ≡ r). omega arith)) ∙ ih
      go false ih = ih

  code_from : (a m r : ℕ) → a ≤ r → r < a + m → code_at (map shown_at (picks opens a m)) r ≡ g r
  unfolding picks code_at
  code_from a zero r l h = absurd (omega arith)
  code_from a (suc m) r l h = go (ℕ_discrete a r) (eqb (g a) 0) refl (λ x. code_from (suc a) m r x (omega arith))
    where
      rest : List ShownStage
      rest = map shown_at (picks opens (suc a) m)

      go : Dec (a ≡ r) → (t : Bool) → eqb (g a) 0 ≡ t → (suc a ≤ r → code_at rest r ≡ g r)
          → code_at (map shown_at (cond (not t) (a ∷ picks opens (suc a) m) (picks opens (suc a) m))) r ≡ g r
      go (yes i) true z ih = before (suc a) m r (omega arith) ∙ sym (sym (ap g i) ∙ eqb-true (g a) 0 z)
      go (yes i) false z ih =
          let some : g a ≡ 0 → ⊥ = eqb-false (g a) 0 z in
          let p : 0 < g a = omega arith in
          ap (λ (t : Bool). cond t (g a - 1 + 1) (code_at rest r)) (eq-eqb a r i) ∙ (let v : g a - 1 + 1 ≡ g a = omega arith in v) ∙ ap g i
      go (no i) true z ih = ih (omega arith)
      go (no i) false z ih = ap (λ (t : Bool). cond t (g a - 1 + 1) (code_at rest r)) (ne_eqb a r i) ∙ ih (omega arith)

  pub code_held : (m r : ℕ) → r < m → code_at (map shown_at (picks opens 0 m)) r ≡ g r
  code_held m r l = code_from 0 m r (omega arith) (omega arith)

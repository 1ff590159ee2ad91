-- Bits and stages that are looked up by register number: taken number by number they are the lists again.
-- Assumes nothing.
use Prim.Native.Nat.{ℕ, zero, suc, ◌+◌, ◌-◌, ◌^◌, ◌≤◌, ◌<◌}
use mathlib.Core.Path.{◌≡◌, refl, sym, ap, ap₂, ◌∙◌, subst}
use mathlib.Core.Bool.{Bool, true, false, true≢false, cond, not}
use mathlib.Core.List.{List, [], ◌∷◌, map}
use native.Mathlib.Omega.{arith}
use native.Mathlib.Decide.{ℕ_discrete}
use borrow.Author.Tests.{eq-eqb, ne_eqb}
use lib.Dec.{eqb}
use lib.ListN.{length, get_or, drop}
use Rattle.bits.specs.Bits.{num}
use Rattle.dump_rules.specs.Content.{flag_at, code_at}
use Rattle.dump_rules.specs.Shown.{ShownStage, RiseFrom, picks}
use Rattle.dump_rules.proofs.PickLaws.{many, many_up, many_grow}
use Rattle.rules.specs.Map.{decode, bits, is_shadowed}

-- ── bits ──

drop_here : (bits : List ℕ) (i : ℕ) → i < length bits → drop i bits ≡ get_or bits i 0 ∷ drop (suc i) bits
drop_here [] i h = absurd (omega arith)
drop_here (b ∷ bs) zero h = refl
drop_here (b ∷ bs) (suc i) h = drop_here bs i (omega arith)

drop_end : (bits : List ℕ) (i : ℕ) → i ≡ length bits → drop i bits ≡ []
drop_end [] zero h = refl
drop_end [] (suc i) h = absurd (omega arith)
drop_end (b ∷ bs) zero h = absurd (omega arith)
drop_end (b ∷ bs) (suc i) h = drop_end bs i (omega arith)

module _ (p : ℕ → Bool) (bits : List ℕ) (f : ℕ → ℕ) (at_flag : (r : ℕ) → p r ≡ true → f r ≡ flag_at p bits r) where
  here : (a : ℕ) → p a ≡ true → f a ≡ get_or bits (many p 0 a) 0
  here a e = at_flag a e ∙ ap (λ (t : Bool). cond t (get_or bits (many p 0 a) 0) 0) e

  -- from a number on
  flags_from : (a m : ℕ) → length bits ≡ many p 0 (a + m) → map f (picks p a m) ≡ drop (many p 0 a) bits
  unfolding picks
  flags_from a zero h = let e : a + 0 ≡ a = omega arith in sym (drop_end bits (many p 0 a) (sym (h ∙ ap (many p 0) e)))
  flags_from a (suc m) h = go (p a) refl (flags_from (suc a) m (h ∙ ap (many p 0) next))
    where
      next : a + suc m ≡ suc a + m
      next = omega arith

      go : (t : Bool) → p a ≡ t → map f (picks p (suc a) m) ≡ drop (many p 0 (suc a)) bits
          → map f (cond t (a ∷ picks p (suc a) m) (picks p (suc a) m)) ≡ drop (many p 0 a) bits
      go true e ih =
          let n : many p 0 (suc a) ≡ suc (many p 0 a) = many_up p a ∙ ap (λ (t : Bool). many p 0 a + num t) e ∙ (let z : many p 0 a + 1 ≡ suc (many p 0 a) = omega arith in z) in
          let l : many p 0 (suc a) ≤ length bits = subst (λ (x : ℕ). many p 0 (suc a) ≤ x) (sym (h ∙ ap (many p 0) next)) (many_grow p 0 (suc a) (suc a + m) (omega arith)) in
          ap₂ {C = List ℕ} ◌∷◌ (here a e) (ih ∙ ap (λ (i : ℕ). drop i bits) n) ∙ sym (drop_here bits (many p 0 a) (omega arith))
      go false e ih =
          let n : many p 0 (suc a) ≡ many p 0 a = many_up p a ∙ ap (λ (t : Bool). many p 0 a + num t) e ∙ (let z : many p 0 a + 0 ≡ many p 0 a = omega arith in z) in
          ih ∙ ap (λ (i : ℕ). drop i bits) n

  pub flags_back : (m : ℕ) → length bits ≡ many p 0 m → map f (picks p 0 m) ≡ bits
  unfolding picks
  flags_back m h = flags_from 0 m (h ∙ ap (many p 0) (let z : m ≡ 0 + m = omega arith in z))

-- a bit among bits is one
pub flag_small : (p : ℕ → Bool) (bits : List ℕ) (r : ℕ) → ((i : ℕ) → get_or bits i 0 < 2) → flag_at p bits r < 2
flag_small p bits r h = go (p r)
  where
    go : (t : Bool) → cond t (get_or bits (many p 0 r) 0) 0 < 2
    go true = h (many p 0 r)
    go false = omega arith

-- ── stages ──

module _ (n : ℕ) where
  -- below the first there is none
  pub code_below : (ss : List ShownStage) (a r : ℕ) → RiseFrom n a ss → r < a → code_at ss r ≡ 0
  unfolding code_at
  code_below [] a r h l = refl
  code_below (s ∷ ss) a r h l =
      ap (λ (t : Bool). cond t (s.value + 1) (code_at ss r)) (ne_eqb s.register r (λ (e : s.register ≡ r). absurd (omega (arith, h.0))))
      ∙ code_below ss (suc s.register) r h.3 (omega (arith, h.0))

  -- what is not shadowed has none
  pub code_none : (ss : List ShownStage) (a r : ℕ) → RiseFrom n a ss → is_shadowed (decode n r) ≡ false → code_at ss r ≡ 0
  unfolding code_at
  code_none [] a r h e = refl
  code_none (s ∷ ss) a r h e =
      ap (λ (t : Bool). cond t (s.value + 1) (code_at ss r)) (ne_eqb s.register r other) ∙ code_none ss (suc s.register) r h.3 e
    where
      other : s.register ≡ r → ⊥
      other i = true≢false (sym h.1 ∙ ap (λ (x : ℕ). is_shadowed (decode n x)) i ∙ e)

  -- a stage fits its register
  pub code_fits : (ss : List ShownStage) (a r : ℕ) → RiseFrom n a ss → code_at ss r ≤ 2 ^ bits (decode n r)
  unfolding code_at
  code_fits [] a r h = omega arith
  code_fits (s ∷ ss) a r h = go (ℕ_discrete s.register r) (code_fits ss (suc s.register) r h.3)
    where
      go : Dec (s.register ≡ r) → code_at ss r ≤ 2 ^ bits (decode n r) → cond (eqb s.register r) (s.value + 1) (code_at ss r) ≤ 2 ^ bits (decode n r)
      go (yes e) ih =
          let v : s.value < 2 ^ bits (decode n r) = subst (λ (x : ℕ). s.value < 2 ^ bits (decode n x)) e h.2 in
          subst (λ (t : Bool). cond t (s.value + 1) (code_at ss r) ≤ 2 ^ bits (decode n r)) (sym (eq-eqb s.register r e)) (omega arith)
      go (no e) ih = subst (λ (t : Bool). cond t (s.value + 1) (code_at ss r) ≤ 2 ^ bits (decode n r)) (sym (ne_eqb s.register r e)) ih

-- ── each open stage, numbers rising, is the list again ──

module _ (n : ℕ) (g : ℕ → ℕ) where
  abbrev shown_at : ℕ → ShownStage
  shown_at r = record { register = r; value = g r - 1 }

  abbrev opens : ℕ → Bool
  opens r = not (eqb (g r) 0)

  abbrev opened : ℕ → ℕ → List ShownStage
  opened a m = map shown_at (picks opens a m)

  picked : (a m : ℕ) → opened a (suc m) ≡ cond (opens a) (shown_at a ∷ opened (suc a) m) (opened (suc a) m)
  unfolding picks
  picked a m = go (opens a)
    where
      go : (t : Bool) → map shown_at (cond t (a ∷ picks opens (suc a) m) (picks opens (suc a) m)) ≡ cond t (shown_at a ∷ opened (suc a) m) (opened (suc a) m)
      go true = refl
      go false = refl

  shut : (a m : ℕ) → g a ≡ 0 → opened a (suc m) ≡ opened (suc a) m
  shut a m e = picked a m ∙ ap (λ (x : ℕ). cond (not (eqb x 0)) (shown_at a ∷ opened (suc a) m) (opened (suc a) m)) e

  taken : (a m : ℕ) (s : ShownStage) → s.register ≡ a → g a ≡ s.value + 1 → opened a (suc m) ≡ s ∷ opened (suc a) m
  taken a m s i e =
      picked a m ∙ ap (λ (x : Bool). cond (not x) (shown_at a ∷ opened (suc a) m) (opened (suc a) m)) zero_not
      ∙ ap₂ (λ (r v : ℕ). record { register = r; value = v } ∷ opened (suc a) m) (sym i) (let v : g a - 1 ≡ s.value = omega arith in v)
    where
      zero_not : eqb (g a) 0 ≡ false
      zero_not = ne_eqb (g a) 0 (λ (z : g a ≡ 0). omega arith)

  stages_from : (a m : ℕ) (ss : List ShownStage) → RiseFrom n a ss → ((r : ℕ) → is_shadowed (decode n r) ≡ true → r < a + m)
      → ((r : ℕ) → a ≤ r → g r ≡ code_at ss r) → opened a m ≡ ss
  unfolding picks code_at
  stages_from a zero [] h l e = refl
  stages_from a zero (s ∷ ss) h l e = absurd (let x : s.register < a + 0 = l s.register h.1 in omega (arith, h.0))
  stages_from a (suc m) [] h l e =
      shut a m (e a (omega arith))
      ∙ stages_from (suc a) m [] tt (λ r x. subst (λ (y : ℕ). r < y) (let z : a + suc m ≡ suc a + m = omega arith in z) (l r x)) (λ r x. e r (omega arith))
  stages_from a (suc m) (s ∷ ss) h l e =
      go (ℕ_discrete s.register a) (λ f. stages_from (suc a) m ss f up) (λ f. stages_from (suc a) m (s ∷ ss) f up)
    where
      up : (r : ℕ) → is_shadowed (decode n r) ≡ true → r < suc a + m
      up r x = subst (λ (y : ℕ). r < y) (let z : a + suc m ≡ suc a + m = omega arith in z) (l r x)

      go : Dec (s.register ≡ a) → (RiseFrom n (suc a) ss → ((r : ℕ) → suc a ≤ r → g r ≡ code_at ss r) → opened (suc a) m ≡ ss)
          → (RiseFrom n (suc a) (s ∷ ss) → ((r : ℕ) → suc a ≤ r → g r ≡ code_at (s ∷ ss) r) → opened (suc a) m ≡ s ∷ ss) → opened a (suc m) ≡ s ∷ ss
      go (yes i) f k =
          taken a m s i (e a (omega arith) ∙ ap (λ (t : Bool). cond t (s.value + 1) (code_at ss a)) (eq-eqb s.register a i))
          ∙ ap (λ (xs : List ShownStage). s ∷ xs) (f (subst (λ (x : ℕ). RiseFrom n (suc x) ss) i h.3)
          (λ r x. e r (omega arith) ∙ ap (λ (t : Bool). cond t (s.value + 1) (code_at ss r)) (ne_eqb s.register r (λ (y : s.register ≡ r). omega arith))))
      go (no i) f k =
          let from : a ≤ s.register = h.0 in
          let rises : RiseFrom n (suc a) (s ∷ ss) = (omega arith, h.1, h.2, h.3) in
          shut a m (e a (omega arith) ∙ code_below n (s ∷ ss) (suc a) a rises (omega arith)) ∙ k rises (λ r x. e r (omega arith))

pub stages_back : (n : ℕ) (g : ℕ → ℕ) (m : ℕ) (ss : List ShownStage) → RiseFrom n 0 ss → ((r : ℕ) → is_shadowed (decode n r) ≡ true → r < m)
    → ((r : ℕ) → g r ≡ code_at ss r) → map (λ r. record { register = r; value = g r - 1 }) (picks (λ r. not (eqb (g r) 0)) 0 m) ≡ ss
stages_back n g m ss h l e =
    stages_from n g 0 m ss h (λ r x. subst (λ (y : ℕ). r < y) (let z : m ≡ 0 + m = omega arith in z) (l r x)) (λ r x. e r)

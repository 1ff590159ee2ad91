-- Arrays that loops fill by register number.
-- Assumes nothing.
use Prim.Native.Nat.{ℕ, suc, ◌+◌, ◌-◌, ◌≤◌, ◌<◌}
use mathlib.Core.Path.{◌≡◌, sym, ap, ◌∙◌}
use mathlib.Core.Bool.{Bool, cond}
use mathlib.Core.List.{List, ◌∷◌}
use native.Mathlib.Omega.{arith}
use native.Mathlib.Decide.{ℕ_discrete, dec_lt}
use borrow.Author.Tests.{lt-ltb, le-ltb, eq-eqb, ne_eqb}
use lib.Dec.{eqb, ltb}
use lib.ListN.{length, get_or, set, replicate, get_or-replicate, length-replicate}
use Rattle.bits.specs.Index.{each_from, each}
use Rattle.bits.proofs.IndexLaws.{at_each, is_each, each_ext, length_each, set_each}
use Rattle.dump_rules.specs.Content.{code_at, codes_by}
use Rattle.dump_rules.specs.Shown.{ShownStage, limit}

-- ── rising: entries below r are filled ──

abbrev pub up_to : (ℕ → ℕ) → ℕ → ℕ → ℕ
up_to f r j = cond (ltb j r) (f j) 0

module _ (m : ℕ) (f : ℕ → ℕ) where
  pub fill_none : replicate m 0 ≡ each m (up_to f 0)
  fill_none =
      is_each m (replicate m 0) (up_to f 0) 0 (length-replicate m 0)
      (λ i l. get_or-replicate m i 0 0 l ∙ sym (ap (λ (t : Bool). cond t (f i) 0) (le-ltb i 0 (omega arith))))

  pub fill_turn : (out : List ℕ) (r v : ℕ) → r < m → out ≡ each m (up_to f r) → v ≡ f r → set out r v ≡ each m (up_to f (r + 1))
  fill_turn out r v l e g =
      set_each m out r v 0 (ap length e ∙ length_each m (up_to f r)) l
      ∙ each_ext m (λ j. cond (eqb j r) v (get_or out j 0)) (up_to f (r + 1)) 0 at
    where
      at : (j : ℕ) → j < m → cond (eqb j r) v (get_or out j 0) ≡ up_to f (r + 1) j
      at j h = go (ℕ_discrete j r)
        where
          old : get_or out j 0 ≡ up_to f r j
          old = ap (λ (xs : List ℕ). get_or xs j 0) e ∙ at_each m (up_to f r) j 0 h

          same : ¬ (j ≡ r) → ltb j r ≡ ltb j (r + 1)
          same d = pick (dec_lt j r)
            where
              pick : Dec (j < r) → ltb j r ≡ ltb j (r + 1)
              pick (yes y) = lt-ltb j r y ∙ sym (lt-ltb j (r + 1) (omega arith))
              pick (no y) = le-ltb j r (omega arith) ∙ sym (le-ltb j (r + 1) (omega arith))

          go : Dec (j ≡ r) → cond (eqb j r) v (get_or out j 0) ≡ up_to f (r + 1) j
          go (yes d) =
              ap (λ (t : Bool). cond t v (get_or out j 0)) (eq-eqb j r d) ∙ g ∙ ap f (sym d)
              ∙ sym (ap (λ (t : Bool). cond t (f j) 0) (lt-ltb j (r + 1) (omega arith)))
          go (no d) =
              ap (λ (t : Bool). cond t v (get_or out j 0)) (ne_eqb j r d) ∙ old ∙ ap (λ (t : Bool). cond t (f j) 0) (same d)

  -- where nothing is stored at r
  pub fill_skip : (out : List ℕ) (r : ℕ) → out ≡ each m (up_to f r) → f r ≡ 0 → out ≡ each m (up_to f (r + 1))
  fill_skip out r e g = e ∙ each_ext m (up_to f r) (up_to f (r + 1)) 0 (λ j h. go j (ℕ_discrete j r) (dec_lt j r))
    where
      go : (j : ℕ) → Dec (j ≡ r) → Dec (j < r) → up_to f r j ≡ up_to f (r + 1) j
      go j (yes d) y =
          ap (λ (t : Bool). cond t (f j) 0) (le-ltb j r (omega arith)) ∙ sym (ap f d ∙ g)
          ∙ sym (ap (λ (t : Bool). cond t (f j) 0) (lt-ltb j (r + 1) (omega arith)))
      go j (no d) (yes y) = ap (λ (t : Bool). cond t (f j) 0) (lt-ltb j r y ∙ sym (lt-ltb j (r + 1) (omega arith)))
      go j (no d) (no y) = ap (λ (t : Bool). cond t (f j) 0) (le-ltb j r (omega arith) ∙ sym (le-ltb j (r + 1) (omega arith)))

  pub fill_all : (out : List ℕ) (r : ℕ) → m ≤ r → out ≡ each m (up_to f r) → out ≡ each m f
  fill_all out r l e = e ∙ each_ext m (up_to f r) f 0 (λ j h. ap (λ (t : Bool). cond t (f j) 0) (lt-ltb j r (omega arith)))

-- ── falling: the stages from i on are stored ──

module _ (g : ℕ → ShownStage) (k : ℕ) where
  abbrev pub stored : ℕ → List ℕ
  stored i = codes_by (each_from i (k - i) g)

  pub store_none : replicate limit 0 ≡ stored k
  unfolding codes_by code_at each_from
  store_none =
      is_each limit (replicate limit 0) (λ r. 0) 0 (length-replicate {A = ℕ} limit 0) (λ i l. get_or-replicate limit i 0 0 l)
      ∙ ap (λ (n : ℕ). codes_by (each_from k n g)) (let z : 0 ≡ k - k = omega arith in z)

  -- one more in front
  front : (i : ℕ) → i < k → each_from i (k - i) g ≡ g i ∷ each_from (i + 1) (k - (i + 1)) g
  unfolding each_from
  front i l =
      let x : k - i ≡ suc (k - (i + 1)) = omega arith in
      let y : suc i ≡ i + 1 = omega arith in
      ap (λ (n : ℕ). each_from i n g) x ∙ ap (λ (j : ℕ). g i ∷ each_from j (k - (i + 1)) g) y

  pub store_turn : (out : List ℕ) (i r v : ℕ) → i < k → out ≡ stored (i + 1) → r ≡ (g i).register → v ≡ (g i).value → r < limit → set out r (v + 1) ≡ stored i
  unfolding codes_by code_at
  store_turn out i r v l e a b h =
      set_each limit out r (v + 1) 0 (ap length e ∙ length_each limit (code_at later)) h
      ∙ each_ext limit (λ j. cond (eqb j r) (v + 1) (get_or out j 0)) (code_at (g i ∷ later)) 0 at
      ∙ ap codes_by (sym (front i l))
    where
      later : List ShownStage
      later = each_from (i + 1) (k - (i + 1)) g

      at : (j : ℕ) → j < limit → cond (eqb j r) (v + 1) (get_or out j 0) ≡ code_at (g i ∷ later) j
      at j m = go (ℕ_discrete j r)
        where
          old : get_or out j 0 ≡ code_at later j
          old = ap (λ (xs : List ℕ). get_or xs j 0) e ∙ at_each limit (code_at later) j 0 m

          go : Dec (j ≡ r) → cond (eqb j r) (v + 1) (get_or out j 0) ≡ cond (eqb (g i).register j) ((g i).value + 1) (code_at later j)
          go (yes d) =
              ap (λ (t : Bool). cond t (v + 1) (get_or out j 0)) (eq-eqb j r d) ∙ ap (λ (x : ℕ). x + 1) b
              ∙ sym (ap (λ (t : Bool). cond t ((g i).value + 1) (code_at later j)) (eq-eqb (g i).register j (sym (d ∙ a))))
          go (no d) =
              ap (λ (t : Bool). cond t (v + 1) (get_or out j 0)) (ne_eqb j r d) ∙ old
              ∙ sym (ap (λ (t : Bool). cond t ((g i).value + 1) (code_at later j)) (ne_eqb (g i).register j (λ (x : (g i).register ≡ j). d (sym (a ∙ x)))))

  pub skip_turn : (out : List ℕ) (i r : ℕ) → i < k → out ≡ stored (i + 1) → r ≡ (g i).register → limit ≤ r → out ≡ stored i
  unfolding codes_by code_at
  skip_turn out i r l e a h =
      e
      ∙ each_ext limit (code_at later) (code_at (g i ∷ later)) 0
      (λ j m. sym (ap (λ (t : Bool). cond t ((g i).value + 1) (code_at later j)) (ne_eqb (g i).register j (λ (x : (g i).register ≡ j). omega arith))))
      ∙ ap codes_by (sym (front i l))
    where
      later : List ShownStage
      later = each_from (i + 1) (k - (i + 1)) g

  pub store_all : (out : List ℕ) (i : ℕ) → i ≡ 0 → out ≡ stored i → out ≡ codes_by (each k g)
  store_all out i z e = e ∙ ap stored z ∙ ap (λ (n : ℕ). codes_by (each_from 0 n g)) (let y : k - 0 ≡ k = omega arith in y)

-- No sentence of the changes is missing: whatever satisfies them is one list and one number. Nothing here knows the rules' definitions.
-- Assumes nothing.
use Prim.Native.Nat.{ℕ, zero, suc, ◌+◌, ◌-◌, ◌≤◌, ◌<◌}
use mathlib.Core.Path.{◌≡◌, sym, ap, ◌∙◌, subst}
use mathlib.Core.Logic.{◌≢◌}
use mathlib.Core.Bool.{Bool-discrete}
use mathlib.Core.List.{List}
use native.Mathlib.Omega.{arith}
use native.Mathlib.Decide.{dec_lt}
use lib.ListN.{get_or}
use lib.Seq.{ext_get_or}
use Rattle.bits.specs.Bits.{bit}
use Rattle.bits.proofs.BitLaws.{bit_ext}
use Rattle.calm_sentences.specs.Changes.{Changed, ChangeWord, ChangeList}

-- ── one word ──

module _ (lit t w v : ℕ) (x : ChangeWord lit t w) (y : ChangeWord lit t v) where
  moved : (n m : ℕ) → m ≡ n → bit w m ≡ bit v m → bit w n ≡ bit v n
  moved n m e p = subst (λ (j : ℕ). bit w j ≡ bit v j) e p

  same_bit : (n : ℕ) → n < 64 → bit w n ≡ bit v n
  same_bit n l = go (dec_lt n 32) (dec_lt n 60)
    where
      go : Dec (n < 32) → Dec (n < 60) → bit w n ≡ bit v n
      go (yes p) q = x.tick n p ∙ sym (y.tick n p)
      go (no p) (yes q) = let k : n - 32 < 28 = omega arith in moved n (32 + (n - 32)) (omega arith) (x.zeros (n - 32) k ∙ sym (y.zeros (n - 32) k))
      go (no p) (no q) = let k : 63 - n < 4 = omega arith in moved n (63 - (63 - n)) (omega arith) (x.lines (63 - n) k ∙ sym (y.lines (63 - n) k))

  pub same_change_word : w ≡ v
  same_change_word = bit_ext 64 w v (omega (arith, x.bits)) (omega (arith, y.bits)) same_bit

-- ── whether a line changed can be decided ──

dec_below : (P : ℕ → Type 0) → ((e : ℕ) → Dec (P e)) → (n : ℕ) → Dec ((e : ℕ) × (e < n) × P e)
dec_below P d zero = no (λ x. let l : x.0 < 0 = x.1 in absurd (omega (arith, l)))
dec_below P d (suc n) = go (d n) (dec_below P d n)
  where
    go : Dec (P n) → Dec ((e : ℕ) × (e < n) × P e) → Dec ((e : ℕ) × (e < suc n) × P e)
    go (yes p) r = yes (n, omega arith, p)
    go (no p) (yes r) = let l : r.0 < n = r.1 in yes (r.0, omega (arith, l), r.2)
    go (no p) (no r) = no (λ x. last x.0 x.1 x.2 (dec_lt x.0 n))
      where
        last : (e : ℕ) → e < suc n → P e → Dec (e < n) → ⊥
        last e l q (yes m) = r (e, m, q)
        last e l q (no m) = p (subst P (omega arith) q)

pub dec_changed : (lit lot : ℕ) → Dec (Changed lit lot)
dec_changed lit lot = dec_below (λ e. bit lot e ≢ bit lit e) (λ e. go (Bool-discrete (bit lot e) (bit lit e))) 4
  where
    go : {A : Type 0} → Dec A → Dec (¬ A)
    go (yes a) = no (λ f. f a)
    go (no a) = yes a

-- ── one list, over lines that are the same in every tick ──

module _ (n : ℕ) (lit lot : ℕ → ℕ) (same : (t : ℕ) → t ≤ n → lit t ≡ lot t) (list left kept : List ℕ) (c d : ℕ) (x : ChangeList n lit list left c) (y : ChangeList n lot list kept d) where
  -- a change of one is a change of the other
  too : (t : ℕ) → t < n → Changed (lit t) (lit (suc t)) → Changed (lot t) (lot (suc t))
  too t l p =
      subst (λ (a : ℕ). Changed a (lot (suc t))) (same t (omega arith)) (subst (λ (b : ℕ). Changed (lit t) b) (same (suc t) (omega arith)) p)

  nor : (t : ℕ) → t < n → ¬ Changed (lit t) (lit (suc t)) → ¬ Changed (lot t) (lot (suc t))
  nor t l p q =
      p (subst (λ (a : ℕ). Changed a (lit (suc t))) (sym (same t (omega arith))) (subst (λ (b : ℕ). Changed (lot t) b) (sym (same (suc t) (omega arith))) q))

  same_many : (t : ℕ) → t ≤ n → x.many t ≡ y.many t
  same_many zero l = x.none ∙ sym y.none
  same_many (suc t) l = let m : t < n = omega arith in go m (same_many t (omega arith)) (dec_changed (lit t) (lit (suc t)))
    where
      go : t < n → x.many t ≡ y.many t → Dec (Changed (lit t) (lit (suc t))) → x.many (suc t) ≡ y.many (suc t)
      go m e (yes p) = x.one_more t m p ∙ ap (λ (j : ℕ). suc j) e ∙ sym (y.one_more t m (too t m p))
      go m e (no p) = x.no_more t m p ∙ e ∙ sym (y.no_more t m (nor t m p))

  pub same_count : c ≡ d
  same_count = x.all ∙ same_many n (omega arith) ∙ sym y.all

  -- the entry of a tick
  at_tick : (t : ℕ) → t < n → Changed (lit t) (lit (suc t)) → get_or left (x.many t) 0 ≡ get_or kept (x.many t) 0
  at_tick t l p =
      same_change_word (lit (suc t)) (suc t) (get_or left (x.many t) 0) (get_or kept (x.many t) 0) (x.word t l p)
      (subst (λ (i : ℕ). ChangeWord (lit (suc t)) (suc t) (get_or kept i 0)) (sym (same_many t (omega arith)))
      (subst (λ (a : ℕ). ChangeWord a (suc t) (get_or kept (y.many t) 0)) (sym (same (suc t) (omega arith))) (y.word t l (too t l p))))

  -- every entry below the number of changes is that of a tick
  below : (t : ℕ) → t ≤ n → (i : ℕ) → i < x.many t → get_or left i 0 ≡ get_or kept i 0
  below zero l i m = let z = x.none in absurd (omega arith)
  below (suc t) l i m = let k : t < n = omega arith in go k (below t (omega arith) i) (dec_changed (lit t) (lit (suc t))) (dec_lt i (x.many t))
    where
      go : t < n → (i < x.many t → get_or left i 0 ≡ get_or kept i 0) → Dec (Changed (lit t) (lit (suc t))) → Dec (i < x.many t) → get_or left i 0 ≡ get_or kept i 0
      go k r p (yes q) = r q
      go k r (yes p) (no q) =
          let e : x.many t ≡ i = omega (arith, x.one_more t k p, m) in
          subst (λ (j : ℕ). get_or left j 0 ≡ get_or kept j 0) e (at_tick t k p)
      go k r (no p) (no q) = absurd (omega (arith, x.no_more t k p, m))

  pub same_left : left ≡ kept
  same_left = ext_get_or 0 left kept (x.lent ∙ sym y.lent) (λ i l. go i (dec_lt i c))
    where
      go : (i : ℕ) → Dec (i < c) → get_or left i 0 ≡ get_or kept i 0
      go i (yes p) = let a = x.all in let q : i < x.many n = omega arith in below n (omega arith) i q
      go i (no p) = let q : c ≤ i = omega arith in let e = same_count in x.later i q ∙ sym (y.later i (omega arith))

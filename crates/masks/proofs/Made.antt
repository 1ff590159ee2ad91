-- The entries of an array that `from_fn` or `map` makes, by a closure that its calls leave as it was.
-- Assumes nothing.
use Prim.Native.Nat.{ℕ, zero, suc, ◌+◌, ◌<◌}
use mathlib.Core.Path.{◌≡◌, sym, ap, subst, ◌∙◌}
use mathlib.Core.List.{List}
use native.Mathlib.Omega.{arith}
use denote.Param.Members.{Mut}
use lib.ListN.{get_or}
use Rattle.std.specs.Array.{IsFromFnResult, IsFromFnResultFrom, IsMapOf, MapsFrom}
use Rattle.std.specs.Fn.{Called}
use Rattle.bits.specs.Index.{each}
use Rattle.bits.proofs.IndexLaws.{is_each}

module _ {F B : Type 0} (g : Mut F (ℕ × Unit {0}) B) (f : F) (R : ℕ → B → Type 0) (keeps : (i : ℕ) (y : B) (q : F) → Called g f (i, tt) y q → (q ≡ f) × R i y) where
  made_from : (ys : List B) (d : B) (i n : ℕ) → IsFromFnResultFrom g f ys i n → (k : ℕ) → k < n → R (i + k) (get_or ys (i + k) d)
  made_from ys d i zero r k l = absurd (omega arith)
  made_from ys d i (suc n) r zero l =
      let e : i + 0 ≡ i = omega arith in
      subst (λ (j : ℕ). R j (get_or ys j d)) (sym e) (subst (λ (y : B). R i y) (sym (r.2.1 d)) (keeps i r.1 r.0 r.3).1)
  made_from ys d i (suc n) r (suc k) l =
      let e : (i + 1) + k ≡ i + suc k = omega arith in
      subst (λ (j : ℕ). R j (get_or ys j d)) e
      (made_from ys d (i + 1) n (subst (λ (q : F). IsFromFnResultFrom g q ys (i + 1) n) (keeps i r.1 r.0 r.3).0 r.4) k (omega arith))

  -- entry k is related to k as the closure relates its answer to its argument
  pub made_by : {ys : List B} {n : ℕ} → IsFromFnResult g f ys n → (d : B) (k : ℕ) → k < n → R k (get_or ys k d)
  made_by {ys} {n} r d k l =
      let e : 0 + k ≡ k = omega arith in subst (λ (j : ℕ). R j (get_or ys j d)) e (made_from ys d 0 n r.each k l)

-- where the closure computes h, the array is `each` of it
pub made : {F B : Type 0} (g : Mut F (ℕ × Unit {0}) B) (f : F) (h : ℕ → B) → ((i : ℕ) (y : B) (q : F) → Called g f (i, tt) y q → (q ≡ f) × (y ≡ h i))
    → {ys : List B} {n : ℕ} → B → IsFromFnResult g f ys n → ys ≡ each n h
made g f h keeps {ys} {n} d r = is_each n ys h d r.long (λ k l. made_by g f (λ i y. y ≡ h i) keeps r d k l)

module _ {F A B : Type 0} (g : Mut F (A × Unit {0}) B) (f : F) (h : A → B) (keeps : (x : A) (y : B) (q : F) → Called g f (x, tt) y q → (q ≡ f) × (y ≡ h x)) where
  mapped_from : (xs : List A) (ys : List B) (d : A) (e : B) (i n : ℕ) → MapsFrom g f xs ys i n → (k : ℕ) → k < n → get_or ys (i + k) e ≡ h (get_or xs (i + k) d)
  mapped_from xs ys d e i zero r k l = absurd (omega arith)
  mapped_from xs ys d e i (suc n) r zero l =
      let s : i + 0 ≡ i = omega arith in
      subst (λ (j : ℕ). get_or ys j e ≡ h (get_or xs j d)) (sym s) (r.4.1 e ∙ (keeps r.1 r.2 r.0 r.5).1 ∙ sym (ap h (r.3.1 d)))
  mapped_from xs ys d e i (suc n) r (suc k) l =
      let s : (i + 1) + k ≡ i + suc k = omega arith in
      subst (λ (j : ℕ). get_or ys j e ≡ h (get_or xs j d)) s
      (mapped_from xs ys d e (i + 1) n (subst (λ (q : F). MapsFrom g q xs ys (i + 1) n) (keeps r.1 r.2 r.0 r.5).0 r.6) k (omega arith))

  -- where the closure computes h, each entry is h of its entry
  pub mapped : {xs : List A} {ys : List B} {n : ℕ} → IsMapOf g f xs ys n → (d : A) (e : B) (k : ℕ) → k < n → get_or ys k e ≡ h (get_or xs k d)
  mapped {xs} {ys} {n} r d e k l =
      let s : 0 + k ≡ k = omega arith in subst (λ (j : ℕ). get_or ys j e ≡ h (get_or xs j d)) s (mapped_from xs ys d e 0 n r.each k l)

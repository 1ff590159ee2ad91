-- Laws of lists and tests by index.
-- Assumes nothing.
use Prim.Native.Nat.{ℕ, zero, suc, ◌+◌, ◌≤◌, ◌<◌}
use mathlib.Core.Path.{◌≡◌, refl, sym, ap, ap₂, ◌∙◌}
use mathlib.Core.Bool.{Bool, true, false, false≢true, cond, ◌&&◌, ◌||◌, or-false}
use mathlib.Core.List.{List}
use native.Mathlib.Omega.{arith}
use native.Mathlib.Nat.{add-zero, add-suc, suc-add, zero-add, le_of_suc-le-suc, not-suc-le-zero}
use native.Mathlib.Decide.{dec_lt, ℕ_discrete, le_ind}
use borrow.Author.Tests.{eq-eqb, ne_eqb}
use lib.Dec.{eqb}
use lib.ListN.{get_or, length, set, length-set}
use lib.Seq.{ext_get_or, get_or-set_same, get_or-set_other}
use Rattle.bits.specs.Index.{each, each_from, any_to, all_to}

pub and-true : (a b : Bool) → (a && b) ≡ true → (a ≡ true) × (b ≡ true)
and-true true b e = (refl, e)
and-true false b e = absurd (false≢true e)

pub true_and : {a b : Bool} → a ≡ true → b ≡ true → (a && b) ≡ true
true_and p q = ap₂ ◌&&◌ p q

pub or_right : (a : Bool) {b : Bool} → b ≡ true → (a || b) ≡ true
or_right true e = refl
or_right false e = e

-- ── lists ──

module _ {ℓ} {A : Type ℓ} where
  length_from : (b n : ℕ) (f : ℕ → A) → length (each_from b n f) ≡ n
  unfolding each_from
  length_from b zero f = refl
  length_from b (suc n) f = ap suc (length_from (suc b) n f)

  pub length_each : (n : ℕ) (f : ℕ → A) → length (each n f) ≡ n
  length_each n f = length_from 0 n f

  at_from : (b n : ℕ) (f : ℕ → A) (i : ℕ) (d : A) → i < n → get_or (each_from b n f) i d ≡ f (b + i)
  unfolding each_from
  at_from b zero f i d h = absurd (not-suc-le-zero h)
  at_from b (suc n) f zero d h = ap f (sym (add-zero b))
  at_from b (suc n) f (suc i) d h = at_from (suc b) n f i d (le_of_suc-le-suc h) ∙ ap f (suc-add b i ∙ sym (add-suc b i))

  pub at_each : (n : ℕ) (f : ℕ → A) (i : ℕ) (d : A) → i < n → get_or (each n f) i d ≡ f i
  at_each n f i d h = at_from 0 n f i d h ∙ ap f (zero-add i)

  -- a list of n entries is `each` of a rule that its entries follow
  pub is_each : (n : ℕ) (xs : List A) (f : ℕ → A) (d : A) → length xs ≡ n → ((i : ℕ) → i < n → get_or xs i d ≡ f i) → xs ≡ each n f
  is_each n xs f d l e =
      ext_get_or d xs (each n f) (l ∙ sym (length_each n f)) (λ i h. let s : i < n = omega arith in e i s ∙ sym (at_each n f i d s))

  pub each_ext : (n : ℕ) (f g : ℕ → A) (d : A) → ((i : ℕ) → i < n → f i ≡ g i) → each n f ≡ each n g
  each_ext n f g d e = is_each n (each n f) g d (length_each n f) (λ i h. at_each n f i d h ∙ e i h)

  -- a store at i
  pub at_set : (xs : List A) (i : ℕ) (v d : A) (j : ℕ) → i < length xs → get_or (set xs i v) j d ≡ cond (eqb j i) v (get_or xs j d)
  at_set xs i v d j h = go (ℕ_discrete j i)
    where
      go : Dec (j ≡ i) → get_or (set xs i v) j d ≡ cond (eqb j i) v (get_or xs j d)
      go (yes e) = ap (λ (m : ℕ). get_or (set xs i v) m d) e ∙ get_or-set_same xs i v d h ∙ sym (ap (λ (t : Bool). cond t v (get_or xs j d)) (eq-eqb j i e))
      go (no e) = get_or-set_other xs i j v d e ∙ sym (ap (λ (t : Bool). cond t v (get_or xs j d)) (ne_eqb j i e))

  pub set_each : (n : ℕ) (xs : List A) (i : ℕ) (v d : A) → length xs ≡ n → i < n → set xs i v ≡ each n (λ j. cond (eqb j i) v (get_or xs j d))
  set_each n xs i v d l h = is_each n (set xs i v) _ d (length-set xs i v ∙ l) (λ j s. at_set xs i v d j (omega arith))

-- ── tests ──

pub all_at : (f : ℕ → Bool) (n : ℕ) → all_to f n ≡ true → (i : ℕ) → i < n → f i ≡ true
unfolding all_to
all_at f zero e i h = absurd (not-suc-le-zero h)
all_at f (suc n) e i h = go (dec_lt i n) (λ l. all_at f n (and-true (all_to f n) (f n) e).0 i l)
  where
    go : Dec (i < n) → (i < n → f i ≡ true) → f i ≡ true
    go (yes l) below = below l
    go (no l) below = let d : i ≡ n = omega arith in ap f d ∙ (and-true (all_to f n) (f n) e).1

pub all_of : (f : ℕ → Bool) (n : ℕ) → ((i : ℕ) → i < n → f i ≡ true) → all_to f n ≡ true
unfolding all_to
all_of f zero g = refl
all_of f (suc n) g = true_and (all_of f n (λ i h. g i (omega arith))) (g n (omega arith))

pub any_at : (f : ℕ → Bool) (n i : ℕ) → i < n → f i ≡ true → any_to f n ≡ true
unfolding any_to
any_at f zero i h e = absurd (not-suc-le-zero h)
any_at f (suc n) i h e = go (dec_lt i n) (λ l. any_at f n i l e)
  where
    go : Dec (i < n) → (i < n → any_to f n ≡ true) → (any_to f n || f n) ≡ true
    go (yes l) below = ap (λ (t : Bool). t || f n) (below l)
    go (no l) below = let d : i ≡ n = omega arith in or_right (any_to f n) (ap f (sym d) ∙ e)

pub any_some : (f : ℕ → Bool) (n : ℕ) → any_to f n ≡ true → (i : ℕ) × (i < n) × (f i ≡ true)
unfolding any_to
any_some f zero e = absurd (false≢true e)
any_some f (suc n) e = go (any_to f n) refl e (any_some f n)
  where
    go : (a : Bool) → any_to f n ≡ a → (a || f n) ≡ true → (any_to f n ≡ true → (i : ℕ) × (i < n) × (f i ≡ true)) → (i : ℕ) × (i < suc n) × (f i ≡ true)
    go true p q r = let s = r p in (s.0, omega (arith, s.1), s.2)
    go false p q r = (n, omega arith, q)

pub any_ext : (f g : ℕ → Bool) (n : ℕ) → ((i : ℕ) → i < n → f i ≡ g i) → any_to f n ≡ any_to g n
unfolding any_to
any_ext f g zero e = refl
any_ext f g (suc n) e = ap₂ ◌||◌ (any_ext f g n (λ i h. e i (omega arith))) (e n (omega arith))

pub any_none : (f : ℕ → Bool) (n : ℕ) → ((i : ℕ) → i < n → f i ≡ false) → any_to f n ≡ false
unfolding any_to
any_none f zero e = refl
any_none f (suc n) e = ap₂ ◌||◌ (any_none f n (λ i h. e i (omega arith))) (e n (omega arith))

-- where none from m up to n has f
pub any_skip : (f : ℕ → Bool) (m n : ℕ) → m ≤ n → ((i : ℕ) → m ≤ i → i < n → f i ≡ false) → any_to f n ≡ any_to f m
unfolding any_to
any_skip f m n h none =
    le_ind (λ (x : ℕ). ((i : ℕ) → m ≤ i → i < x → f i ≡ false) → any_to f x ≡ any_to f m) (λ g. refl)
    (λ x l ih g. ap (λ (b : Bool). any_to f x || b) (g x l (omega arith)) ∙ or-false (any_to f x) ∙ ih (λ i a b. g i a (omega arith)))
    n h none

-- where none has f, i has not
pub none_at : (f : ℕ → Bool) (n i : ℕ) → any_to f n ≡ false → i < n → f i ≡ false
none_at f n i e l = go (f i) refl
  where
    go : (b : Bool) → f i ≡ b → b ≡ false
    go true p = absurd (false≢true (sym e ∙ any_at f n i l p))
    go false p = refl

or_none : (a : Bool) → a ≡ (a || false)
or_none true = refl
or_none false = refl

or_assoc : (a b c : Bool) → ((a || b) || c) ≡ (a || (b || c))
or_assoc true b c = refl
or_assoc false b c = refl

-- the first, or one of those after it
pub any_first : (f : ℕ → Bool) (n : ℕ) → any_to f (suc n) ≡ (f 0 || any_to (λ i. f (suc i)) n)
unfolding any_to
any_first f zero = or_none (f 0)
any_first f (suc n) = ap (λ (b : Bool). b || f (suc n)) (any_first f n) ∙ or_assoc (f 0) (any_to (λ i. f (suc i)) n) (f (suc n))

-- Cases of an access, numbers that come back, and lists by their entries.
-- Assumes nothing.
use Prim.Native.Nat.{ℕ, ◌<◌}
use mathlib.Core.Path.{◌≡◌, refl, sym, ap, ◌∙◌}
use mathlib.Core.Logic.{◌↔◌, ◌⊎◌, inl, inr, ⊎_elim}
use mathlib.Core.Bool.{Bool, true, false, false≢true, cond, ◌||◌}
use mathlib.Core.List.{List}
use native.Mathlib.Omega.{arith}
use lib.ListN.{get_or, length}
use lib.Seq.{ext_get_or}
use Rattle.rules.specs.declared.Access.{Access}
use Rattle.rules.specs.declared.Access.TheVariants.{Nothing, Read, Write, Malformed}

-- both give what one case says
pub both_give : {A P : Type 0} {y z m : A} → (y ≡ m) ↔ P → (z ≡ m) ↔ P → P → y ≡ z
both_give f g p = f.1 p ∙ sym (g.1 p)

-- where one gives it, both do
pub both_are : {A P : Type 0} {y z m : A} → (y ≡ m) ↔ P → (z ≡ m) ↔ P → y ≡ m → y ≡ z
both_are f g e = e ∙ sym (g.1 (f.0 e))

-- lists of n entries with equal entries
pub same_list : {A : Type 0} (d : A) (n : ℕ) (xs ys : List A) → length xs ≡ n → length ys ≡ n → ((i : ℕ) → i < n → get_or xs i d ≡ get_or ys i d) → xs ≡ ys
same_list d n xs ys l m e = ext_get_or d xs ys (l ∙ sym m) (λ i h. e i (omega arith))

-- one of two tests
pub or_is : (a b : Bool) → ((a || b) ≡ true) ↔ ((a ≡ true) ⊎ (b ≡ true))
or_is true b = (λ e. inl refl, λ s. refl)
or_is false b = (λ e. inr e, λ s. ⊎_elim (λ e. absurd (false≢true e)) (λ e. e) s)

-- ── kinds of access ──

abbrev is_read : Access → Bool
is_read Nothing = false
is_read (Read r) = true
is_read (Write r v) = false
is_read Malformed = false

-- what is no read reads no number
pub no_read : (x : Access) → is_read x ≡ false → (r : ℕ) → ¬ (x ≡ Read r)
no_read x e r d = false≢true (sym e ∙ ap is_read d)

-- ── the first case that holds ──

-- the case that is asked for, where what follows gives another number
pub here : {P : Type 0} (b : Bool) (m z : ℕ) → (b ≡ true) ↔ P → ¬ (z ≡ m) → (cond b m z ≡ m) ↔ P
here true m z f n = (λ _. f.0 refl, λ _. refl)
here false m z f n = (λ e. absurd (n e), λ p. absurd (false≢true (f.1 p)))

-- a case before it
pub later : {P Q : Type 0} (b : Bool) (k m z : ℕ) → (b ≡ true) ↔ P → ¬ (k ≡ m) → (b ≡ false → (z ≡ m) ↔ Q) → (cond b k z ≡ m) ↔ ((¬ P) × Q)
later true k m z f n g = (λ e. absurd (n e), λ q. absurd (q.0 (f.0 refl)))
later false k m z f n g = (λ e. (λ p. false≢true (f.1 p), (g refl).0 e), λ q. (g refl).1 q.1)

-- the last case, where none holds
pub last : {P : Type 0} (b : Bool) (k : ℕ) → (b ≡ true) ↔ P → ¬ (k ≡ 0) → (cond b k 0 ≡ 0) ↔ (¬ P)
last true k f n = (λ e. absurd (n e), λ p. absurd (p (f.0 refl)))
last false k f n = (λ e p. false≢true (f.1 p), λ _. refl)

-- none of two
pub away : (b : Bool) (k z m : ℕ) → ¬ (k ≡ m) → ¬ (z ≡ m) → ¬ (cond b k z ≡ m)
away true k z m n o = n
away false k z m n o = o

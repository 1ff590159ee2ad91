-- A test of each item of a list, as `all` makes it, is the test of each index.
-- Assumes nothing.
use Prim.Native.Nat.{ℕ, zero, suc}
use mathlib.Core.Path.{◌≡◌, refl, sym, ap, ◌∙◌}
use mathlib.Core.Bool.{Bool, true, false, and_assoc, ◌&&◌}
use mathlib.Core.List.{List, [], ◌∷◌}
use lib.ListN.{length, get_or}
use Rattle.std.specs.List.{list_all}
use Rattle.bits.specs.Index.{all_to}

and_true : (a : Bool) → a ≡ (a && true)
and_true true = refl
and_true false = refl

-- the first, and those after it
all_first : (f : ℕ → Bool) (n : ℕ) → all_to f (suc n) ≡ (f 0 && all_to (λ i. f (suc i)) n)
unfolding all_to
all_first f zero = and_true (f 0)
all_first f (suc n) = ap (λ (b : Bool). b && f (suc n)) (all_first f n) ∙ and_assoc (f 0) (all_to (λ i. f (suc i)) n) (f (suc n))

pub listed : {A : Type 0} (p : A → Bool) (d : A) (xs : List A) → list_all p xs ≡ all_to (λ i. p (get_or xs i d)) (length xs)
unfolding all_to
listed p d [] = refl
listed p d (x ∷ xs) = ap (λ (b : Bool). p x && b) (listed p d xs) ∙ sym (all_first (λ i. p (get_or (x ∷ xs) i d)) (length xs))

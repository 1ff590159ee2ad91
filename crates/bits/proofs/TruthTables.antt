-- Truth tables that the checker computes: an equation of Bools that holds in every case holds of any Bools.
-- Assumes nothing.
use mathlib.Core.Path.{◌≡◌, refl}
use mathlib.Core.Bool.{Bool, true, false, ◌&&◌, beq}
use lib.Dec.{T}

abbrev pub every : (Bool → Bool) → Bool
every f = f true && f false

both : (a b : Bool) → T (a && b) → T a × T b
both true b h = (tt, h)
both false b h = absurd h

pub every_at : (f : Bool → Bool) → T (every f) → (b : Bool) → T (f b)
every_at f h true = (both (f true) (f false) h).0
every_at f h false = (both (f true) (f false) h).1

pub same : (a b : Bool) → T (beq a b) → a ≡ b
same true true h = refl
same true false h = absurd h
same false true h = absurd h
same false false h = refl

pub by2 : (f g : Bool → Bool → Bool) → T (every (λ a. every (λ b. beq (f a b) (g a b)))) → (a b : Bool) → f a b ≡ g a b
by2 f g t a b = same _ _ (every_at (λ y. beq (f a y) (g a y)) (every_at (λ x. every (λ y. beq (f x y) (g x y))) t a) b)

pub by4 : (f g : Bool → Bool → Bool → Bool → Bool) → T (every (λ a. every (λ b. every (λ c. every (λ d. beq (f a b c d) (g a b c d)))))) → (a b c d : Bool) → f a b c d ≡ g a b c d
by4 f g t a b c d =
    by2 (f a b) (g a b)
    (every_at (λ y. every (λ z. every (λ w. beq (f a y z w) (g a y z w)))) (every_at (λ x. every (λ y. every (λ z. every (λ w. beq (f x y z w) (g x y z w))))) t a) b)
    c d

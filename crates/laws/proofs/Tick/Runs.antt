-- Lists of ticks: joined, one by one, and with refusal 7 looked for once.
-- Assumes nothing.
use Prim.Native.Nat.{ℕ, zero, suc, ◌<◌}
use mathlib.Core.Path.{◌≡◌, refl, ap, ap₂, ◌∙◌}
use mathlib.Core.Bool.{true}
use mathlib.Core.List.{List, [], ◌∷◌, ◌++◌}
use native.Mathlib.Nat.{le_of_suc-le-suc, not-suc-le-zero}
use lib.ListN.{length, get_or, take}
use Rattle.rules.specs.Run.{run, ticks}
use Rattle.rules.specs.Tick.{after, ticked}
use Rattle.rules.specs.Valid.{valid}
use Rattle.rules.specs.declared.Handler.{Handler}
use Rattle.rules.specs.declared.Input.{Input}
use Rattle.rules.specs.declared.Ticked.{Ticked}
use Rattle.laws.specs.Unchecked.{run_unchecked, ticks_unchecked}
use Rattle.laws.proofs.Valid.KeepsValid.{after_valid}
use Rattle.laws.proofs.Valid.Refusal7.{ticked_good, ticked_handler}

-- ── two lists of ticks are one ──

pub run_append : (h : Handler) (xs ys : List Input) → run h (xs ++ ys) ≡ run (run h xs) ys
unfolding run
run_append h [] ys = refl
run_append h (x ∷ xs) ys = run_append (ticked h x).handler xs ys

pub ticks_append : (h : Handler) (xs ys : List Input) → ticks h (xs ++ ys) ≡ ticks h xs ++ ticks (run h xs) ys
unfolding run ticks
ticks_append h [] ys = refl
ticks_append h (x ∷ xs) ys = ap (λ (ts : List Ticked). ticked h x ∷ ts) (ticks_append (ticked h x).handler xs ys)

-- ── one by one ──

pub length_ticks : (h : Handler) (xs : List Input) → length (ticks h xs) ≡ length xs
unfolding ticks
length_ticks h [] = refl
length_ticks h (x ∷ xs) = ap suc (length_ticks (ticked h x).handler xs)

-- the state after i + 1 ticks is that after tick i on the state after i
pub run_next : (h : Handler) (xs : List Input) (i : ℕ) (d : Input) → i < length xs → run h (take (suc i) xs) ≡ (ticked (run h (take i xs)) (get_or xs i d)).handler
unfolding run
run_next h [] i d l = absurd (not-suc-le-zero l)
run_next h (x ∷ xs) zero d l = refl
run_next h (x ∷ xs) (suc i) d l = run_next (ticked h x).handler xs i d (le_of_suc-le-suc l)

-- what tick i gives
pub ticks_at : (h : Handler) (xs : List Input) (i : ℕ) (d : Input) (e : Ticked) → i < length xs → get_or (ticks h xs) i e ≡ ticked (run h (take i xs)) (get_or xs i d)
unfolding run ticks
ticks_at h [] i d e l = absurd (not-suc-le-zero l)
ticks_at h (x ∷ xs) zero d e l = refl
ticks_at h (x ∷ xs) (suc i) d e l = ticks_at (ticked h x).handler xs i d e (le_of_suc-le-suc l)

-- ── where the first state is valid, no later one is refused: to look once is enough ──

pub one_check : (h : Handler) (xs : List Input) → valid h ≡ true → run h xs ≡ run_unchecked h xs
unfolding run run_unchecked
one_check h [] e = refl
one_check h (x ∷ xs) e = ap (λ (g : Handler). run g xs) (ticked_handler h x e) ∙ one_check (after h x) xs (after_valid h x e)

pub one_check_ticks : (h : Handler) (xs : List Input) → valid h ≡ true → ticks h xs ≡ ticks_unchecked h xs
unfolding ticks ticks_unchecked
one_check_ticks h [] e = refl
one_check_ticks h (x ∷ xs) e =
    ap₂ (λ (t : Ticked) (ts : List Ticked). t ∷ ts) (ticked_good h x e)
    (ap (λ (g : Handler). ticks g xs) (ticked_handler h x e) ∙ one_check_ticks (after h x) xs (after_valid h x e))

-- A fold of Bools by `&`: where it is true, what each of its tests says holds.
-- Assumes nothing.
use mathlib.Core.Path.{◌≡◌}
use mathlib.Core.Bool.{Bool, true}
use mathlib.Core.List.{List}
use denote.Param.Members.{Mut}
use Rattle.std.proofs.lemmas.Fn.{fold_over}
use Rattle.std.proofs.lemmas.Iterator.{YieldsList}
use Rattle.std.proofs.lemmas.List.Elements.{All-nil, All-push}
use Rattle.std.specs.Fn.{Called}
use Rattle.std.specs.Iterator.{Drains}
use Rattle.std.specs.List.{All, FoldsTo}
use Rattle.std.specs.Prelude.{Option}

module _ {S A F : Type 0} {steps : S → Option A → S → Type 0} {s : S} {all : List A} (g : Mut F (Bool × (A × Unit {0})) Bool) (P : A → Type 0) {f : F}
    (step : (a : Bool) (x : A) (b : Bool) (q : F) → Called g f (a, (x, tt)) b q → (q ≡ f) × (b ≡ true → (a ≡ true) × P x)) where
  pub all_held : (r : Bool) → ((xs : List A) × (q : F) × Drains steps s xs × FoldsTo {P = F × Bool} (λ a x b. Called g a.0 (a.1, (x, tt)) b.1 b.0) (f, true) xs (q, r))
      → YieldsList steps (λ x. x) s all → r ≡ true → All P all
  all_held r ran chain =
      fold_over steps (λ x. x) g (λ xs b. b ≡ true → All P xs) f
      (λ ys a x b q j k. let u = step a x b q k in (λ e. let v = u.1 e in All-push P ys x (j v.0) v.1, u.0))
      s all true r chain.runs (λ e. All-nil P) ran

-- Of any boot, wherever it stops, and of one that does not begin: what every tick keeps it keeps.
-- Assumes nothing.
use mathlib.Core.Path.{◌≡◌, refl, ◌∙◌}
use mathlib.Core.Bool.{true}
use mathlib.Core.List.{List, [], ◌∷◌}
use native.Mathlib.Omega.{arith}
use lib.Dec.{ltb}
use Rattle.laws.proofs.State.Above.{ticked_above}
use Rattle.laws.proofs.Map.Cases.{pick}
use Rattle.laws.proofs.Valid.KeepsValid.{ticked_valid}
use Rattle.laws.specs.Above.{SameAbove}
use Rattle.rules.specs.Tick.{ticked}
use Rattle.rules.specs.Valid.{valid}
use Rattle.rules.specs.declared.Access.{Access}
use Rattle.rules.specs.declared.Handler.{Handler}
use Rattle.policy.specs.Install.{Ask, rest, under, asks}
use Rattle.policy.specs.Plan.{plan_of, boot}
use Rattle.boot_laws.specs.Ran.{reach, All}
use Rattle.boot_laws.specs.Ran.All.{none, more}
use Rattle.policy.specs.Table.{alert_count}
use Rattle.policy.specs.declared.Installed.{Installed}
use Rattle.policy.specs.declared.Lifecycle.{Lifecycle}
use Rattle.boot_laws.proofs.AskLaws.{install_keeps}

-- what every tick with all wires at (0,1) keeps
module _ (I : Handler → Type 0) (step : (g : Handler) (x : Access) → I g → I (ticked g (rest x)).handler) where
  each_ask : (xs : List Ask) → All (λ a. (g : Handler) → I g → I (reach g a)) xs
  each_ask [] = none
  each_ask (a ∷ xs) = more (λ g i. step g a.access i) (each_ask xs)

  pub boot_rests : (l : Lifecycle) (h : Handler) → I h → I (boot l h).handler
  unfolding boot
  boot_rests l h i =
      pick (λ (r : Installed). I r.handler) (valid h) _ _
      (λ _. pick (λ (r : Installed). I r.handler) (ltb h.n alert_count) _ _ (λ _. i)
      (λ _. install_keeps I (asks (plan_of l)) (each_ask (asks (plan_of l))) (under h) i))
      (λ _. i)

-- "States that calls produce never get it"
pub boot_valid : (l : Lifecycle) (h : Handler) → valid h ≡ true → valid (boot l h).handler ≡ true
boot_valid = boot_rests (λ g. valid g ≡ true) (λ g x. ticked_valid g (rest x))

-- "Stored entries at N and above are no registers: .. no call changes them"
pub boot_above : (l : Lifecycle) (h : Handler) → SameAbove h (boot l h).handler
boot_above l h = boot_rests (SameAbove h) next l h start
  where
    start : SameAbove h h
    start = record { n = refl; alerts = λ f i l b. refl; receivers = λ i l b. refl; stages = λ f i l b. refl }

    next : (g : Handler) (x : Access) → SameAbove h g → SameAbove h (ticked g (rest x)).handler
    next g x a =
        let b = ticked_above g (rest x) in
        record {
          n = b.n ∙ a.n;
          alerts = λ f i l c. b.alerts f i (omega (arith, a.n)) c ∙ a.alerts f i l c;
          receivers = λ i l c. b.receivers i (omega (arith, a.n)) c ∙ a.receivers i l c;
          stages = λ f i l c. b.stages f i (omega (arith, a.n)) c ∙ a.stages f i l c;
        }

-- Request (vi), "Boot policy": the ticks of a boot, "one access a tick with all wires at (0,1)". proofs/BootTicks.antt proves the claim of every boot.
-- Assumes nothing.
use Rattle.std.specs.Prelude.{suc, ◌≤◌, ◌<◌, ◌≡◌, true, false, cond, List, [], ◌∷◌, ltb, take}
use Rattle.rules.specs.Valid.{valid}
use Rattle.rules.specs.declared.Handler.{Handler}
use Rattle.rules.specs.declared.Input.{Input}
use Rattle.policy.specs.Install.{Ask, asks}
use Rattle.policy.specs.Plan.{plan_of}
use Rattle.policy.specs.Table.{alert_count}
use Rattle.policy.specs.declared.Lifecycle.{Lifecycle}
use Rattle.policy.specs.Progress.{Progress}
use Rattle.boot_laws.specs.Ran.{input_of, wants, reach, StoppedAt}
use Rattle.boot_laws.specs.Ran
use Rattle.boot_laws.specs.Stands.{Success}

-- it "stops at the first refusal or difference": the tick whose answer is not wanted is the last that runs
unfoldable pub ran : Handler → List Ask → List Input
ran h [] = []
ran h (a ∷ xs) = let later = ran (reach h a) xs in input_of a ∷ cond (wants h a) later []

-- "It needs N of at least 58, else 13 and an unchanged state; 7 comes before": a boot that does not begin has no tick
unfoldable pub boot_inputs : Lifecycle → Handler → List Input
boot_inputs l h = cond (valid h) (cond (ltb h.n alert_count) [] (ran h (asks (plan_of l)))) []

-- ── the claim: the same by how the boot went ──

pub record BootRan (l : Lifecycle) (h : Handler) : Type 0 where
  pub refused_7 : valid h ≡ false → boot_inputs l h ≡ []
  pub refused_13 : h.n < 58 → boot_inputs l h ≡ []
  -- a success ran every tick of the plan
  pub success : Success l h → boot_inputs l h ≡ Ran.inputs (asks (plan_of l))
  -- one that stopped at a place ran the ticks up to that place, and the one there
  pub stop :
      valid h ≡ true → 58 ≤ h.n → (s : Progress) (p : StoppedAt h (asks (plan_of l)) s)
      → boot_inputs l h ≡ take (suc p.place) (Ran.inputs (asks (plan_of l)))

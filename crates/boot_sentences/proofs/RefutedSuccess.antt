-- Wrong boots that the sentences refuse, as theorems: on a new handler, where a boot succeeds. What comes of its ticks is taken from the laws of a boot, so that no tick is computed.
-- Assumes nothing.
use Prim.Native.Nat.{ℕ, zero, suc, ◌<◌}
use mathlib.Core.Path.{◌≡◌, refl, ap, ◌∙◌}
use mathlib.Core.Logic.{inr}
use mathlib.Core.Bool.{Bool, true, cond, ◌&&◌}
use mathlib.Core.List.{List, [], ◌∷◌, ◌++◌}
use native.Mathlib.Omega.{arith}
use lib.Dec.{eqb, ltb}
use lib.IntN.{ℤ, pos, negsuc}
use lib.ListN.{take, drop}
use Rattle.boot_laws.specs.Ran.{Among}
use Rattle.boot_laws.specs.Ran.Among.{here}
use Rattle.boot_laws.proofs.Boots.{boots, new_boots}
use Rattle.boot_laws.proofs.InstallLaws.{install_holds}
use Rattle.boot_laws.proofs.Members.{among_right}
use Rattle.boot_laws.proofs.Succeeds.{install_succeeds}
use Rattle.laws.proofs.Access.Written.{new_valid}
use Rattle.policy.specs.Install.{Entry, is, under, install, asks}
use Rattle.policy.specs.Plan.{entry, alert_entries, class_entries, lock_entries, class_lock, parts_to, plan_of, barred, lifecycle_of}
use Rattle.policy.specs.Sound.{unnamed, unguarded, sound, ahead, free}
use Rattle.policy.specs.Table.{mark_at}
use Rattle.policy.specs.declared.Bar.TheVariants.{BadState, FewAlerts}
use Rattle.policy.specs.declared.Installed.{Installed}
use Rattle.policy.specs.declared.Lifecycle.{Lifecycle}
use Rattle.rules.specs.Access.{value, locked}
use Rattle.rules.specs.Map.{number_of, bits, read_only, guard}
use Rattle.rules.specs.Stages.{stage_in}
use Rattle.rules.specs.State.{reset_class, new_handler}
use Rattle.rules.specs.Valid.{valid}
use Rattle.rules.specs.declared.Field.{Field}
use Rattle.rules.specs.declared.Handler.{Handler}
use Rattle.rules.specs.declared.Register.TheVariants.{Alert, Block}
use Rattle.rules.specs.declared.Setting.{Setting}
use Rattle.sentences.specs.AccessArrays.{Sized}
use Rattle.trace_sentences.proofs.HoldsWords.{refusal_of_law}
use Rattle.boot_sentences.specs.Boots.{Installer}
use Rattle.boot_sentences.proofs.BootScenes.{scene, sized_scene, differs}
use Rattle.boot_sentences.proofs.HoldsBoots.{installed}

abbrev new : Handler
new = new_handler 58

sized : Sized new
unfolding scene new_handler
sized = sized_scene 58 248 0 0 reset_class 0 refl

good : valid new ≡ true
good = new_valid 58 (omega arith) (omega arith)

-- ── what a success answers ──

-- the number that is answered
abbrev answered : ℤ → ℕ
answered (pos n) = n
answered (negsuc n) = 0

-- 58, the alerts that are classified
abbrev count : Installed → Installed
count b = record { handler = b.handler; answer = cond (eqb b.register 0 && is b.answer 0) (pos 58) b.answer; register = b.register; spare = b.spare }

pub no_58_answered : ¬ Installer (λ c h. count (installed c h))
unfolding lifecycle_of
no_58_answered =
    let s = (new_boots Lifecycle.Prod 58).new_succeeds (omega arith) (omega arith) in
    differs (λ c h. count (installed c h)) 1 new sized (λ b. answered b.answer) 58 0 (ap (λ (b : Installed). answered (count b).answer) s)
    (ap (λ (b : Installed). answered b.answer) s) (λ e. omega (arith, e))

-- 59 alerts needed
abbrev choosy : ℕ → Handler → Installed
choosy c h = cond (valid h && ltb h.n 59) (barred h FewAlerts) (installed c h)

pub no_59_needed : ¬ Installer choosy
unfolding lifecycle_of new_handler
no_59_needed =
    let s = (new_boots Lifecycle.Prod 58).new_succeeds (omega arith) (omega arith) in
    differs choosy 1 new sized (λ b. refusal_of_law b.answer) 13 0 (ap (λ (t : Bool). refusal_of_law (cond (t && ltb 58 59) (barred new FewAlerts) (installed 1 new)).answer) good)
    (ap (λ (b : Installed). refusal_of_law b.answer) s) (λ e. omega (arith, e))

-- ── what stands after it ──

-- names what is computed of a list of registers
unfoldable lists : ℕ → ℕ
unfolding sound unnamed unguarded ahead free plan_of parts_to alert_entries class_entries lock_entries class_lock mark_at number_of bits read_only guard locked value stage_in new_handler
lists n = n

-- a boot by other registers
abbrev boot_of : (Lifecycle → List Entry) → ℕ → Handler → Installed
boot_of plan c h =
    cond (valid h) (cond (ltb h.n 58) (barred h FewAlerts) (install (under h) (asks (plan (lifecycle_of c)))).reached) (barred h BadState)

-- after it each of them holds its value
module _ (plan : Lifecycle → List Entry) (c : ℕ) (k : sound 58 (plan (lifecycle_of c)) ≡ true) (f : free new (plan (lifecycle_of c)) ≡ true)
    (a : (j : ℕ) → j < 4 → ahead j (plan (lifecycle_of c)) ≡ true) where
  held : (e : Entry) → Among e (plan (lifecycle_of c)) → value (boot_of plan c new).handler e.register ≡ e.value
  unfolding new_handler
  held e m =
      ap (λ (t : Bool). value (cond t (cond (ltb 58 58) (barred new FewAlerts) (install (under new) (asks (plan (lifecycle_of c)))).reached) (barred new BadState)).handler e.register) good
      ∙ (install_holds new (plan (lifecycle_of c)) good k (install_succeeds new (plan (lifecycle_of c)) good k f (λ j l. inr (a j l))) e m).0

by_class : (P : ℕ → Type 0) → P 0 → P 1 → P 2 → P 3 → (j : ℕ) → j < 4 → P j
by_class P a b c d zero l = a
by_class P a b c d (suc zero) l = b
by_class P a b c d (suc (suc zero)) l = c
by_class P a b c d (suc (suc (suc zero))) l = d
by_class P a b c d (suc (suc (suc (suc j)))) l = absurd (omega arith)

-- alert 31 as C in PROD
abbrev as_c : Lifecycle → List Entry
as_c l = take 62 (plan_of l) ++ (entry (Alert Field.Class 31) 2 ∷ drop 63 (plan_of l))

after_c : value (boot_of as_c 1 new).handler (Alert Field.Class 31) ≡ 2
unfolding lists lifecycle_of
after_c =
    held as_c 1 refl refl (by_class (λ j. ahead j (as_c Lifecycle.Prod) ≡ true) refl refl refl refl) (entry (Alert Field.Class 31) 2)
    (among_right (take 62 (plan_of Lifecycle.Prod)) here)

stands_b : value (installed 1 new).handler (Alert Field.Class 31) ≡ 1
unfolding lists lifecycle_of
stands_b =
    let s = (new_boots Lifecycle.Prod 58).new_succeeds (omega arith) (omega arith) in
    ((boots Lifecycle.Prod new).stands (record { register = ap (λ (b : Installed). b.register) s; answer = ap (λ (b : Installed). b.answer) s })).class 31 (omega arith)

pub no_alert_31_as_c : ¬ Installer (boot_of as_c)
no_alert_31_as_c = differs (boot_of as_c) 1 new sized (λ b. value b.handler (Alert Field.Class 31)) 2 1 after_c stands_b (λ e. omega (arith, e))

-- class A locked in DEV
abbrev locks_dev : Lifecycle → List Entry
locks_dev Lifecycle.Raw = plan_of Lifecycle.Raw
locks_dev Lifecycle.Prod = plan_of Lifecycle.Prod
locks_dev Lifecycle.ProdEnd = plan_of Lifecycle.ProdEnd
locks_dev Lifecycle.Dev = plan_of Lifecycle.Dev ++ (entry (Block Setting.Regwen 0) 0 ∷ [])
locks_dev Lifecycle.Rma = plan_of Lifecycle.Rma
locks_dev Lifecycle.Scrap = plan_of Lifecycle.Scrap

after_dev : value (boot_of locks_dev 3 new).handler (Block Setting.Regwen 0) ≡ 0
unfolding lists lifecycle_of
after_dev =
    held locks_dev 3 refl refl (by_class (λ j. ahead j (locks_dev Lifecycle.Dev) ≡ true) refl refl refl refl) (entry (Block Setting.Regwen 0) 0)
    (among_right (plan_of Lifecycle.Dev) here)

free_dev : value (installed 3 new).handler (Block Setting.Regwen 0) ≡ 1
unfolding lists lifecycle_of
free_dev = (boots Lifecycle.Dev new).unlocked.classes 0 (omega arith) refl

pub no_lock_in_dev : ¬ Installer (boot_of locks_dev)
no_lock_in_dev = differs (boot_of locks_dev) 3 new sized (λ b. value b.handler (Block Setting.Regwen 0)) 0 1 after_dev free_dev (λ e. omega (arith, e))

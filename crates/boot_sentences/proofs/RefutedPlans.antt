-- Wrong boots that the sentences refuse, as theorems: what is put where.
-- Assumes nothing.
use Prim.Native.Nat.{ℕ}
use mathlib.Core.Path.{refl}
use mathlib.Core.Bool.{cond}
use mathlib.Core.List.{List, ◌∷◌, ◌++◌}
use native.Mathlib.Omega.{arith}
use lib.Dec.{eqb, ltb}
use lib.ListN.{get_or, take, drop}
use Rattle.policy.specs.Install.{Ask, asked, write, read}
use Rattle.policy.specs.Plan.{boot, lifecycle_of}
use Rattle.policy.specs.declared.Installed.{Installed}
use Rattle.policy.specs.declared.Lifecycle.{Lifecycle}
use Rattle.rules.specs.State.{reset_class, class_at}
use Rattle.rules.specs.declared.Handler.{Handler}
use Rattle.boot_sentences.specs.Boots.{Installer}
use Rattle.boot_sentences.proofs.BootScenes.{boot_by, right, boots, differs_in}

-- alert 0 as D in PROD, where alert 1 is locked: CLASS of alert 0 in the state reached
abbrev as_d : ℕ → List Ask
as_d c = write 768 3 ∷ write 768 3 ∷ read 768 3 ∷ drop 3 (right c)

pub no_alert_0_as_d : ¬ Installer (boot_by asked as_d)
unfolding boots
no_alert_0_as_d = differs_in (boot_by asked as_d) 1 58 1 0 0 reset_class 0 refl (λ b. get_or b.handler.alerts.class 0 9) 3 2 refl refl (λ e. omega (arith, e))

-- X as EN 0 alone, CLASS not written
abbrev en_alone : ℕ → List Ask
en_alone c = cond (eqb c 0) (drop 3 (right c)) (right c)

pub no_x_without_class : ¬ Installer (boot_by asked en_alone)
unfolding boots
no_x_without_class = differs_in (boot_by asked en_alone) 0 58 0 0 0 reset_class 0 refl (λ b. b.register) 512 768 refl refl (λ e. omega (arith, e))

-- EN before CLASS, where alert 0 is locked
abbrev en_first : ℕ → List Ask
en_first c = take 3 (drop 3 (right c)) ++ (take 3 (right c) ++ drop 6 (right c))

pub no_en_before_class : ¬ Installer (boot_by asked en_first)
unfolding boots
no_en_before_class = differs_in (boot_by asked en_first) 1 58 0 0 0 reset_class 0 refl (λ b. b.register) 512 768 refl refl (λ e. omega (arith, e))

-- class A's lock, of PROD's 474 accesses the last two, before all settings: its REGWEN in the state reached
abbrev lock_first : ℕ → List Ask
lock_first c = drop 472 (right c) ++ take 472 (right c)

pub no_lock_before_settings : ¬ Installer (boot_by asked lock_first)
unfolding boots
no_lock_before_settings =
    differs_in (boot_by asked lock_first) 1 58 0 0 0 reset_class 0 refl (λ b. (class_at b.handler 0).regwen) 0 1 refl refl (λ e. omega (arith, e))

-- a number over 5 as RAW/TEST, where a stage of 0 is open at CLASS of alert 0 and alert 1 is locked
abbrev as_raw : ℕ → Handler → Installed
as_raw c h = boot (cond (ltb 5 c) Lifecycle.Raw (lifecycle_of c)) h

pub no_six_as_raw : ¬ Installer as_raw
unfolding boots
no_six_as_raw = differs_in as_raw 6 58 1 0 1 reset_class 0 refl (λ b. b.register) 769 768 refl refl (λ e. omega (arith, e))

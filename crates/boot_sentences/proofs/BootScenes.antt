-- What the refutations of wrong boots share: states from which a boot stops soon, boots by other accesses or by another turn, and how a difference refutes.
-- Assumes nothing.
use Prim.Native.Nat.{ℕ, zero, suc, ◌<◌}
use mathlib.Core.Path.{◌≡◌, refl, sym, ap, ◌∙◌}
use mathlib.Core.Bool.{cond}
use mathlib.Core.List.{List, [], ◌∷◌}
use native.Mathlib.Omega.{arith}
use lib.Dec.{ltb}
use lib.ListN.{length, set, replicate, length-set}
use Rattle.class_rules.specs.declared.Class.{Class}
use Rattle.laws.proofs.Map.Cases.{by_field}
use Rattle.policy.specs.Install.{Ask, under, asked, ask, install, asks_of, asks}
use Rattle.policy.specs.Plan.{alert_entries, class_entries, lock_entries, class_lock, parts_to, plan_of, barred, boot, lifecycle_of}
use Rattle.policy.specs.Table.{mark_at}
use Rattle.policy.specs.declared.Bar.TheVariants.{BadState, FewAlerts}
use Rattle.policy.specs.declared.Installed.{Installed}
use Rattle.policy.specs.Progress.{Progress}
use Rattle.rules.proofs.Scenes.{rules}
use Rattle.rules.specs.State.{new_handler, reset_class, no_stages, with_alerts, with_classes, with_locals, with_stages}
use Rattle.rules.specs.Valid.{valid}
use Rattle.rules.specs.declared.Handler.{Handler}
use Rattle.sentences.specs.AccessArrays.{Sized}
use Rattle.sentences.specs.Raw.{alert_list, local_list, class_of, stages_of}
use Rattle.boot_sentences.specs.Boots.{Installer}
use Rattle.boot_sentences.proofs.HoldsBoots.{installed, holds_installer}
use Rattle.boot_sentences.proofs.OnlyBoots.{only_installer}

-- ── states ──

-- n alerts, alert i locked, every alert's EN e, a stage open at CLASS of alert 0 (s is the value plus 1, or 0 for none), class A as a says, and EN of the local alerts l
unfoldable pub scene : ℕ → ℕ → ℕ → ℕ → Class → ℕ → Handler
scene n i e s a l =
    with_alerts (record { regwen = set (replicate 248 1) i 0; en = replicate 248 e; class = replicate 248 0; cause = replicate 248 0 })
    (with_locals (record { regwen = replicate 7 1; en = replicate 7 l; class = replicate 7 0; cause = replicate 7 0 })
    (with_classes (a ∷ reset_class ∷ reset_class ∷ reset_class ∷ [])
    (with_stages (record { classes = no_stages.classes; alerts = record { en = replicate 248 0; class = set (replicate 248 0) 0 s }; locals = no_stages.locals; timeout = 0 })
    (new_handler n))))

pub sized_scene : (n i e s : ℕ) (a : Class) (l : ℕ) → length a.lengths ≡ 4 → Sized (scene n i e s a l)
unfolding scene new_handler
sized_scene n i e s a l w =
    record {
      alerts = by_field (λ f. length (alert_list (scene n i e s a l) f) ≡ 248) (length-set (replicate 248 1) i 0) refl refl refl;
      locals = by_field (λ f. length (local_list (scene n i e s a l) f) ≡ 7) refl refl refl refl;
      classes = refl;
      lengths = lengths;
      alert_en = refl;
      alert_class = refl;
      local_en = refl;
      local_class = refl;
      stages = refl;
      stage_lengths = stage_lengths;
    }
  where
    lengths : (k : ℕ) → k < 4 → length (class_of (scene n i e s a l) k).lengths ≡ 4
    lengths zero m = w
    lengths (suc zero) m = refl
    lengths (suc (suc zero)) m = refl
    lengths (suc (suc (suc zero))) m = refl
    lengths (suc (suc (suc (suc k)))) m = absurd (omega arith)

    stage_lengths : (k : ℕ) → k < 4 → length (stages_of (scene n i e s a l) k).lengths ≡ 4
    stage_lengths zero m = refl
    stage_lengths (suc zero) m = refl
    stage_lengths (suc (suc zero)) m = refl
    stage_lengths (suc (suc (suc zero))) m = refl
    stage_lengths (suc (suc (suc (suc k)))) m = absurd (omega arith)

-- ── boots ──

unfoldable pub along : (Handler → Ask → Progress) → Progress → List Ask → Progress
along f s [] = s
along f s (a ∷ xs) = along f (cond s.going (f s.reached.handler a) s) xs

-- by the turn f and the accesses xs of a lifecycle's number
unfoldable pub boot_by : (Handler → Ask → Progress) → (ℕ → List Ask) → ℕ → Handler → Installed
boot_by f xs c h = cond (valid h) (cond (ltb h.n 58) (barred h FewAlerts) (along f (under h) (xs c)).reached) (barred h BadState)

-- the policy's accesses
abbrev pub right : ℕ → List Ask
right c = asks (plan_of (lifecycle_of c))

-- names what the refutations compute with
unfoldable pub boots : ℕ → ℕ
unfolding rules scene along boot_by asked ask install asks_of asks alert_entries class_entries lock_entries class_lock parts_to plan_of boot mark_at lifecycle_of
boots n = n

-- ── a difference ──

-- by `only_installer` and `holds_installer` an installer gives what the policy's boot gives; where f gives something else, it is none
pub differs : (f : ℕ → Handler → Installed) (c : ℕ) (h : Handler) → Sized h → (view : Installed → ℕ) (x y : ℕ) → view (f c h) ≡ x → view (installed c h) ≡ y
    → ¬ (x ≡ y) → ¬ Installer f
differs f c h s view x y a b d p = d (sym a ∙ ap view (only_installer f installed p holds_installer c h s) ∙ b)

pub differs_in : (f : ℕ → Handler → Installed) (c n i e s : ℕ) (a : Class) (l : ℕ) → length a.lengths ≡ 4 → (view : Installed → ℕ) (x y : ℕ)
    → view (f c (scene n i e s a l)) ≡ x → view (installed c (scene n i e s a l)) ≡ y → ¬ (x ≡ y) → ¬ Installer f
differs_in f c n i e s a l w view x y = differs f c (scene n i e s a l) (sized_scene n i e s a l w) view x y

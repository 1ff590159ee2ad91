-- Which locks any boot leaves as they were. "its REGWEN and those of alerts marked A, never X, are locked, only in PROD and PROD_END"
-- Assumes nothing.
use Prim.Native.Nat.{ℕ}
use mathlib.Core.Path.{◌≡◌, refl, sym, ap, ◌∙◌}
use mathlib.Core.Bool.{Bool, true, false, ◌&&◌, ◌||◌}
use borrow.Author.Tests.{lt-ltb}
use Rattle.bits.proofs.IndexLaws.{and-true, true_and, all_at}
use Rattle.bits.specs.Index.{all_to}
use Rattle.rules.specs.Map.{number_of}
use Rattle.rules.specs.State.{class_count}
use Rattle.rules.specs.declared.Field.{Field}
use Rattle.rules.specs.declared.Handler.{Handler}
use Rattle.rules.specs.declared.Register.TheVariants.{Alert, Block}
use Rattle.rules.specs.declared.Setting.{Setting}
use Rattle.policy.specs.Plan.{alert_entries, class_entries, lock_entries, class_lock, parts_to, plan_of, boot}
use Rattle.policy.specs.Sound.{unnamed}
use Rattle.boot_laws.specs.Stands.{locks_alert, locks_class, Unlocked}
use Rattle.policy.specs.Table.{alert_count, mark_at}
use Rattle.policy.specs.declared.Lifecycle.{Lifecycle}
use Rattle.boot_laws.proofs.After.{boot_untouched}

-- the plan names no other lock
abbrev spares_alert : Lifecycle → ℕ → Bool
spares_alert l i = locks_alert l i || unnamed (Alert Field.Regwen i) (plan_of l)

abbrev spares_class : Lifecycle → ℕ → Bool
spares_class l k = locks_class l k || unnamed (Block Setting.Regwen k) (plan_of l)

plan_spares : (l : Lifecycle) → (all_to (spares_alert l) alert_count && all_to (spares_class l) class_count) ≡ true
unfolding all_to unnamed plan_of parts_to alert_entries class_entries lock_entries class_lock mark_at number_of
plan_spares Lifecycle.Raw = refl
plan_spares Lifecycle.Prod = refl
plan_spares Lifecycle.ProdEnd = refl
plan_spares Lifecycle.Dev = refl
plan_spares Lifecycle.Rma = refl
plan_spares Lifecycle.Scrap = refl

other : (a b : Bool) → (a || b) ≡ true → a ≡ false → b ≡ true
other a b e f = sym (ap (λ (c : Bool). c || b) f) ∙ e

-- of every boot, one that stops, and one that does not begin
pub boot_unlocked : (l : Lifecycle) (h : Handler) → Unlocked l h (boot l h).handler
boot_unlocked l h =
    record {
      alerts = λ i b m f.
          let u = all_at (spares_alert l) alert_count (and-true (all_to (spares_alert l) alert_count) _ (plan_spares l)).0 i b in
          (boot_untouched l h).values (Alert Field.Regwen i) (lt-ltb i h.n m) (other (locks_alert l i) _ u f) refl;
      classes = λ k b f.
          let u = all_at (spares_class l) class_count (and-true (all_to (spares_alert l) alert_count) _ (plan_spares l)).1 k b in
          (boot_untouched l h).values (Block Setting.Regwen k) (true_and (lt-ltb k class_count b) refl) (other (locks_class l k) _ u f) refl;
    }

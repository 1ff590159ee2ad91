-- A state that holds a content: what each of its registers holds.
-- Assumes nothing.
use Prim.Native.Nat.{ℕ, ◌≤◌, ◌<◌}
use mathlib.Core.Path.{◌≡◌, refl, ap, ◌∙◌}
use mathlib.Core.Bool.{Bool, true, ◌&&◌}
use native.Mathlib.Omega.{arith}
use borrow.Author.Tests.{ltb-true}
use lib.Dec.{ltb}
use lib.ListN.{get_or}
use Rattle.bits.specs.Index.{each}
use Rattle.bits.proofs.IndexLaws.{and-true, at_each}
use Rattle.laws.specs.InMap.{in_map}
use Rattle.laws.proofs.Map.Cases.{by_kind, by_single, by_field, by_setting, never}
use Rattle.rules.specs.Access.{value, setting_value}
use Rattle.rules.specs.Map.{is_lock, is_shadowed}
use Rattle.rules.specs.Stages.{stage_in, stage, setting_stage, no_class_stages}
use Rattle.rules.specs.State.{most, local_count, class_count, class_at}
use Rattle.rules.specs.declared.Field.{Field}
use Rattle.rules.specs.declared.Register.{Register}
use Rattle.rules.specs.declared.Register.TheVariants.{Only, Local, Alert, Block}
use Rattle.rules.specs.declared.Setting.{Setting}
use Rattle.rules.specs.declared.Setting.TheVariants.{Ctrl, ClrRegwen, AccumThresh, TimeoutCyc, PhaseCyc}
use Rattle.dump_rules.specs.Shown.{Shown, is_cause}
use Rattle.dump_laws.specs.Holding.{cause_of, lock_of, code_of, class_holding, class_stages_holding, holding}

module _ (s : Shown) (m : s.n ≤ most) where
  -- entry i of a list of entries
  local_at : (f : ℕ → ℕ) (j : ℕ) → ltb j local_count ≡ true → get_or (each local_count f) j 0 ≡ f j
  local_at f j a = at_each local_count f j 0 (ltb-true j local_count a)

  alert_at : (f : ℕ → ℕ) (i : ℕ) → ltb i s.n ≡ true → get_or (each most f) i 0 ≡ f i
  alert_at f i a = let l : i < s.n = ltb-true i s.n a in at_each most f i 0 (omega arith)

  pub class_at_law : (k : ℕ) → k < class_count → class_at (holding s) k ≡ class_holding s k
  unfolding holding
  class_at_law k l = at_each class_count (class_holding s) k _ l

  -- ── causes and locks ──

  abbrev Caused : Register → Type 0
  Caused q = in_map s.n q ≡ true → is_cause q ≡ true → value (holding s) q ≡ cause_of s q

  pub held_cause : (q : Register) → Caused q
  unfolding value holding
  held_cause =
      by_kind Caused (λ o a. never)
      (λ f j. by_field (λ f. Caused (Local f j)) (λ a. never) (λ a. never) (λ a. never) (λ a e. local_at (λ j. cause_of s (Local Field.Cause j)) j a) f)
      (λ f i. by_field (λ f. Caused (Alert f i)) (λ a. never) (λ a. never) (λ a. never) (λ a e. alert_at (λ i. cause_of s (Alert Field.Cause i)) i a) f)
      (λ t k a. never) (λ a. never)

  abbrev Locked : Register → Type 0
  Locked q = in_map s.n q ≡ true → is_lock q ≡ true → value (holding s) q ≡ lock_of s q

  block_value : (t : Setting) (k : ℕ) (b : Bool) → (ltb k class_count && b) ≡ true → value (holding s) (Block t k) ≡ setting_value t (class_holding s k)
  unfolding value
  block_value t k b a = ap (setting_value t) (class_at_law k (ltb-true k class_count (and-true (ltb k class_count) b a).0))

  pub held_lock : (q : Register) → Locked q
  unfolding value holding is_lock
  held_lock =
      by_kind Locked (by_single (λ o. Locked (Only o)) (λ a. never) (λ a. never) (λ a. never) (λ a e. refl) (λ a. never) (λ a. never))
      (λ f j. by_field (λ f. Locked (Local f j)) (λ a e. local_at (λ j. lock_of s (Local Field.Regwen j)) j a) (λ a. never) (λ a. never) (λ a. never) f)
      (λ f i. by_field (λ f. Locked (Alert f i)) (λ a e. alert_at (λ i. lock_of s (Alert Field.Regwen i)) i a) (λ a. never) (λ a. never) (λ a. never) f)
      (λ t k. by_setting (λ t. Locked (Block t k)) (λ a e. block_value Setting.Regwen k true a) (λ a. never) (λ a e. block_value ClrRegwen k true a)
      (λ a. never) (λ a. never) (λ a. never) (λ a. never) (λ p a. never) (λ a. never) (λ a. never) t)
      (λ a. never)

  -- ── stages ──

  abbrev Staged : Register → Type 0
  Staged q = in_map s.n q ≡ true → is_shadowed q ≡ true → stage (holding s) q ≡ code_of s q

  block_stage : (t : Setting) (k : ℕ) (b : Bool) → (ltb k class_count && b) ≡ true → stage (holding s) (Block t k) ≡ setting_stage t (class_stages_holding s k)
  unfolding stage_in holding
  block_stage t k b a = ap (setting_stage t) (at_each class_count (class_stages_holding s) k no_class_stages (ltb-true k class_count (and-true (ltb k class_count) b a).0))

  length_stage : (p k : ℕ) → in_map s.n (Block (PhaseCyc p) k) ≡ true → stage (holding s) (Block (PhaseCyc p) k) ≡ code_of s (Block (PhaseCyc p) k)
  length_stage p k a =
      block_stage (PhaseCyc p) k (ltb p 4) a
      ∙ at_each 4 (λ p. code_of s (Block (PhaseCyc p) k)) p 0 (ltb-true p 4 (and-true (ltb k class_count) (ltb p 4) a).1)

  pub held_stage : (q : Register) → Staged q
  unfolding stage_in holding is_shadowed
  held_stage =
      by_kind Staged (by_single (λ o. Staged (Only o)) (λ a. never) (λ a. never) (λ a. never) (λ a. never) (λ a e. refl) (λ a. never))
      (λ f j. by_field (λ f. Staged (Local f j)) (λ a. never) (λ a e. local_at (λ j. code_of s (Local Field.En j)) j a)
      (λ a e. local_at (λ j. code_of s (Local Field.Class j)) j a) (λ a. never) f)
      (λ f i. by_field (λ f. Staged (Alert f i)) (λ a. never) (λ a e. alert_at (λ i. code_of s (Alert Field.En i)) i a)
      (λ a e. alert_at (λ i. code_of s (Alert Field.Class i)) i a) (λ a. never) f)
      (λ t k. by_setting (λ t. Staged (Block t k)) (λ a. never) (λ a e. block_stage Ctrl k true a) (λ a. never) (λ a. never) (λ a. never)
      (λ a e. block_stage AccumThresh k true a) (λ a e. block_stage TimeoutCyc k true a) (λ p a e. length_stage p k a) (λ a. never) (λ a. never) t)
      (λ a. never)

-- What the plan has, entry by entry.
-- Assumes nothing.
use Prim.Native.Nat.{ℕ, zero, suc, ◌<◌}
use mathlib.Core.Path.{◌≡◌, subst}
use mathlib.Core.Bool.{true}
use mathlib.Core.List.{List, [], ◌∷◌, ◌++◌}
use native.Mathlib.Omega.{arith}
use native.Mathlib.Decide.{ℕ_discrete}
use Rattle.rules.specs.State.{class_count}
use Rattle.rules.specs.declared.Field.{Field}
use Rattle.rules.specs.declared.Register.TheVariants.{Alert, Block}
use Rattle.rules.specs.declared.Setting.{Setting}
use Rattle.rules.specs.declared.Setting.TheVariants.{PhaseCyc}
use Rattle.policy.specs.Install.{Entry}
use Rattle.policy.specs.Plan.{is_a, locks, length_of, entry, alert_entries, class_entries, lock_entries, class_lock, parts_to, plan_of}
use Rattle.boot_laws.specs.Ran.{Among}
use Rattle.boot_laws.specs.Ran.Among.{here, there}
use Rattle.policy.specs.Table.{alert_count, mark_at}
use Rattle.policy.specs.declared.Lifecycle.{Lifecycle}

pub among_left : {e : Entry} {es : List Entry} (fs : List Entry) → Among e es → Among e (es ++ fs)
among_left fs here = here
among_left fs (there m) = there (among_left fs m)

pub among_right : {e : Entry} (es : List Entry) {fs : List Entry} → Among e fs → Among e (es ++ fs)
among_right [] m = m
among_right (x ∷ es) m = there (among_right es m)

-- part i of n
among_part : {e : Entry} (f : ℕ → List Entry) (n i : ℕ) → i < n → Among e (f i) → Among e (parts_to f n)
unfolding parts_to
among_part f zero i h m = absurd (omega arith)
among_part {e} f (suc n) i h m = go (ℕ_discrete i n) (λ (l : i < n). among_part f n i l m)
  where
    go : Dec (i ≡ n) → (i < n → Among e (parts_to f n)) → Among e (parts_to f n ++ f n)
    go (yes z) r = among_right (parts_to f n) (subst (λ (j : ℕ). Among e (f j)) z m)
    go (no z) r = among_left (f n) (r (omega arith))

module _ (l : Lifecycle) where
  pub has_length : (k p : ℕ) → p < 4 → Among (entry (Block (PhaseCyc p) k) (length_of k p)) (class_entries l k)
  unfolding class_entries
  has_length k zero h = there (there here)
  has_length k (suc zero) h = there (there (there here))
  has_length k (suc (suc zero)) h = there (there (there (there here)))
  has_length k (suc (suc (suc zero))) h = there (there (there (there (there here))))
  has_length k (suc (suc (suc (suc p)))) h = absurd (omega arith)

  -- the parts of the plan
  pub alert_part : (e : Entry) (i : ℕ) → i < alert_count → Among e (alert_entries l i) → Among e (plan_of l)
  unfolding plan_of
  alert_part e i b m = among_left _ (among_part (alert_entries l) alert_count i b m)

  pub class_part : (e : Entry) (k : ℕ) → k < class_count → Among e (class_entries l k) → Among e (plan_of l)
  unfolding plan_of
  class_part e k b m = among_right (parts_to (alert_entries l) alert_count) (among_left _ (among_part (class_entries l) class_count k b m))

  pub lock_part : (i : ℕ) → i < alert_count → locks l ≡ true → is_a (mark_at l i) ≡ true → Among (entry (Alert Field.Regwen i) 0) (plan_of l)
  unfolding plan_of lock_entries
  lock_part i b t a =
      among_right (parts_to (alert_entries l) alert_count)
      (among_right (parts_to (class_entries l) class_count) (among_left _ (among_part (lock_entries l) alert_count i b (rw (t, a) here))))

  pub last_part : locks l ≡ true → Among (entry (Block Setting.Regwen 0) 0) (plan_of l)
  unfolding plan_of class_lock
  last_part t =
      among_right (parts_to (alert_entries l) alert_count)
      (among_right (parts_to (class_entries l) class_count) (among_right (parts_to (lock_entries l) alert_count) (rw t here)))

-- What the state holds by index after a store and after the samples.
-- Assumes nothing.
use Prim.Native.Nat.{ℕ, ◌<◌}
use mathlib.Core.Path.{◌≡◌, refl, ap, ◌∙◌}
use mathlib.Core.Bool.{Bool, true, false, cond, ◌&&◌}
use mathlib.Core.List.{List}
use borrow.Author.Tests.{eqb-true}
use lib.Dec.{eqb}
use lib.ListN.{get_or}
use Rattle.bits.proofs.IndexLaws.{at_each}
use Rattle.rules.specs.Access.{single_value, store, field_stored}
use Rattle.rules.specs.Samples.{sampled, alert_event, occurs, marked}
use Rattle.rules.specs.State.{most, local_count, field_index, local, alert, local_column, alert_column, put}
use Rattle.rules.specs.declared.Field.{Field}
use Rattle.rules.specs.declared.Handler.{Handler}
use Rattle.rules.specs.declared.Heard.{Heard}
use Rattle.rules.specs.declared.Interrupts.{Interrupts}
use Rattle.rules.specs.declared.Register.TheVariants.{Local, Alert}
use Rattle.rules.specs.declared.Single.{Single}
use Rattle.rules.specs.declared.Timer.{Timer}
use Rattle.laws.specs.Columns.{same_field}
use Rattle.laws.proofs.Map.Cases.{by_single}
use Rattle.laws.proofs.State.ColumnLaws.{at_put, field_eq, local_column_law, alert_column_law}

-- ── the four fields ──

pub same_field_law : (f g : Field) → same_field f g ≡ true → f ≡ g
same_field_law f g e = field_eq f g (eqb-true (field_index f) (field_index g) e)

-- ── a store: what is written at i, and all else as it was ──

-- an entry of a column that is anew if b
pub column_put : (b : Bool) (n : ℕ) (xs ys : List ℕ) (i v j : ℕ) → j < n → (b ≡ true → xs ≡ ys) → get_or (cond b (put n xs 0 i v) ys) j 0 ≡ cond (b && eqb j i) v (get_or ys j 0)
column_put true n xs ys i v j h e = at_put n xs 0 i j h v ∙ ap (λ (zs : List ℕ). cond (eqb j i) v (get_or zs j 0)) (e refl)
column_put false n xs ys i v j h e = refl

module _ (h : Handler) (f : Field) (i v : ℕ) (g : Field) (j : ℕ) where
  -- register g of local alert j after a write to register f of local alert i
  pub local_store : j < local_count → local (store h (Local f i) v) g j ≡ cond (same_field f g && eqb j i) (field_stored f (local h f i) v) (local h g j)
  unfolding store
  local_store l =
      ap (λ (xs : List ℕ). get_or xs j 0) (local_column_law f g (put local_count (local_column f h.locals) 0 i (field_stored f (local h f i) v)) h.locals)
      ∙ column_put (same_field f g) local_count (local_column f h.locals) (local_column g h.locals) i (field_stored f (local h f i) v) j l
      (λ e. ap (λ (k : Field). local_column k h.locals) (same_field_law f g e))

  -- register g of alert j after a write to register f of alert i
  pub alert_store : j < most → alert (store h (Alert f i) v) g j ≡ cond (same_field f g && eqb j i) (field_stored f (alert h f i) v) (alert h g j)
  unfolding store
  alert_store l =
      ap (λ (xs : List ℕ). get_or xs j 0) (alert_column_law f g (put most (alert_column f h.alerts) 0 i (field_stored f (alert h f i) v)) h.alerts)
      ∙ column_put (same_field f g) most (alert_column f h.alerts) (alert_column g h.alerts) i (field_stored f (alert h f i) v) j l
      (λ e. ap (λ (k : Field). alert_column k h.alerts) (same_field_law f g e))

-- ── the registers that there is one of ──

-- one holds what the interrupts and the ping timer hold
pub single_same : (g h : Handler) → g.interrupts ≡ h.interrupts → g.timer ≡ h.timer → (p : Single) → single_value p g ≡ single_value p h
single_same g h i t =
    by_single (λ p. single_value p g ≡ single_value p h) (ap (λ (x : Interrupts). x.state) i) (ap (λ (x : Interrupts). x.enable) i) refl
    (ap (λ (x : Timer). x.regwen) t) (ap (λ (x : Timer). x.timeout) t) (ap (λ (x : Timer). x.enable) t)

-- ── the samples: CAUSE is set where there is an event, and all else is as it was ──

module _ (g : Handler) (v : Heard) where
  -- register f of alert i
  pub alert_sampled : (f : Field) (i : ℕ) → i < most → alert (sampled g v) f i ≡ marked (same_field Field.Cause f && alert_event g v i) (alert g f i)
  unfolding sampled
  alert_sampled Field.Regwen i l = refl
  alert_sampled Field.En i l = refl
  alert_sampled Field.Class i l = refl
  alert_sampled Field.Cause i l = at_each most (λ j. marked (alert_event g v j) (alert g Field.Cause j)) i 0 l

  -- register f of local alert i
  pub local_sampled : (f : Field) (i : ℕ) → i < local_count → local (sampled g v) f i ≡ marked (same_field Field.Cause f && occurs g v i) (local g f i)
  unfolding sampled
  local_sampled Field.Regwen i l = refl
  local_sampled Field.En i l = refl
  local_sampled Field.Class i l = refl
  local_sampled Field.Cause i l = at_each local_count (λ j. marked (occurs g v j) (local g Field.Cause j)) i 0 l

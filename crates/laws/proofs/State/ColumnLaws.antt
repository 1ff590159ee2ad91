-- What a store changes, by index: a list's entry, a column of the alerts, a class's block.
-- Assumes nothing.
use Prim.Native.Nat.{ℕ, zero, suc, ◌+◌, ◌<◌}
use mathlib.Core.Path.{◌≡◌, refl, sym, ap, ◌∙◌, subst}
use mathlib.Core.Bool.{Bool, true, false, cond, ◌&&◌}
use mathlib.Core.List.{List}
use borrow.Author.Tests.{eqb-true, ltb-true}
use lib.Dec.{eqb}
use lib.ListN.{get_or}
use Rattle.bits.proofs.IndexLaws.{at_each}
use Rattle.class_rules.specs.Class.{phase_cyc}
use Rattle.class_rules.specs.declared.Class.{Class}
use Rattle.rules.specs.Access.{field_stored, setting_value, with_setting}
use Rattle.rules.specs.Map.{offset}
use Rattle.rules.specs.State.{field_index, local_column, alert_column, with_local_column, with_alert_column, put}
use Rattle.rules.specs.declared.Alerts.{Alerts}
use Rattle.rules.specs.declared.Field.{Field}
use Rattle.rules.specs.declared.Locals.{Locals}
use Rattle.rules.specs.declared.Setting.{Setting}
use Rattle.laws.specs.InMap.{setting_exists}
use Rattle.laws.specs.RegisterFile.{setting_stored}
use Rattle.laws.proofs.Map.Cases.{by_setting, cond_same}

-- ── an entry of a list ──

module _ {A : Type 0} (n : ℕ) (xs : List A) (d : A) (i j : ℕ) (h : j < n) where
  -- entry j, with v put at i
  pub at_put : (v : A) → get_or (put n xs d i v) j d ≡ cond (eqb j i) v (get_or xs j d)
  unfolding put
  at_put v = at_each n (λ m. cond (eqb m i) v (get_or xs m d)) j d h

  -- an entry made of the old one
  pub at_changed : (f : A → A) → get_or (put n xs d i (f (get_or xs i d))) j d ≡ cond (eqb j i) (f (get_or xs j d)) (get_or xs j d)
  at_changed f = at_put (f (get_or xs i d)) ∙ go (eqb j i) refl
    where
      go : (b : Bool) → eqb j i ≡ b → cond b (f (get_or xs i d)) (get_or xs j d) ≡ cond b (f (get_or xs j d)) (get_or xs j d)
      go true e = ap (λ (m : ℕ). f (get_or xs m d)) (sym (eqb-true j i e))
      go false e = refl

-- ── a column of the alerts ──

-- the field of an index, and back
field_at : ℕ → Field
field_at zero = Field.Regwen
field_at (suc zero) = Field.En
field_at (suc (suc zero)) = Field.Class
field_at (suc (suc (suc m))) = Field.Cause

field_at_law : (f : Field) → field_at (field_index f) ≡ f
unfolding field_at
field_at_law Field.Regwen = refl
field_at_law Field.En = refl
field_at_law Field.Class = refl
field_at_law Field.Cause = refl

-- fields of one index are one
pub field_eq : (f g : Field) → field_index f ≡ field_index g → f ≡ g
field_eq f g e = sym (field_at_law f) ∙ ap field_at e ∙ field_at_law g

-- a column of the local alerts, once that of field f is x
pub local_column_law : (f g : Field) (x : List ℕ) (l : Locals)
    → local_column g (with_local_column f x l) ≡ cond (eqb (field_index f) (field_index g)) x (local_column g l)
local_column_law f Field.Regwen x l = refl
local_column_law f Field.En x l = refl
local_column_law f Field.Class x l = refl
local_column_law f Field.Cause x l = refl

-- the same of the alerts
pub alert_column_law : (f g : Field) (x : List ℕ) (a : Alerts)
    → alert_column g (with_alert_column f x a) ≡ cond (eqb (field_index f) (field_index g)) x (alert_column g a)
alert_column_law f Field.Regwen x a = refl
alert_column_law f Field.En x a = refl
alert_column_law f Field.Class x a = refl
alert_column_law f Field.Cause x a = refl

-- of columns by field, that of field f with v stored at j
pub column_stored : (column : Field → List ℕ) (n : ℕ) (f g : Field) (j i v : ℕ) → i < n
    → get_or (cond (eqb (field_index f) (field_index g)) (put n (column f) 0 j (field_stored f (get_or (column f) j 0) v)) (column g)) i 0
    ≡ cond (eqb (field_index f) (field_index g) && eqb i j) (field_stored g (get_or (column g) i 0) v) (get_or (column g) i 0)
column_stored column n f g j i v l = go (eqb (field_index f) (field_index g)) refl
  where
    go : (b : Bool) → eqb (field_index f) (field_index g) ≡ b
        → get_or (cond b (put n (column f) 0 j (field_stored f (get_or (column f) j 0) v)) (column g)) i 0
        ≡ cond (b && eqb i j) (field_stored g (get_or (column g) i 0) v) (get_or (column g) i 0)
    go true e =
        subst
        (λ (x : Field). get_or (put n (column f) 0 j (field_stored f (get_or (column f) j 0) v)) i 0
        ≡ cond (eqb i j) (field_stored x (get_or (column x) i 0) v) (get_or (column x) i 0))
        (field_eq f g (eqb-true (field_index f) (field_index g) e)) (at_changed n (column f) 0 j i l (λ old. field_stored f old v))
    go false e = refl

-- ── a class's block ──

-- the length of phase p
pub length_stored : (s : Setting) (v : ℕ) (c : Class) (p : ℕ) → p < 4
    → phase_cyc (with_setting s v c) p ≡ cond (eqb (offset s) (7 + p)) v (phase_cyc c p)
length_stored s v c p l = at_each 4 (λ p. cond (eqb (offset s) (7 + p)) v (phase_cyc c p)) p 0 l

-- register t of the block, once v is stored at s
pub setting_value_law : (s t : Setting) (v : ℕ) (c : Class) → setting_exists t ≡ true
    → setting_value t (with_setting s v c) ≡ cond (eqb (offset s) (offset t)) (setting_stored t (setting_value t c) v) (setting_value t c)
setting_value_law s t v c =
    by_setting (λ t. setting_exists t ≡ true → setting_value t (with_setting s v c) ≡ cond (eqb (offset s) (offset t)) (setting_stored t (setting_value t c) v) (setting_value t c))
    (λ e. refl) (λ e. refl) (λ e. refl) (λ e. cond_same (eqb (offset s) 3) 0) (λ e. cond_same (eqb (offset s) 4) c.accum) (λ e. refl) (λ e. refl)
    (λ p e. length_stored s v c p (ltb-true p 4 e)) (λ e. cond_same (eqb (offset s) 11) c.count) (λ e. cond_same (eqb (offset s) 12) c.state) t

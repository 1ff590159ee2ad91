-- Step 1 of two runs that differ in the tenant's accesses alone: what the owner's class depends on beside its block stays equal.
-- Assumes nothing.
use Prim.Native.Nat.{ℕ, ◌≤◌, ◌<◌}
use mathlib.Core.Path.{◌≡◌, refl, sym, ap, ◌∙◌}
use mathlib.Core.Logic.{◌⊎◌, inl, inr}
use mathlib.Core.Bool.{Bool, true, false, not}
use native.Mathlib.Omega.{arith}
use borrow.Author.Tests.{lt-ltb, not-true}
use Rattle.bits.specs.Bits.{bit}
use Rattle.bits.proofs.IndexLaws.{and-true}
use Rattle.laws.proofs.Samples.Receivers.{acted_receiver}
use Rattle.laws.proofs.Map.Named.{named_is, committed_target, alert_target}
use Rattle.laws.proofs.Access.RegisterFile.{acted_n}
use Rattle.laws.proofs.Stages.StageFile.{in_most, stage_other}
use Rattle.laws.specs.RegisterFile.{target, new_value, commits}
use Rattle.laws.specs.StageFile.{names}
use Rattle.rules.specs.Access.{value, named, acted}
use Rattle.rules.specs.Map.{decode, field_row}
use Rattle.rules.specs.Stages.{stage}
use Rattle.rules.specs.State.{most, alert}
use Rattle.rules.specs.declared.Access.{Access}
use Rattle.rules.specs.declared.Access.TheVariants.{Nothing, Read, Write, Malformed}
use Rattle.rules.specs.declared.Field.{Field}
use Rattle.rules.specs.declared.Handler.{Handler}
use Rattle.rules.specs.declared.Register.{Register}
use Rattle.rules.specs.declared.Register.TheVariants.{Only, Alert}
use Rattle.rules.specs.declared.Single.TheVariants.{IntrState, IntrEnable}
use Rattle.isolation.specs.Owner.{may_name, leaves_bits, by_tenant}
use Rattle.isolation.specs.OwnAccess.{changes_state, changes_enable}
use Rattle.isolation.proofs.Shared.{Shared, f_small, still, same_view, new_bit, new_enable, same_staged}
use Rattle.isolation.proofs.TickEqual.{changed}

-- ── the tenant's access ──

module _ (k : ℕ) (his : ℕ → Bool) (h : Handler) (x : Access) (t : by_tenant k his h x ≡ true) where
  parts : (may_name k his (named h x) ≡ true) × (leaves_bits k h x ≡ true)
  parts = and-true (may_name k his (named h x)) (leaves_bits k h x) t

  pub may_name_law : may_name k his (named h x) ≡ true
  may_name_law = parts.0

  -- it leaves both bits
  leaves_state : changes_state h x k ≡ false
  leaves_state = not-true (changes_state h x k) (and-true (not (changes_state h x k)) (not (changes_enable h x k)) parts.1).0

  leaves_enable : changes_enable h x k ≡ false
  leaves_enable = not-true (changes_enable h x k) (and-true (not (changes_state h x k)) (not (changes_enable h x k)) parts.1).1

  module _ (d : Field) (i : ℕ) (m : h.n ≤ most) (l : i < h.n) (e : his i ≡ false) where
    -- it names no register of an alert that is not his
    other_named : names h x (Alert d i) ≡ false
    other_named = go (names h x (Alert d i)) refl
      where
        go : (b : Bool) → names h x (Alert d i) ≡ b → b ≡ false
        go true c = sym may_name_law ∙ ap (may_name k his) (named_is h (Alert d i) m (lt-ltb i h.n l) x c) ∙ e
        go false c = refl

    -- nor changes one
    other_kept : commits h x (Alert d i) ≡ false
    other_kept = by x may_name_law
      where
        wrote : (r v : ℕ) → may_name k his (decode h.n r) ≡ true → (b : Bool) → commits h (Write r v) (Alert d i) ≡ b → b ≡ false
        wrote r v a true c =
            sym a ∙ ap (may_name k his) (alert_target d i (decode h.n r) (committed_target h (Alert d i) m (lt-ltb i h.n l) r v c)) ∙ e
        wrote r v a false c = refl

        by : (y : Access) → may_name k his (named h y) ≡ true → commits h y (Alert d i) ≡ false
        by Nothing a = refl
        by (Read r) a = refl
        by (Write r v) a = wrote r v a (commits h (Write r v) (Alert d i)) refl
        by Malformed a = refl

-- ── both runs ──

module _ (k : ℕ) (his : ℕ → Bool) (g f : Handler) (s : Shared k his g f) (l : k < 4) (x y : Access)
    (w : (x ≡ y) ⊎ ((by_tenant k his g x ≡ true) × (by_tenant k his f y ≡ true))) where
  fields_acted : (d : Field) (i : ℕ) → his i ≡ false → i < g.n → (field_row d).moves ≡ false → alert (acted g x) d i ≡ alert (acted f y) d i
  unfolding value
  fields_acted d i e j u = go w
    where
      new : (q : Register) (v : ℕ) → target q ≡ Alert d i → new_value q (alert g d i) v ≡ new_value q (alert f d i) v
      new q v t = ap (λ (o : ℕ). new_value q o v) (s.fields d i e j u)

      go : (x ≡ y) ⊎ ((by_tenant k his g x ≡ true) × (by_tenant k his f y ≡ true)) → alert (acted g x) d i ≡ alert (acted f y) d i
      go (inl c) =
          same_view k his g f s (λ o. o) (Alert d i) (lt-ltb i g.n j) (ap not e) (s.fields d i e j u) new x ∙ ap (λ (z : Access). alert (acted f z) d i) c
      go (inr t) =
          still k his g f s (λ o. o) (Alert d i) (lt-ltb i g.n j) (ap not e) (s.fields d i e j u) x y (other_kept k his g x t.0 d i s.small j e)
          (other_kept k his f y t.1 d i (f_small k his g f s) (omega (arith, s.n)) e)

  stages_acted : (d : Field) (i : ℕ) → his i ≡ false → i < g.n → stage (acted g x) (Alert d i) ≡ stage (acted f y) (Alert d i)
  stages_acted d i e j = go w
    where
      kept : (h : Handler) (z : Access) → h.n ≤ most → i < h.n → by_tenant k his h z ≡ true → stage (acted h z) (Alert d i) ≡ stage h (Alert d i)
      kept h z m b t = stage_other h m (Alert d i) (in_most h.n (Alert d i) m (lt-ltb i h.n b)) z (other_named k his h z t d i m b e)

      go : (x ≡ y) ⊎ ((by_tenant k his g x ≡ true) × (by_tenant k his f y ≡ true)) → stage (acted g x) (Alert d i) ≡ stage (acted f y) (Alert d i)
      go (inl c) = same_staged k his g f s d i e j x ∙ ap (λ (z : Access). stage (acted f z) (Alert d i)) c
      go (inr t) = kept g x s.small j t.0 ∙ s.stages d i e j ∙ sym (kept f y (f_small k his g f s) (omega (arith, s.n)) t.1)

  bit_acted : bit (acted g x).interrupts.state k ≡ bit (acted f y).interrupts.state k
  unfolding value
  bit_acted = go w
    where
      go : (x ≡ y) ⊎ ((by_tenant k his g x ≡ true) × (by_tenant k his f y ≡ true)) → bit (acted g x).interrupts.state k ≡ bit (acted f y).interrupts.state k
      go (inl c) =
          same_view k his g f s (λ o. bit o k) (Only IntrState) refl refl s.bit_k (new_bit k his g f s l) x ∙ ap (λ (z : Access). bit (acted f z).interrupts.state k) c
      go (inr t) = changed _ _ _ _ s.bit_k (leaves_state k his g x t.0 ∙ sym (leaves_state k his f y t.1))

  enable_acted : bit (acted g x).interrupts.enable k ≡ bit (acted f y).interrupts.enable k
  unfolding value
  enable_acted = go w
    where
      go : (x ≡ y) ⊎ ((by_tenant k his g x ≡ true) × (by_tenant k his f y ≡ true)) → bit (acted g x).interrupts.enable k ≡ bit (acted f y).interrupts.enable k
      go (inl c) =
          same_view k his g f s (λ o. bit o k) (Only IntrEnable) refl refl s.enable_k (new_enable k his g f s) x ∙ ap (λ (z : Access). bit (acted f z).interrupts.enable k) c
      go (inr t) = changed _ _ _ _ s.enable_k (leaves_enable k his g x t.0 ∙ sym (leaves_enable k his f y t.1))

  pub shared_acted : Shared k his (acted g x) (acted f y)
  shared_acted =
      record {
        small = omega (arith, s.small, acted_n g x);
        n = acted_n g x ∙ s.n ∙ sym (acted_n f y);
        fields = λ d i e m u. fields_acted d i e (omega (arith, acted_n g x)) u;
        stages = λ d i e m. stages_acted d i e (omega (arith, acted_n g x));
        receivers = λ i e m. acted_receiver g x i ∙ s.receivers i e (omega (arith, acted_n g x)) ∙ sym (acted_receiver f y i);
        bit_k = bit_acted;
        enable_k = enable_acted;
      }

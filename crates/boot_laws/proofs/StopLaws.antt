-- Boots that stop at a lock: a second one in PROD or PROD_END, and one where class A alone is locked.
-- Assumes nothing.
use Prim.Native.Nat.{ℕ, ◌+◌, ◌≤◌}
use mathlib.Core.Path.{◌≡◌, refl, sym, ap, ◌∙◌, subst}
use mathlib.Core.Logic.{inr}
use mathlib.Core.Bool.{Bool, true, false, false≢true, cond, not, ◌&&◌}
use mathlib.Core.List.{List, [], ◌∷◌, ◌++◌}
use native.Mathlib.Omega.{arith}
use borrow.Author.Tests.{eq-eqb}
use lib.Dec.{eqb}
use lib.IntN.{negsuc}
use lib.ListN.{drop}
use Rattle.bits.proofs.IndexLaws.{and-true, true_and}
use Rattle.laws.proofs.Access.Locks.{guard_in_map}
use Rattle.laws.proofs.Access.Written.{guard_still, locked_same, new_unlocked, new_valid}
use Rattle.laws.specs.InMap.{in_map}
use Rattle.rules.specs.Access.{value, locked}
use Rattle.rules.specs.Map.{number_of, is_lock, is_shadowed, guard}
use Rattle.rules.specs.Stages.{stage}
use Rattle.rules.specs.State.{most, class_count, new_handler}
use Rattle.rules.specs.Valid.{valid}
use Rattle.rules.specs.declared.Field.{Field}
use Rattle.rules.specs.declared.Handler.{Handler}
use Rattle.rules.specs.declared.Register.{Register}
use Rattle.rules.specs.declared.Register.TheVariants.{Alert, Block}
use Rattle.rules.specs.declared.Setting.{Setting}
use Rattle.rules.specs.declared.Setting.TheVariants.{AccumThresh}
use Rattle.policy.specs.Install.{Entry, under, install, asks}
use Rattle.policy.specs.Plan.{is_a, locks, entry, alert_entries, class_entries, lock_entries, class_lock, parts_to, plan_of, boot}
use Rattle.boot_laws.specs.Ran.{Among}
use Rattle.boot_laws.specs.Ran.Among.{here, there}
use Rattle.policy.specs.Sound.{unnamed, unguarded, installable, sound, ahead, free}
use Rattle.boot_laws.specs.Stands.{Success}
use Rattle.policy.specs.Table.{alert_count, mark_at}
use Rattle.policy.specs.declared.Installed.{Installed}
use Rattle.policy.specs.declared.Lifecycle.{Lifecycle}
use Rattle.boot_laws.proofs.AskLaws.{Kept, install_kept}
use Rattle.boot_laws.proofs.After.{boot_stands}
use Rattle.boot_laws.proofs.Boot.{plan_fits, begins, new_succeeds}
use Rattle.boot_laws.proofs.InstallLaws.{sound_fit, install_frame}
use Rattle.boot_laws.proofs.Members.{among_left, among_right}
use Rattle.policy.proofs.PlanLaws.{plan_ahead}
use Rattle.boot_laws.proofs.Stops.{stops_locked}

-- ── what a test says of a list it says of its beginning ──

unnamed_start : (o : Register) (es fs : List Entry) → unnamed o (es ++ fs) ≡ true → unnamed o es ≡ true
unfolding unnamed
unnamed_start o [] fs u = refl
unnamed_start o (e ∷ es) fs u = let a = and-true (not (eqb (number_of e.register) (number_of o))) (unnamed o (es ++ fs)) u in true_and a.0 (unnamed_start o es fs a.1)

unguarded_start : (o : Register) (es fs : List Entry) → unguarded o (es ++ fs) ≡ true → unguarded o es ≡ true
unfolding unguarded
unguarded_start o [] fs u = refl
unguarded_start o (e ∷ es) fs u = let a = and-true (not (eqb (number_of (guard e.register)) (number_of o))) (unguarded o (es ++ fs)) u in true_and a.0 (unguarded_start o es fs a.1)

sound_start : (n : ℕ) (es fs : List Entry) → sound n (es ++ fs) ≡ true → sound n es ≡ true
unfolding sound
sound_start n [] fs k = refl
sound_start n (e ∷ es) fs k =
    let a = and-true (installable n e) _ k in
    let b = and-true (unnamed e.register (es ++ fs)) _ a.1 in
    let c = and-true (unguarded e.register (es ++ fs)) (sound n (es ++ fs)) b.1 in
    true_and a.0
    (true_and (unnamed_start e.register es fs b.0) (true_and (unguarded_start e.register es fs c.0) (sound_start n es fs c.1)))

ahead_start : (k : ℕ) (es fs : List Entry) → ahead k (es ++ fs) ≡ true → ahead k es ≡ true
unfolding ahead
ahead_start k [] fs a = refl
ahead_start k (e ∷ es) fs a =
    go (eqb (number_of e.register) (number_of (Block AccumThresh k))) (eqb (number_of e.register) (number_of (Block Setting.Regwen k))) a
    (λ x. ahead_start k es fs x)
  where
    go : (b c : Bool) → cond b true (cond c false (ahead k (es ++ fs))) ≡ true → (ahead k (es ++ fs) ≡ true → ahead k es ≡ true)
        → cond b true (cond c false (ahead k es)) ≡ true
    go true c x f = refl
    go false true x f = x
    go false false x f = f x

-- ── a plan whose entry e is locked, and none before it ──

module _ (l : Lifecycle) (h : Handler) (t : valid h ≡ true) (a : alert_count ≤ h.n) (es : List Entry) (e : Entry) (fs : List Entry) (p : plan_of l ≡ es ++ (e ∷ fs)) where
  whole : sound h.n (es ++ (e ∷ fs)) ≡ true
  whole = subst (λ (xs : List Entry). sound h.n xs ≡ true) p (plan_fits l h.n a)

  pub boot_locked : free h es ≡ true → is_shadowed e.register ≡ true → is_lock e.register ≡ false → unnamed (guard e.register) es ≡ true
      → locked h e.register ≡ true → ((boot l h).register ≡ number_of e.register) × ((boot l h).answer ≡ negsuc 2)
  boot_locked f s n u y =
      subst (λ (r : Installed). (r.register ≡ number_of e.register) × (r.answer ≡ negsuc 2))
      (ap (λ (xs : List Entry). (install (under h) (asks xs)).reached) (sym p) ∙ sym (begins l h t a))
      (stops_locked h es e fs t (sound_start h.n es (e ∷ fs) whole)
      (sound_fit h.n (es ++ (e ∷ fs)) whole e (among_right es here)) f
      (λ k m. inr (ahead_start k es (e ∷ fs) (subst (λ (xs : List Entry). ahead k xs ≡ true) p (plan_ahead l k m)))) s n u y)

-- ── entries that are free ──

free_of : (h : Handler) (es : List Entry) → ((e : Entry) → Among e es → (locked h e.register ≡ false) × (stage h e.register ≡ 0)) → free h es ≡ true
unfolding free
free_of h [] f = refl
free_of h (e ∷ es) f =
    let a = f e here in
    true_and (ap not a.0)
    (true_and (ap (λ (x : ℕ). not (not (eqb x 0) && not (eqb x (e.value + 1)))) a.1) (free_of h es (λ d m. f d (there m))))

-- no entry of a plan is what guards one of these
unlocked_by : List Entry → List Entry → Bool
unlocked_by plan [] = true
unlocked_by plan (e ∷ es) = unnamed (guard e.register) plan && unlocked_by plan es

unlocked_at : (plan es : List Entry) → unlocked_by plan es ≡ true → (e : Entry) → Among e es → unnamed (guard e.register) plan ≡ true
unfolding unlocked_by
unlocked_at plan [] u e m = elim m [ ]
unlocked_at plan (d ∷ es) u e here = (and-true (unnamed (guard d.register) plan) (unlocked_by plan es) u).0
unlocked_at plan (d ∷ es) u e (there m) = unlocked_at plan es (and-true (unnamed (guard d.register) plan) (unlocked_by plan es) u).1 e m

-- REGWEN of class A is no alert's
unnamed_alerts : (l : Lifecycle) → unnamed (Block Setting.Regwen 0) (parts_to (alert_entries l) alert_count) ≡ true
unfolding unnamed parts_to alert_entries number_of
unnamed_alerts l = refl

-- ── a second boot ──

-- the entries before CLASS of alert 14, the first that is marked A, and those after it
abbrev early : Lifecycle → List Entry
early l = parts_to (alert_entries l) 14

abbrev late : Lifecycle → List Entry
late l = drop 29 (plan_of l)

abbrev class14 : Entry
class14 = entry (Alert Field.Class 14) 0

split : (l : Lifecycle) → locks l ≡ true → plan_of l ≡ early l ++ (class14 ∷ late l)
unfolding plan_of parts_to alert_entries class_entries lock_entries class_lock mark_at
split Lifecycle.Raw c = absurd (false≢true c)
split Lifecycle.Prod c = refl
split Lifecycle.ProdEnd c = refl
split Lifecycle.Dev c = absurd (false≢true c)
split Lifecycle.Rma c = absurd (false≢true c)
split Lifecycle.Scrap c = absurd (false≢true c)

early_unlocked : (l : Lifecycle) → locks l ≡ true → unlocked_by (plan_of l) (early l) ≡ true
unfolding unlocked_by unnamed plan_of parts_to alert_entries class_entries lock_entries class_lock mark_at number_of guard
early_unlocked Lifecycle.Raw c = absurd (false≢true c)
early_unlocked Lifecycle.Prod c = refl
early_unlocked Lifecycle.ProdEnd c = refl
early_unlocked Lifecycle.Dev c = absurd (false≢true c)
early_unlocked Lifecycle.Rma c = absurd (false≢true c)
early_unlocked Lifecycle.Scrap c = absurd (false≢true c)

early_unnamed : (l : Lifecycle) → locks l ≡ true → (unnamed (guard (Alert Field.Class 14)) (early l) ≡ true) × (is_a (mark_at l 14) ≡ true)
unfolding unnamed parts_to alert_entries mark_at number_of guard
early_unnamed Lifecycle.Raw c = absurd (false≢true c)
early_unnamed Lifecycle.Prod c = (refl, refl)
early_unnamed Lifecycle.ProdEnd c = (refl, refl)
early_unnamed Lifecycle.Dev c = absurd (false≢true c)
early_unnamed Lifecycle.Rma c = absurd (false≢true c)
early_unnamed Lifecycle.Scrap c = absurd (false≢true c)

-- after the boot of a new handler in PROD or PROD_END a second one stops at CLASS of alert 14, register 782, with -3
module _ (l : Lifecycle) (n : ℕ) (c : locks l ≡ true) (a : alert_count ≤ n) (b : n ≤ most) where
  abbrev new : Handler
  new = new_handler n

  abbrev h : Handler
  h = (boot l new).handler

  new_n : new.n ≡ n
  unfolding new_handler
  new_n = refl

  large : alert_count ≤ new.n
  large = subst (λ (x : ℕ). alert_count ≤ x) (sym new_n) a

  t : valid new ≡ true
  t = new_valid n (omega arith) b

  ok : Success l new
  ok = record { register = ap (λ (r : Installed). r.register) (new_succeeds l n a b); answer = ap (λ (r : Installed). r.answer) (new_succeeds l n a b) }

  k : Kept new h
  k =
      subst (λ (r : Installed). Kept new r.handler) (sym (begins l new t large))
      (install_kept new (under new) (asks (plan_of l)) (record { good = t; n = refl }))

  free_one : (e : Entry) → Among e (early l) → (locked h e.register ≡ false) × (stage h e.register ≡ 0)
  free_one e i =
      let m : Among e (plan_of l) = subst (Among e) (sym (split l c)) (among_left (class14 ∷ late l) i) in
      let f = sound_fit new.n (plan_of l) (plan_fits l new.n large) e m in
      let u = unlocked_at (plan_of l) (early l) (early_unlocked l c) e i in (
        locked_same new h e.register
            (λ r. ap (λ (x : Installed). value x.handler (guard e.register)) (begins l new t large)
            ∙ (install_frame new (plan_of l) (guard e.register) t (plan_fits l new.n large) (guard_in_map new.n e.register f.exists r)
            (guard_still e.register f.takes f.still) u).holds)
            ∙ new_unlocked n e.register b (ap (λ (x : ℕ). in_map x e.register) (sym new_n) ∙ f.exists),
        (boot_stands l new ok).unstaged e m,
      )

  pub second_boot : ((boot l h).register ≡ 782) × ((boot l h).answer ≡ negsuc 2)
  unfolding number_of is_shadowed is_lock locked guard
  second_boot =
      boot_locked l h k.good (subst (λ (x : ℕ). alert_count ≤ x) (sym k.n) large) (early l) class14 (late l) (split l c)
      (free_of h (early l) free_one) refl refl (early_unnamed l c).0
      (eq-eqb (value h (Alert Field.Regwen 14)) 0 ((boot_stands l new ok).alert_locks 14 (omega arith) c (early_unnamed l c).1))

-- ── class A alone is locked ──

-- all alerts can be written, and ACCUM_THRESH of class A, register 1285, is refused with -3
pub class_locked : (l : Lifecycle) (h : Handler) → valid h ≡ true → alert_count ≤ h.n → free h (parts_to (alert_entries l) alert_count) ≡ true
    → value h (Block Setting.Regwen 0) ≡ 0 → ((boot l h).register ≡ 1285) × ((boot l h).answer ≡ negsuc 2)
unfolding plan_of parts_to class_entries number_of is_shadowed is_lock locked guard
class_locked l h t a f z =
    boot_locked l h t a (parts_to (alert_entries l) alert_count) (entry (Block AccumThresh 0) 0)
    (drop 1 (parts_to (class_entries l) class_count ++ (parts_to (lock_entries l) alert_count ++ class_lock l))) refl f refl refl (unnamed_alerts l)
    (eq-eqb (value h (Block Setting.Regwen 0)) 0 z)

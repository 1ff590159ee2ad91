-- The boot: on a new handler of 58 alerts or more it succeeds, and register 0 with answer 0 is a success.
-- Assumes nothing.
use Prim.Native.Nat.{ℕ, zero, suc, ◌+◌, ◌≤◌, ◌<◌}
use mathlib.Core.Path.{◌≡◌, refl, sym, ap, ap₂, ◌∙◌}
use mathlib.Core.Logic.{◌⊎◌, inl, inr}
use mathlib.Core.Bool.{Bool, true, false, false≢true, cond, not, ◌&&◌}
use mathlib.Core.List.{List, [], ◌∷◌}
use native.Mathlib.Omega.{arith}
use native.Mathlib.Nat.{le_of_suc-le-suc, not-suc-le-zero}
use borrow.Author.Tests.{le-ltb, ltb-false}
use lib.Dec.{eqb, ltb}
use lib.IntN.{ℤ, pos}
use lib.ListN.{get_or, length}
use Rattle.bits.proofs.IndexLaws.{and-true, true_and}
use Rattle.laws.proofs.Valid.KeepsValid.{new_stage}
use Rattle.laws.proofs.Map.MapLaws.{number_eq}
use Rattle.laws.proofs.Stages.StageFile.{in_most}
use Rattle.laws.proofs.Valid.ValidLaws.{facts}
use Rattle.laws.proofs.Access.Written.{in_more, new_valid, new_unlocked}
use Rattle.laws.specs.InMap.{in_map}
use Rattle.laws.specs.RegisterFile.{plain}
use Rattle.rules.specs.Map.{number_of}
use Rattle.rules.specs.Stages.{stage}
use Rattle.rules.specs.State.{most, new_handler}
use Rattle.rules.specs.Valid.{valid}
use Rattle.rules.specs.declared.Handler.{Handler}
use Rattle.rules.specs.declared.Register.{Register}
use Rattle.rules.specs.declared.Register.TheVariants.{Only}
use Rattle.rules.specs.declared.Single.TheVariants.{IntrState}
use Rattle.policy.specs.Install.{Ask, Entry, under, install, asks}
use Rattle.policy.specs.Plan.{plan_of, barred, boot}
use Rattle.boot_laws.specs.Boots.{booted, Either}
use Rattle.boot_laws.specs.Ran.{no_ask, All}
use Rattle.boot_laws.specs.Ran.All.{none, more}
use Rattle.policy.specs.Sound.{unnamed, unguarded, installable, sound, free}
use Rattle.boot_laws.specs.Stands.{Success}
use Rattle.policy.specs.Table.{alert_count}
use Rattle.policy.specs.declared.Bar.TheVariants.{BadState, FewAlerts}
use Rattle.policy.specs.declared.Lifecycle.{Lifecycle}
use Rattle.policy.specs.Progress.{Progress}
use Rattle.boot_laws.proofs.AskLaws.{install_run, install_stops}
use Rattle.boot_laws.proofs.EntryLaws.{Fit}
use Rattle.boot_laws.proofs.InstallLaws.{sound_fit, all_asks}
use Rattle.policy.proofs.PlanLaws.{plan_sound, plan_ahead}
use Rattle.boot_laws.proofs.Succeeds.{install_succeeds}

-- ── success ──

-- a list for n alerts serves more
sound_more : (n m : ℕ) (es : List Entry) → n ≤ m → sound n es ≡ true → sound m es ≡ true
unfolding sound
sound_more n m [] l k = refl
sound_more n m (e ∷ es) l k =
    let a = and-true (installable n e) _ k in
    let b = and-true (in_map n e.register) _ a.0 in
    let c = and-true (unnamed e.register es) _ a.1 in
    let d = and-true (unguarded e.register es) (sound n es) c.1 in
    true_and (true_and (in_more n m e.register l b.0) b.1) (true_and c.0 (true_and d.0 (sound_more n m es l d.1)))

pub plan_fits : (l : Lifecycle) (n : ℕ) → alert_count ≤ n → sound n (plan_of l) ≡ true
plan_fits l n a = sound_more alert_count n (plan_of l) a (plan_sound l)

-- the boot begins
pub begins : (l : Lifecycle) (h : Handler) → valid h ≡ true → alert_count ≤ h.n → boot l h ≡ (install (under h) (asks (plan_of l))).reached
unfolding boot
begins l h t a =
    ap₂ (λ (x y : Bool). cond x (cond y (barred h FewAlerts) (install (under h) (asks (plan_of l))).reached) (barred h BadState)) t
    (le-ltb h.n alert_count a)

-- a boot that begins succeeds, or stopped at the first answer that is not wanted, with what that tick gave
pub boot_either : (l : Lifecycle) (h : Handler) → valid h ≡ true → alert_count ≤ h.n → Either l h
boot_either l h t a = go (install (under h) (asks (plan_of l))).going refl
  where
    go : (b : Bool) → (install (under h) (asks (plan_of l))).going ≡ b → Either l h
    go true g = inl (begins l h t a ∙ ap (λ (p : Progress). p.reached) (install_run h (asks (plan_of l)) g))
    go false g = inr (install (under h) (asks (plan_of l)), install_stops h (asks (plan_of l)) g, begins l h t a)

-- from any accepted state of 58 alerts or more in which no register of the plan is locked or has another stage open, whatever the thresholds
pub boot_succeeds : (l : Lifecycle) (h : Handler) → valid h ≡ true → alert_count ≤ h.n → free h (plan_of l) ≡ true → boot l h ≡ booted l h
boot_succeeds l h t a f =
    begins l h t a
    ∙ ap (λ (p : Progress). p.reached)
    (install_run h (asks (plan_of l)) (install_succeeds h (plan_of l) t (plan_fits l h.n a) f (λ k m. inr (plan_ahead l k m))))

-- in a new handler no entry is locked or staged
new_free : (n : ℕ) (es : List Entry) → n ≤ most → sound n es ≡ true → free (new_handler n) es ≡ true
unfolding sound free
new_free n [] l k = refl
new_free n (e ∷ es) l k =
    let a = and-true (installable n e) _ k in
    let b = and-true (in_map n e.register) _ a.0 in
    let c = and-true (unnamed e.register es) _ a.1 in
    let d = and-true (unguarded e.register es) (sound n es) c.1 in
    let s : stage (new_handler n) e.register ≡ 0 = new_stage n e.register (in_most n e.register l b.0) in
    true_and (ap not (new_unlocked n e.register l b.0))
    (true_and (ap (λ (x : ℕ). not (not (eqb x 0) && not (eqb x (e.value + 1)))) s) (new_free n es l d.1))

-- on a new handler so large it always succeeds
pub new_succeeds : (l : Lifecycle) (n : ℕ) → alert_count ≤ n → n ≤ most → boot l (new_handler n) ≡ booted l (new_handler n)
unfolding new_handler
new_succeeds l n a b = boot_succeeds l (new_handler n) (new_valid n (omega arith) b) a (new_free n (plan_of l) b (plan_fits l n a))

-- ── what a success says ──

-- no entry's number is 0
pub not_zero : (n : ℕ) (q : Register) (v : ℕ) → n ≤ most → Fit n q v → number_of q ≡ 0 → ⊥
unfolding number_of
not_zero n q v m f e = false≢true (ap plain (sym (number_eq n q (Only IntrState) m f.exists refl e)) ∙ f.takes)

all_at : {P : Ask → Type 0} (xs : List Ask) → All P xs → (i : ℕ) → i < length xs → P (get_or xs i no_ask)
all_at [] none i l = absurd (not-suc-le-zero l)
all_at (a ∷ xs) (more p ps) zero l = p
all_at (a ∷ xs) (more p ps) (suc i) l = all_at xs ps i (le_of_suc-le-suc l)

-- so what stops does so at a register that is not 0
stop_register : (l : Lifecycle) (h : Handler) → valid h ≡ true → alert_count ≤ h.n → (install (under h) (asks (plan_of l))).going ≡ false
    → (install (under h) (asks (plan_of l))).reached.register ≡ 0 → ⊥
stop_register l h t a g z =
    let s = install_stops h (asks (plan_of l)) g in
    all_at (asks (plan_of l))
    (all_asks (λ x. x.register ≡ 0 → ⊥) (plan_of l) (λ e m.
    let f = not_zero h.n e.register e.value (facts h t).n (sound_fit h.n (plan_of l) (plan_fits l h.n a) e m) in (f, f)))
    s.place s.inside (ap (λ (p : Progress). p.reached.register) (sym s.result) ∙ z)

-- the state was accepted, of 58 alerts or more, and every access got the answer that is wanted
pub record Went (l : Lifecycle) (h : Handler) : Type 0 where
  pub good : valid h ≡ true
  pub large : alert_count ≤ h.n
  pub going : (install (under h) (asks (plan_of l))).going ≡ true

pub went : (l : Lifecycle) (h : Handler) → Success l h → Went l h
unfolding boot
went l h s = outer (valid h) refl s.register s.answer
  where
    wrong : (h : Handler) (x : ℤ) → x ≡ (barred h BadState).answer ⊎ x ≡ (barred h FewAlerts).answer → x ≡ pos 0 → ⊥
    wrong h x (inl e) z = let y : ◌≡◌ {A = ℕ} 0 1 = cc in omega arith
    wrong h x (inr e) z = let y : ◌≡◌ {A = ℕ} 0 1 = cc in omega arith

    last : (t : valid h ≡ true) (a : alert_count ≤ h.n) (b : Bool) → (install (under h) (asks (plan_of l))).going ≡ b
        → (install (under h) (asks (plan_of l))).reached.register ≡ 0 → b ≡ true
    last t a true g z = refl
    last t a false g z = absurd (stop_register l h t a g z)

    inner : valid h ≡ true → (b : Bool) → ltb h.n alert_count ≡ b
        → (cond b (barred h FewAlerts) (install (under h) (asks (plan_of l))).reached).register ≡ 0
        → (cond b (barred h FewAlerts) (install (under h) (asks (plan_of l))).reached).answer ≡ pos 0 → Went l h
    inner t true e r z = absurd (wrong h (barred h FewAlerts).answer (inr refl) z)
    inner t false e r z =
        let a : alert_count ≤ h.n = ltb-false h.n alert_count e in
        record { good = t; large = a; going = last t a (install (under h) (asks (plan_of l))).going refl r }

    outer : (b : Bool) → valid h ≡ b
        → (cond b (cond (ltb h.n alert_count) (barred h FewAlerts) (install (under h) (asks (plan_of l))).reached) (barred h BadState)).register ≡ 0
        → (cond b (cond (ltb h.n alert_count) (barred h FewAlerts) (install (under h) (asks (plan_of l))).reached) (barred h BadState)).answer ≡ pos 0
        → Went l h
    outer true e r z = inner e (ltb h.n alert_count) refl r z
    outer false e r z = absurd (wrong h (barred h BadState).answer (inl refl) z)

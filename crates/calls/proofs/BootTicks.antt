-- The ticks of a boot: it leaves the state after them, and they are those up to where it stopped.
-- Assumes nothing.
use Prim.Native.Nat.{ℕ, zero, suc, ◌<◌}
use mathlib.Core.Path.{◌≡◌, refl, sym, ap, ap₂, ◌∙◌}
use mathlib.Core.Bool.{Bool, true, false, cond}
use mathlib.Core.List.{List, [], ◌∷◌}
use native.Mathlib.Nat.{le_of_suc-le-suc, not-suc-le-zero}
use native.Mathlib.Omega.{arith}
use borrow.Author.Tests.{lt-ltb, le-ltb}
use lib.Dec.{ltb}
use lib.ListN.{get_or, length, take}
use Rattle.rules.specs.Run.{run}
use Rattle.rules.specs.Tick.{ticked}
use Rattle.rules.specs.Valid.{valid}
use Rattle.rules.specs.declared.Handler.{Handler}
use Rattle.rules.specs.declared.Input.{Input}
use Rattle.policy.specs.Install.{Ask, under, stopped, asked, ask, install, asks}
use Rattle.policy.specs.Plan.{plan_of, barred, boot}
use Rattle.policy.specs.Table.{alert_count}
use Rattle.policy.specs.declared.Bar.TheVariants.{BadState, FewAlerts}
use Rattle.policy.specs.declared.Lifecycle.{Lifecycle}
use Rattle.policy.specs.Progress.{Progress}
use Rattle.boot_laws.specs.Ran
use Rattle.boot_laws.specs.Ran.{input_of, wants, reach, no_ask}
use Rattle.boot_laws.proofs.AskLaws.{asked_wanted, asked_other, asked_going, stays, was_going}
use Rattle.boot_laws.proofs.Boot.{went}
use Rattle.calls.specs.BootTicks.{ran, boot_inputs, BootRan}

-- ── a list of accesses ──

-- wherever it stops, it leaves the state after the ticks that ran
ran_run : (h : Handler) (xs : List Ask) → (install (under h) xs).reached.handler ≡ run h (ran h xs)
unfolding install ask run ran
ran_run h [] = refl
ran_run h (a ∷ xs) = go (wants h a) refl (ran_run (reach h a) xs)
  where
    go : (b : Bool) → wants h a ≡ b → (install (under (reach h a)) xs).reached.handler ≡ run (reach h a) (ran (reach h a) xs)
        → (install (under h) (a ∷ xs)).reached.handler ≡ run h (input_of a ∷ cond b (ran (reach h a) xs) [])
    go true w r = ap (λ (s : Progress). (install s xs).reached.handler) (asked_wanted h a w) ∙ r
    go false w r =
        ap (λ (s : Progress). (install s xs).reached.handler) (asked_other h a w)
        ∙ ap (λ (s : Progress). s.reached.handler) (stays (stopped a.register (ticked h (input_of a))) xs refl)

-- all of them, where every answer is wanted
ran_all : (h : Handler) (xs : List Ask) → (install (under h) xs).going ≡ true → ran h xs ≡ Ran.inputs xs
unfolding install ask ran
ran_all h [] g = refl
ran_all h (a ∷ xs) g =
    let w : wants h a ≡ true = asked_going h a (was_going (asked h a) xs g) in
    let r : ran (reach h a) xs ≡ Ran.inputs xs = ran_all (reach h a) xs (ap (λ (p : Progress). (install p xs).going) (sym (asked_wanted h a w)) ∙ g) in
    ap₂ (λ (b : Bool) (ys : List Input). input_of a ∷ cond b ys []) w r

-- those before the first answer that is not wanted, and that one
ran_some : (h : Handler) (xs : List Ask) (p : ℕ) → p < length xs
    → ((i : ℕ) → i < p → wants (run h (take i (Ran.inputs xs))) (get_or xs i no_ask) ≡ true)
    → wants (run h (take p (Ran.inputs xs))) (get_or xs p no_ask) ≡ false → ran h xs ≡ take (suc p) (Ran.inputs xs)
unfolding run ran
ran_some h [] p l e t = absurd (not-suc-le-zero l)
ran_some h (a ∷ xs) zero l e t = ap (λ (b : Bool). input_of a ∷ cond b (ran (reach h a) xs) []) t
ran_some h (a ∷ xs) (suc p) l e t =
    ap₂ (λ (b : Bool) (ys : List Input). input_of a ∷ cond b ys []) (e 0 (omega arith))
    (ran_some (reach h a) xs p (le_of_suc-le-suc l) (λ i m. e (suc i) (omega arith)) t)

-- ── a boot ──

pub boot_run : (l : Lifecycle) (h : Handler) → (boot l h).handler ≡ run h (boot_inputs l h)
unfolding boot boot_inputs run
boot_run l h = go (valid h) (ltb h.n alert_count)
  where
    go : (a b : Bool)
        → (cond a (cond b (barred h FewAlerts) (install (under h) (asks (plan_of l))).reached) (barred h BadState)).handler
        ≡ run h (cond a (cond b [] (ran h (asks (plan_of l)))) [])
    go true true = refl
    go true false = ran_run h (asks (plan_of l))
    go false true = refl
    go false false = refl

-- one that begins
begun : (l : Lifecycle) (h : Handler) → valid h ≡ true → ltb h.n alert_count ≡ false → boot_inputs l h ≡ ran h (asks (plan_of l))
unfolding boot_inputs
begun l h t a = ap₂ (λ (x y : Bool). cond x (cond y [] (ran h (asks (plan_of l)))) []) t a

pub boot_ran : (l : Lifecycle) (h : Handler) → BootRan l h
unfolding boot_inputs
boot_ran l h =
    record {
      refused_7 = λ e. ap (λ (b : Bool). cond b (cond (ltb h.n alert_count) [] (ran h xs)) []) e;
      refused_13 = λ m. few (valid h) (lt-ltb h.n 58 m);
      success = λ s. let w = went l h s in begun l h w.good (le-ltb h.n 58 w.large) ∙ ran_all h xs w.going;
      stop = λ t m s p. begun l h t (le-ltb h.n 58 m) ∙ ran_some h xs p.place p.inside p.earlier p.there;
    }
  where
    xs : List Ask
    xs = asks (plan_of l)

    few : (b : Bool) → ltb h.n alert_count ≡ true → cond b (cond (ltb h.n alert_count) [] (ran h (asks (plan_of l)))) [] ≡ []
    few true e = ap (λ (c : Bool). cond c [] (ran h (asks (plan_of l)))) e
    few false e = refl

-- A list of accesses: what holds along it, which ticks ran, and where it stopped.
-- Assumes nothing.
use Prim.Native.Nat.{ℕ, zero, suc, ◌≤◌, ◌<◌}
use mathlib.Core.Path.{◌≡◌, refl, sym, ap, ◌∙◌, subst}
use mathlib.Core.Bool.{Bool, true, false, true≢false, cond}
use mathlib.Core.List.{List, [], ◌∷◌}
use native.Mathlib.Omega.{arith}
use native.Mathlib.Nat.{le_of_suc-le-suc}
use lib.ListN.{get_or, length, take}
use Rattle.laws.proofs.Map.Cases.{pick}
use Rattle.laws.proofs.Tick.Frame.{after_n}
use Rattle.laws.proofs.Valid.KeepsValid.{ticked_valid}
use Rattle.laws.proofs.Valid.Refusal7.{ticked_handler}
use Rattle.rules.specs.Run.{run}
use Rattle.rules.specs.Tick.{ticked}
use Rattle.rules.specs.Valid.{valid}
use Rattle.rules.specs.declared.Handler.{Handler}
use Rattle.policy.specs.Install.{Ask, under, stopped, asked, ask, install}
use Rattle.boot_laws.specs.Ran.{input_of, inputs, wants, reach, no_ask, StoppedAt, All}
use Rattle.boot_laws.specs.Ran.All.{none, more}
use Rattle.policy.specs.Progress.{Progress}

-- ── one access ──

module _ (h : Handler) (a : Ask) where
  pub asked_wanted : wants h a ≡ true → asked h a ≡ under (reach h a)
  unfolding asked
  asked_wanted w = ap (λ (b : Bool). cond b (under (reach h a)) (stopped a.register (ticked h (input_of a)))) w

  pub asked_other : wants h a ≡ false → asked h a ≡ stopped a.register (ticked h (input_of a))
  unfolding asked
  asked_other w = ap (λ (b : Bool). cond b (under (reach h a)) (stopped a.register (ticked h (input_of a)))) w

  asked_reach : (asked h a).reached.handler ≡ reach h a
  unfolding asked
  asked_reach = pick (λ (s : Progress). s.reached.handler ≡ reach h a) (wants h a) _ _ (λ _. refl) (λ _. refl)

  pub asked_going : (asked h a).going ≡ true → wants h a ≡ true
  unfolding asked
  asked_going g = go (wants h a) g
    where
      go : (b : Bool) → (cond b (under (reach h a)) (stopped a.register (ticked h (input_of a)))).going ≡ true → b ≡ true
      go true x = refl
      go false x = x

-- ── what has stopped stays ──

pub stays : (s : Progress) (xs : List Ask) → s.going ≡ false → install s xs ≡ s
unfolding install ask
stays s [] g = refl
stays s (a ∷ xs) g =
    ap (λ (b : Bool). install (cond b (asked s.reached.handler a) s) xs) g ∙ stays s xs g

pub was_going : (s : Progress) (xs : List Ask) → (install s xs).going ≡ true → s.going ≡ true
was_going s xs g = go s.going refl
  where
    go : (b : Bool) → s.going ≡ b → b ≡ true
    go true x = refl
    go false x = sym x ∙ ap (λ (p : Progress). p.going) (sym (stays s xs x)) ∙ g

-- ── what each tick keeps holds at the end ──

-- wherever it stops
pub install_keeps : (I : Handler → Type 0) (xs : List Ask) → All (λ a. (h : Handler) → I h → I (reach h a)) xs → (s : Progress)
    → I s.reached.handler → I (install s xs).reached.handler
unfolding install ask
install_keeps I [] none s i = i
install_keeps I (a ∷ xs) (more p ps) s i =
    install_keeps I xs ps (ask s a)
    (pick (λ (t : Progress). I t.reached.handler) s.going _ _
    (λ _. subst I (sym (asked_reach s.reached.handler a)) (p s.reached.handler i)) (λ _. i))

-- where every access gets the answer that is wanted
pub install_goes : (I : Handler → Type 0) (xs : List Ask) → All (λ a. (h : Handler) → I h → wants h a ≡ true → I (reach h a)) xs → (h : Handler) → I h
    → (install (under h) xs).going ≡ true → I (install (under h) xs).reached.handler
unfolding install ask
install_goes I [] none h i g = i
install_goes I (a ∷ xs) (more p ps) h i g =
    let w : wants h a ≡ true = asked_going h a (was_going (asked h a) xs g) in
    let e : asked h a ≡ under (reach h a) = asked_wanted h a w in
    subst (λ (s : Progress). I (install s xs).reached.handler) (sym e)
    (install_goes I xs ps (reach h a) (p h i w) (ap (λ (s : Progress). (install s xs).going) (sym e) ∙ g))

-- .. and something besides holds before each tick
pub install_goes_by : (P I : Handler → Type 0) (xs : List Ask) → All (λ a. (h : Handler) → P h → I h → wants h a ≡ true → I (reach h a)) xs → (h : Handler) → I h
    → ((i : ℕ) → i < length xs → P (run h (take i (inputs xs)))) → (install (under h) xs).going ≡ true → I (install (under h) xs).reached.handler
unfolding install ask run
install_goes_by P I [] none h i r g = i
install_goes_by P I (a ∷ xs) (more p ps) h i r g =
    let w : wants h a ≡ true = asked_going h a (was_going (asked h a) xs g) in
    let e : asked h a ≡ under (reach h a) = asked_wanted h a w in
    subst (λ (s : Progress). I (install s xs).reached.handler) (sym e)
    (install_goes_by P I xs ps (reach h a) (p h (r 0 (omega arith)) i w) (λ n (l : n < length xs). r (suc n) (omega (arith, l)))
    (ap (λ (s : Progress). (install s xs).going) (sym e) ∙ g))

-- what each such tick keeps holds before each, and after the last
pub goes_along : (I : Handler → Type 0) (xs : List Ask) → All (λ a. (h : Handler) → I h → wants h a ≡ true → I (reach h a)) xs → (h : Handler) → I h
    → (install (under h) xs).going ≡ true → (i : ℕ) → i ≤ length xs → I (run h (take i (inputs xs)))
unfolding install ask run
goes_along I xs ps h s g zero l = s
goes_along I [] ps h s g (suc i) l = absurd (omega (arith, l))
goes_along I (a ∷ xs) (more p ps) h s g (suc i) l =
    let w : wants h a ≡ true = asked_going h a (was_going (asked h a) xs g) in
    let e : asked h a ≡ under (reach h a) = asked_wanted h a w in
    goes_along I xs ps (reach h a) (p h s w) (ap (λ (s : Progress). (install s xs).going) (sym e) ∙ g) i (omega (arith, l))

-- the answer that is wanted came in each of them
pub wanted_along : (h : Handler) (xs : List Ask) → (install (under h) xs).going ≡ true → (i : ℕ) → i < length xs
    → wants (run h (take i (inputs xs))) (get_or xs i no_ask) ≡ true
unfolding install ask run
wanted_along h [] g i l = absurd (omega (arith, l))
wanted_along h (a ∷ xs) g zero l = asked_going h a (was_going (asked h a) xs g)
wanted_along h (a ∷ xs) g (suc i) l =
    let e : asked h a ≡ under (reach h a) = asked_wanted h a (asked_going h a (was_going (asked h a) xs g)) in
    wanted_along (reach h a) xs (ap (λ (s : Progress). (install s xs).going) (sym e) ∙ g) i (omega (arith, l))

-- valid, and as many alerts
pub record Kept (h g : Handler) : Type 0 where
  pub good : valid g ≡ true
  pub n : g.n ≡ h.n

pub reach_kept : (h g : Handler) (a : Ask) → Kept h g → Kept h (reach g a)
reach_kept h g a k =
    record {
      good = ticked_valid g (input_of a) k.good;
      n = ap (λ (x : Handler). x.n) (ticked_handler g (input_of a) k.good) ∙ after_n g (input_of a) ∙ k.n;
    }

pub install_kept : (h : Handler) (s : Progress) (xs : List Ask) → Kept h s.reached.handler → Kept h (install s xs).reached.handler
install_kept h s xs k = install_keeps (Kept h) xs (all xs) s k
  where
    all : (ys : List Ask) → All (λ a. (g : Handler) → Kept h g → Kept h (reach g a)) ys
    all [] = none
    all (a ∷ ys) = more (λ g k. reach_kept h g a k) (all ys)

-- ── which ticks ran ──

-- a success is the run of all of them, with register 0 and answer 0
pub install_run : (h : Handler) (xs : List Ask) → (install (under h) xs).going ≡ true → install (under h) xs ≡ under (run h (inputs xs))
unfolding install ask run
install_run h [] g = refl
install_run h (a ∷ xs) g =
    let e : asked h a ≡ under (reach h a) = asked_wanted h a (asked_going h a (was_going (asked h a) xs g)) in
    ap (λ (p : Progress). install p xs) e ∙ install_run (reach h a) xs (ap (λ (p : Progress). (install p xs).going) (sym e) ∙ g)

-- what does not succeed stopped at the first answer that is not wanted
pub install_stops : (h : Handler) (xs : List Ask) → (install (under h) xs).going ≡ false → StoppedAt h xs (install (under h) xs)
unfolding install ask run
install_stops h [] g = absurd (true≢false g)
install_stops h (a ∷ xs) g = go (wants h a) refl (λ z. install_stops (reach h a) xs z)
  where
    later : wants h a ≡ true → StoppedAt (reach h a) xs (install (under (reach h a)) xs) → StoppedAt h (a ∷ xs) (install (under (reach h a)) xs)
    later w r =
        record {
          place = suc r.place;
          inside = omega (arith, r.inside);
          earlier = first;
          there = r.there;
          result = r.result;
        }
      where
        first : (i : ℕ) → i < suc r.place → wants (run h (take i (inputs (a ∷ xs)))) (get_or (a ∷ xs) i no_ask) ≡ true
        first zero l = w
        first (suc i) l = r.earlier i (le_of_suc-le-suc l)

    go : (b : Bool) → wants h a ≡ b
        → ((install (under (reach h a)) xs).going ≡ false → StoppedAt (reach h a) xs (install (under (reach h a)) xs))
        → StoppedAt h (a ∷ xs) (install (asked h a) xs)
    go true w r =
        let e : asked h a ≡ under (reach h a) = asked_wanted h a w in
        subst (λ (s : Progress). StoppedAt h (a ∷ xs) (install s xs)) (sym e)
        (later w (r (ap (λ (s : Progress). (install s xs).going) (sym e) ∙ g)))
    go false w r =
        let e : asked h a ≡ stopped a.register (ticked h (input_of a)) = asked_other h a w in
        record {
          place = 0;
          inside = omega arith;
          earlier = λ i (l : i < 0). absurd (omega arith);
          there = w;
          result = ap (λ (s : Progress). install s xs) e ∙ stays (stopped a.register (ticked h (input_of a))) xs refl;
        }

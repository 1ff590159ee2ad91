-- A boot that does not compare what it reads back is an installer too: with this handler what was accepted reads as it was written, so no state tells it from the boot.
-- Assumes nothing.
use Prim.Native.Nat.{ℕ}
use mathlib.Core.Path.{◌≡◌, refl, sym, ap, ◌∙◌, subst}
use mathlib.Core.Bool.{Bool, true, false, false≢true, cond, not, ◌&&◌}
use mathlib.Core.List.{List, [], ◌∷◌, ◌++◌}
use borrow.Author.Tests.{eq-eqb, ltb-false}
use lib.Dec.{eqb, ltb}
use lib.IntN.{ℤ, pos, negsuc}
use Rattle.bits.proofs.IndexLaws.{true_and}
use Rattle.boot_laws.specs.Ran.{wants, reach}
use Rattle.boot_laws.proofs.AskLaws.{asked_going, was_going, stays, reach_kept}
use Rattle.boot_laws.proofs.Boot.{plan_fits}
use Rattle.boot_laws.proofs.EntryLaws.{Fit, names_it, read_wants, Open, put_goes}
use Rattle.boot_laws.proofs.InstallLaws.{First, first, put, joined, is_under, put_kept}
use Rattle.boot_laws.proofs.QuietLaws.{wants_accepted}
use Rattle.laws.proofs.Access.Refusals.{unrefused}
use Rattle.laws.proofs.Access.Written.{after_written, shadowed_wise}
use Rattle.laws.proofs.Map.Cases.{pick, by_kind, by_single, by_field, by_setting, never}
use Rattle.laws.proofs.Valid.Refusal7.{ticked_handler}
use Rattle.laws.proofs.Valid.ValidLaws.{facts}
use Rattle.laws.specs.InMap.{in_map}
use Rattle.policy.specs.Install.{Ask, Entry, rest, is, under, stopped, asked, ask, install, write, read, asks_of, asks}
use Rattle.policy.specs.Plan.{plan_of, barred, boot, lifecycle_of}
use Rattle.policy.specs.Sound.{sound}
use Rattle.policy.specs.declared.Bar.TheVariants.{BadState, FewAlerts}
use Rattle.policy.specs.declared.Installed.{Installed}
use Rattle.policy.specs.Progress.{Progress}
use Rattle.rules.specs.Access.{value, locked, bars, unlike, is_first}
use Rattle.rules.specs.Answer.{number}
use Rattle.rules.specs.Map.{decode, number_of, is_lock, is_shadowed}
use Rattle.rules.specs.Stages.{is_open}
use Rattle.rules.specs.Tick.{ticked}
use Rattle.rules.specs.Valid.{valid}
use Rattle.rules.specs.declared.Access.{Access}
use Rattle.rules.specs.declared.Access.TheVariants.{Nothing, Read, Write, Malformed}
use Rattle.rules.specs.declared.Handler.{Handler}
use Rattle.rules.specs.declared.Register.{Register}
use Rattle.rules.specs.declared.Register.TheVariants.{Only, Local, Alert, Block}
use Rattle.boot_sentences.specs.Boots.{Installer}
use Rattle.boot_sentences.proofs.BootScenes.{along, boot_by, right}
use Rattle.boot_sentences.proofs.HoldsBoots.{installed, holds_installer}
use Rattle.boot_sentences.proofs.HoldsCourse.{goes_on, ends}

-- ── a turn that takes any value that is read ──

abbrev not_refused : ℤ → Bool
not_refused (pos n) = true
not_refused (negsuc n) = false

abbrev goes : Access → ℤ → ℕ → Bool
goes Nothing z w = is z w
goes (Read r) z w = not_refused z
goes (Write r v) z w = is z w
goes Malformed z w = is z w

unfoldable pub lax : Handler → Ask → Progress
lax h a = let t = ticked h (rest a.access) in cond (goes a.access (number t.answer) a.wanted) (under t.handler) (stopped a.register t)

goes_wanted : (x : Access) (z : ℤ) (w : ℕ) → is z w ≡ true → goes x z w ≡ true
goes_wanted Nothing z w e = e
goes_wanted (Read r) (pos n) w e = refl
goes_wanted (Read r) (negsuc n) w e = absurd (false≢true e)
goes_wanted (Write r v) z w e = e
goes_wanted Malformed z w e = e

lax_wanted : (h : Handler) (a : Ask) → wants h a ≡ true → lax h a ≡ under (reach h a)
unfolding lax
lax_wanted h a e =
    ap (λ (b : Bool). cond b (under (reach h a)) (stopped a.register (ticked h (rest a.access)))) (goes_wanted a.access (number (ticked h (rest a.access)).answer) a.wanted e)

lax_stays : (s : Progress) (xs : List Ask) → s.going ≡ false → along lax s xs ≡ s
unfolding along
lax_stays s [] g = refl
lax_stays s (a ∷ xs) g = ap (λ (b : Bool). along lax (cond b (lax s.reached.handler a) s) xs) g ∙ lax_stays s xs g

-- where every answer is the one wanted, both go on
lax_goes : (xs : List Ask) (h : Handler) → (install (under h) xs).going ≡ true → along lax (under h) xs ≡ install (under h) xs
unfolding along install ask
lax_goes [] h g = refl
lax_goes (a ∷ xs) h g =
    let y : wants h a ≡ true = asked_going h a (was_going (asked h a) xs g) in
    ap (λ (p : Progress). along lax p xs) (lax_wanted h a y)
    ∙ lax_goes xs (reach h a) (ap (λ (p : Progress). p.going) (sym (goes_on a xs h y)) ∙ g)
    ∙ sym (goes_on a xs h y)

-- a write that is refused stops both
lax_ends : (r v : ℕ) (xs : List Ask) (h : Handler) → wants h (write r v) ≡ false → along lax (under h) (write r v ∷ xs) ≡ install (under h) (write r v ∷ xs)
unfolding along lax
lax_ends r v xs h e =
    ap (λ (b : Bool). along lax (cond b (under (reach h (write r v))) (stopped r (ticked h (rest (Write r v))))) xs) e
    ∙ lax_stays (stopped r (ticked h (rest (Write r v)))) xs refl
    ∙ sym (ends (write r v) xs h e)

lax_append : (s : Progress) (xs ys : List Ask) → along lax s (xs ++ ys) ≡ along lax (along lax s xs) ys
unfolding along
lax_append s [] ys = refl
lax_append s (a ∷ xs) ys = lax_append (cond s.going (lax s.reached.handler a) s) xs ys

-- ── one register: what was accepted reads as it was written ──

shadowed_no_lock : (q : Register) → is_shadowed q ≡ true → is_lock q ≡ false
unfolding is_shadowed is_lock
shadowed_no_lock =
    by_kind P (by_single (λ o. P (Only o)) (λ e. refl) (λ e. refl) (λ e. refl) never (λ e. refl) (λ e. refl))
    (λ f j. by_field (λ f. P (Local f j)) never (λ e. refl) (λ e. refl) (λ e. refl) f)
    (λ f i. by_field (λ f. P (Alert f i)) never (λ e. refl) (λ e. refl) (λ e. refl) f)
    (λ s k. by_setting (λ s. P (Block s k)) never (λ e. refl) never (λ e. refl) (λ e. refl) (λ e. refl) (λ e. refl) (λ p e. refl) (λ e. refl)
    (λ e. refl) s) (λ e. refl)
  where
    P : Register → Type 0
    P q = is_shadowed q ≡ true → is_lock q ≡ false

module _ (h : Handler) (t : valid h ≡ true) (q : Register) (v : ℕ) (k : Fit h.n q v) where
  abbrev w : Ask
  w = write (number_of q) v

  abbrev r : Ask
  r = read (number_of q) v

  it : decode h.n (number_of q) ≡ q
  it = names_it h t q v k.exists k.takes

  -- a shadowed one whose first write is accepted is not locked and has no other stage open
  opened : wants h w ≡ true → is_shadowed q ≡ true → Open h q v
  opened y s =
      let u = unrefused h (Write (number_of q) v) (wants_accepted h w t y) in
      record {
        unlocked = free (locked h q) (ap (λ (b : Bool). locked h q && not (b && eqb v 0)) (sym (shadowed_no_lock q s)) ∙ ap (λ (x : Register). bars h x v) (sym it) ∙ u.free);
        like = ap (λ (x : Register). unlike h x v) (sym it) ∙ u.same;
        wise = shadowed_wise h q v s;
      }
    where
      free : (b : Bool) → (b && not (false && eqb v 0)) ≡ false → b ≡ false
      free true e = e
      free false e = refl

  -- one that is not shadowed holds v after its write
  committed : wants h w ≡ true → is_shadowed q ≡ false → value (reach h w) q ≡ v
  committed y s =
      ap (λ (g : Handler). value g q) (ticked_handler h (rest (Write (number_of q) v)) t)
      ∙ after_written h _ (number_of q) v q (facts h t).n it
      (true_and (wants_accepted h w t y) (ap (λ (x : Register). not (is_first h x)) it ∙ ap (λ (b : Bool). not (b && not (is_open h.stages q))) s)) k.takes k.still

  one_goes : wants h w ≡ true → is_shadowed q ≡ false → (install (under h) (w ∷ r ∷ [])).going ≡ true
  unfolding install
  one_goes y s =
      let g = reach_kept h h w (record { good = t; n = refl }) in
      let z : wants (reach h w) r ≡ true =
      read_wants (reach h w) g.good q v (ap (λ (n : ℕ). in_map n q) g.n ∙ k.exists) k.takes ∙ eq-eqb (value (reach h w) q) v (committed y s) in
      ap (λ (p : Progress). p.going) (goes_on w (r ∷ []) h y ∙ goes_on r [] (reach h w) z)

  entry_goes : wants h w ≡ true → (install (under h) (asks_of (record { register = q; value = v }))).going ≡ true
  unfolding asks_of
  entry_goes y = go (is_shadowed q) refl
    where
      go : (b : Bool) → is_shadowed q ≡ b → (install (under h) (cond (is_shadowed q) (w ∷ w ∷ r ∷ []) (w ∷ r ∷ []))).going ≡ true
      go true s = put_goes h t q v k (opened y s)
      go false s = ap (λ (b : Bool). (install (under h) (cond b (w ∷ w ∷ r ∷ []) (w ∷ r ∷ []))).going) s ∙ one_goes y s

  entry_same : along lax (under h) (asks_of (record { register = q; value = v })) ≡ install (under h) (asks_of (record { register = q; value = v }))
  unfolding asks_of
  entry_same = go (wants h w) refl
    where
      go : (b : Bool) → wants h w ≡ b → along lax (under h) (asks_of (record { register = q; value = v })) ≡ install (under h) (asks_of (record { register = q; value = v }))
      go true y = lax_goes (asks_of (record { register = q; value = v })) h (entry_goes y)
      go false y =
          pick (λ (xs : List Ask). along lax (under h) xs ≡ install (under h) xs) (is_shadowed q) (w ∷ w ∷ r ∷ []) (w ∷ r ∷ [])
          (λ _. lax_ends (number_of q) v (w ∷ r ∷ []) h y) (λ _. lax_ends (number_of q) v (r ∷ []) h y)

-- ── a list of registers ──

list_same : (es : List Entry) (h : Handler) → valid h ≡ true → sound h.n es ≡ true → along lax (under h) (asks es) ≡ install (under h) (asks es)
unfolding asks along install
list_same [] h t k = refl
list_same (e ∷ es) h t k = both ∙ go (put h e es).going refl (λ g s. list_same es g s)
  where
    f : First h.n e es
    f = first h.n e es k

    both : along lax (under h) (asks (e ∷ es)) ≡ along lax (put h e es) (asks es)
    both = lax_append (under h) (asks_of e) (asks es) ∙ ap (λ (p : Progress). along lax p (asks es)) (entry_same h t e.register e.value f.fits)

    go : (b : Bool) → (put h e es).going ≡ b
        → ((g : Handler) → valid g ≡ true → sound g.n es ≡ true → along lax (under g) (asks es) ≡ install (under g) (asks es))
        → along lax (put h e es) (asks es) ≡ install (under h) (asks (e ∷ es))
    go false g r = lax_stays (put h e es) (asks es) g ∙ sym (stays (put h e es) (asks es) g) ∙ sym (joined h e es)
    go true g r =
        let u = is_under h e es g in
        let m = put_kept h e es t in
        ap (λ (p : Progress). along lax p (asks es)) u
        ∙ r (put h e es).reached.handler m.good (ap (λ (n : ℕ). sound n es) m.n ∙ f.later)
        ∙ ap (λ (p : Progress). install p (asks es)) (sym u)
        ∙ sym (joined h e es)

-- ── the boot ──

-- by whether the state is valid and N under 58
abbrev by : Handler → Bool → Bool → Progress → Installed
by h v n p = cond v (cond n (barred h FewAlerts) p.reached) (barred h BadState)

same_boot : (c : ℕ) (h : Handler) → boot_by lax right c h ≡ installed c h
unfolding boot_by boot
same_boot c h = go (valid h) refl (ltb h.n 58) refl
  where
    go : (v : Bool) → valid h ≡ v → (n : Bool) → ltb h.n 58 ≡ n → by h v n (along lax (under h) (right c)) ≡ by h v n (install (under h) (right c))
    go false x n y = refl
    go true x true y = refl
    go true x false y = ap (λ (p : Progress). p.reached) (list_same (plan_of (lifecycle_of c)) h x (plan_fits (lifecycle_of c) h.n (ltb-false h.n 58 y)))

pub uncompared_too : Installer (boot_by lax right)
uncompared_too = subst Installer (λ i c h. sym (same_boot c h) i) holds_installer

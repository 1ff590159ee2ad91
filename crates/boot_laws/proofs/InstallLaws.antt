-- A list of registers, written and read back: when it succeeds, what then stands, and what is as before.
-- Assumes nothing.
use Prim.Native.Nat.{ℕ, ◌≤◌}
use mathlib.Core.Path.{◌≡◌, refl, sym, ap, ◌∙◌, subst}
use mathlib.Core.Bool.{Bool, true, false, true≢false, not, ◌&&◌}
use mathlib.Core.List.{List, [], ◌∷◌, ◌++◌, cons≢nil}
use borrow.Author.Tests.{eqb-false, ne_eqb, not-true}
use lib.Dec.{eqb}
use Rattle.bits.proofs.IndexLaws.{and-true, true_and}
use Rattle.laws.proofs.Map.Cases.{pick}
use Rattle.laws.proofs.Map.MapLaws.{number_eq}
use Rattle.laws.specs.Frame.{moves_itself}
use Rattle.laws.specs.InMap.{in_map}
use Rattle.rules.specs.Access.{value}
use Rattle.rules.specs.Map.{number_of, is_shadowed}
use Rattle.rules.specs.Stages.{stage}
use Rattle.rules.specs.State.{most}
use Rattle.rules.specs.Valid.{valid}
use Rattle.rules.specs.declared.Handler.{Handler}
use Rattle.rules.specs.declared.Register.{Register}
use Rattle.policy.specs.Install.{Ask, Entry, under, install, write, read, once, twice, asks_of, asks}
use Rattle.boot_laws.specs.Ran.{reach, Among, All}
use Rattle.boot_laws.specs.Ran.All.{none, more}
use Rattle.boot_laws.specs.Ran.Among.{here, there}
use Rattle.policy.specs.Sound.{unnamed, unguarded, installable, sound}
use Rattle.policy.specs.Progress.{Progress}
use Rattle.boot_laws.proofs.AskLaws.{was_going, install_keeps, Kept, reach_kept, install_kept, install_run}
use Rattle.policy.proofs.Asks.{install_append}
use Rattle.boot_laws.proofs.EntryLaws.{Fit, fit, spares, other_name, reach_value, reach_stage, Settled, put_holds}

-- ── the tests, taken apart ──

-- what the test of a list says of its first entry, and of the rest
pub record First (n : ℕ) (e : Entry) (es : List Entry) : Type 0 where
  pub fits : Fit n e.register e.value
  pub names : unnamed e.register es ≡ true
  pub guards : unguarded e.register es ≡ true
  pub later : sound n es ≡ true

pub first : (n : ℕ) (e : Entry) (es : List Entry) → sound n (e ∷ es) ≡ true → First n e es
unfolding sound
first n e es t =
    let a = and-true (installable n e) _ t in
    let b = and-true (unnamed e.register es) _ a.1 in
    let c = and-true (unguarded e.register es) (sound n es) b.1 in
    record { fits = fit n e a.0; names = b.0; guards = c.0; later = c.1 }

-- numbers that a test tells apart
pub differ : (a b : ℕ) (c : Bool) → (not (eqb a b) && c) ≡ true → (a ≡ b → ⊥) × (c ≡ true)
differ a b c t = let d = and-true (not (eqb a b)) c t in (eqb-false a b (not-true (eqb a b) d.0), d.1)

nowhere : {A : Type 0} (e : Entry) (es : List Entry) → Among e es → es ≡ [] → A
nowhere e [] m z = elim m [ ]
nowhere e (f ∷ es) here z = absurd (cons≢nil z)
nowhere e (f ∷ es) (there m) z = absurd (cons≢nil z)

-- each entry of a list
pub sound_fit : (n : ℕ) (es : List Entry) → sound n es ≡ true → (e : Entry) → Among e es → Fit n e.register e.value
sound_fit n [] k e m = nowhere e [] m refl
sound_fit n (d ∷ es) k e here = (first n d es k).fits
sound_fit n (d ∷ es) k e (there m) = sound_fit n es (first n d es k).later e m

pub unnamed_at : (o : Register) (es : List Entry) → unnamed o es ≡ true → (e : Entry) → Among e es → number_of e.register ≡ number_of o → ⊥
unfolding unnamed
unnamed_at o [] u e m = nowhere e [] m refl
unnamed_at o (d ∷ es) u e here = (differ (number_of d.register) (number_of o) (unnamed o es) u).0
unnamed_at o (d ∷ es) u e (there m) = unnamed_at o es (differ (number_of d.register) (number_of o) (unnamed o es) u).1 e m

-- a register that moves by itself is named by no entry
pub moving_unnamed : (n : ℕ) → n ≤ most → (es : List Entry) → sound n es ≡ true → (o : Register) → in_map n o ≡ true → moves_itself o ≡ true
    → unnamed o es ≡ true
unfolding unnamed
moving_unnamed n b [] k o a m = refl
moving_unnamed n b (e ∷ es) k o a m =
    let f = first n e es k in
    true_and (ap not (ne_eqb (number_of e.register) (number_of o) (λ z. true≢false (sym m ∙ ap moves_itself (sym (number_eq n e.register o b f.fits.exists a z)) ∙ f.fits.still))))
    (moving_unnamed n b es f.later o a m)

-- ── what holds of each entry's write and read holds of all accesses ──

all_append : {P : Ask → Type 0} {xs ys : List Ask} → All P xs → All P ys → All P (xs ++ ys)
all_append none q = q
all_append (more p ps) q = more p (all_append ps q)

pub all_of : (P : Ask → Type 0) (e : Entry) → P (write (number_of e.register) e.value) → P (read (number_of e.register) e.value) → All P (asks_of e)
unfolding asks_of
all_of P e w r =
    pick (All P) (is_shadowed e.register) (twice (number_of e.register) e.value) (once (number_of e.register) e.value)
    (λ _. more w (more w (more r none))) (λ _. more w (more r none))

pub all_asks : (P : Ask → Type 0) (es : List Entry)
    → ((e : Entry) → Among e es → P (write (number_of e.register) e.value) × P (read (number_of e.register) e.value)) → All P (asks es)
unfolding asks
all_asks P [] f = none
all_asks P (e ∷ es) f = let x = f e here in all_append (all_of P e x.0 x.1) (all_asks P es (λ d m. f d (there m)))

-- ── the frame: what no entry names and does not move by itself is as before, wherever it stops, its stage too ──

-- valid, as many alerts, and register o and its stage as in h
pub record Same (o : Register) (h g : Handler) : Type 0 where
  pub kept : Kept h g
  pub holds : value g o ≡ value h o
  pub staged : stage g o ≡ stage h o

pub same_start : (o : Register) (h : Handler) → valid h ≡ true → Same o h h
same_start o h t = record { kept = record { good = t; n = refl }; holds = refl; staged = refl }

module _ (h : Handler) (o : Register) (a : in_map h.n o ≡ true) (m : moves_itself o ≡ false) (q : Register) (v : ℕ) (k : Fit h.n q v)
    (d : number_of q ≡ number_of o → ⊥) where
  same_by : (x : Ask) (f : Handler) → Same o h f → ((t : valid f ≡ true) (b : in_map f.n q ≡ true) → value (reach f x) o ≡ value f o)
      → ((t : valid f ≡ true) (b : in_map f.n q ≡ true) → stage (reach f x) o ≡ stage f o) → Same o h (reach f x)
  same_by x f s p r =
      let b : in_map f.n q ≡ true = ap (λ (n : ℕ). in_map n q) s.kept.n ∙ k.exists in
      record {
        kept = reach_kept h f x s.kept;
        holds = p s.kept.good b ∙ s.holds;
        staged = r s.kept.good b ∙ s.staged;
      }

  here_too : (f : Handler) → Same o h f → in_map f.n o ≡ true
  here_too f s = ap (λ (n : ℕ). in_map n o) s.kept.n ∙ a

  pub same_write : (f : Handler) → Same o h f → Same o h (reach f (write (number_of q) v))
  same_write f s =
      same_by (write (number_of q) v) f s (λ t b. reach_value f t o (here_too f s) (write (number_of q) v) m (spares f t q v b k.takes o d))
      (λ t b. reach_stage f t o (here_too f s) (write (number_of q) v) (other_name f t q v b k.takes o d))

  pub same_read : (f : Handler) → Same o h f → Same o h (reach f (read (number_of q) v))
  same_read f s =
      same_by (read (number_of q) v) f s (λ t b. reach_value f t o (here_too f s) (read (number_of q) v) m refl)
      (λ t b. reach_stage f t o (here_too f s) (read (number_of q) v) (other_name f t q v b k.takes o d))

  -- of one register
  pub put_same : (s : Progress) → Same o h s.reached.handler → Same o h (install s (asks_of (record { register = q; value = v }))).reached.handler
  put_same s r =
      install_keeps (Same o h) (asks_of (record { register = q; value = v }))
      (all_of (λ x. (f : Handler) → Same o h f → Same o h (reach f x)) (record { register = q; value = v }) same_write same_read) s r

pub install_frame : (h : Handler) (es : List Entry) (o : Register) → valid h ≡ true → sound h.n es ≡ true → in_map h.n o ≡ true
    → moves_itself o ≡ false → unnamed o es ≡ true → Same o h (install (under h) (asks es)).reached.handler
install_frame h es o t k a m u =
    install_keeps (Same o h) (asks es)
    (all_asks (λ x. (f : Handler) → Same o h f → Same o h (reach f x)) es (λ e i.
    let f = sound_fit h.n es k e i in
    let d = unnamed_at o es u e i in
    (same_write h o a m e.register e.value f d, same_read h o a m e.register e.value f d)))
    (under h) (same_start o h t)

-- ── one register, then the others ──

module _ (h : Handler) (e : Entry) (es : List Entry) where
  abbrev pub put : Progress
  put = install (under h) (asks_of e)

  pub joined : install (under h) (asks (e ∷ es)) ≡ install put (asks es)
  unfolding asks
  joined = install_append (under h) (asks_of e) (asks es)

  pub is_under : put.going ≡ true → put ≡ under put.reached.handler
  is_under g = install_run h (asks_of e) g ∙ ap (λ (p : Progress). under p.reached.handler) (sym (install_run h (asks_of e) g))

  pub put_going : (install (under h) (asks (e ∷ es))).going ≡ true → put.going ≡ true
  put_going g = was_going put (asks es) (ap (λ (p : Progress). p.going) (sym joined) ∙ g)

  pub then : put.going ≡ true → install (under h) (asks (e ∷ es)) ≡ install (under put.reached.handler) (asks es)
  then g = joined ∙ ap (λ (p : Progress). install p (asks es)) (is_under g)

  pub put_kept : valid h ≡ true → Kept h put.reached.handler
  put_kept t = install_kept h (under h) (asks_of e) (record { good = t; n = refl })

-- after a success, from any valid state, each entry's register holds its value and has no stage open
pub install_holds : (h : Handler) (es : List Entry) → valid h ≡ true → sound h.n es ≡ true → (install (under h) (asks es)).going ≡ true
    → (e : Entry) → Among e es → Settled e.register e.value (install (under h) (asks es)).reached.handler
install_holds h [] t k g = λ e m. nowhere e [] m refl
install_holds h (d ∷ es) t k g = go (install_holds f es w.good k' g')
  where
    f : Handler
    f = (put h d es).reached.handler

    w : Kept h f
    w = put_kept h d es t

    a : First h.n d es
    a = first h.n d es k

    k' : sound f.n es ≡ true
    k' = ap (λ (n : ℕ). sound n es) w.n ∙ a.later

    y : (put h d es).going ≡ true
    y = put_going h d es g

    i : install (under h) (asks (d ∷ es)) ≡ install (under f) (asks es)
    i = then h d es y

    g' : (install (under f) (asks es)).going ≡ true
    g' = ap (λ (p : Progress). p.going) (sym i) ∙ g

    go : ((e : Entry) → Among e es → Settled e.register e.value (install (under f) (asks es)).reached.handler)
        → (e : Entry) → Among e (d ∷ es) → Settled e.register e.value (install (under h) (asks (d ∷ es))).reached.handler
    go r e here =
        let s = install_frame f es d.register w.good k' (ap (λ (n : ℕ). in_map n d.register) w.n ∙ a.fits.exists) a.fits.still a.names in
        let p = put_holds h t d.register d.value a.fits y in
        subst (λ (p : Progress). Settled d.register d.value p.reached.handler) (sym i) (s.holds ∙ p.0, s.staged ∙ p.1)
    go r e (there m) = subst (λ (p : Progress). Settled e.register e.value p.reached.handler) (sym i) (r e m)

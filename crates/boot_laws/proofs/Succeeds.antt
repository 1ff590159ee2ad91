-- A list of registers succeeds where none is locked and none has another stage open, and stops at one that is locked.
-- Assumes nothing.
use Prim.Native.Nat.{ℕ, ◌+◌, ◌<◌}
use mathlib.Core.Path.{◌≡◌, refl, sym, ap, ap₂, ◌∙◌, subst}
use mathlib.Core.Logic.{◌⊎◌, inl, inr, ⊎_elim}
use mathlib.Core.Bool.{Bool, true, false, false≢true, cond, not, and-false, ◌&&◌}
use mathlib.Core.List.{List, [], ◌∷◌}
use native.Mathlib.Omega.{arith}
use borrow.Author.Tests.{eqb-true, eqb-false, eq-eqb, ne_eqb, not-true, lt-ltb, ltb-true}
use lib.Dec.{eqb, ltb}
use Rattle.bits.proofs.IndexLaws.{and-true, true_and}
use Rattle.class_rules.specs.Class.{en}
use Rattle.laws.proofs.Map.Cases.{by_kind, by_setting}
use Rattle.laws.proofs.Access.Locks.{guard_in_map}
use Rattle.laws.proofs.Map.MapLaws.{number_eq}
use Rattle.laws.proofs.Valid.ValidLaws.{facts}
use Rattle.laws.proofs.Access.Written.{guard_still, locked_same}
use Rattle.laws.specs.Frame.{moves_itself}
use Rattle.laws.specs.InMap.{in_map}
use Rattle.rules.specs.Access.{value, locked, unlike, silly}
use Rattle.rules.specs.Map.{number_of, guard}
use Rattle.rules.specs.Stages.{stage}
use Rattle.rules.specs.State.{class_count, class_at}
use Rattle.rules.specs.Valid.{valid}
use Rattle.rules.specs.declared.Handler.{Handler}
use Rattle.rules.specs.declared.Register.{Register}
use Rattle.rules.specs.declared.Register.TheVariants.{Block}
use Rattle.rules.specs.declared.Setting.{Setting}
use Rattle.rules.specs.declared.Setting.TheVariants.{AccumThresh}
use Rattle.policy.specs.Install.{Entry, under, install, asks}
use Rattle.policy.specs.Sound.{unnamed, unguarded, sound, ahead, free}
use Rattle.policy.specs.Progress.{Progress}
use Rattle.boot_laws.proofs.AskLaws.{Kept}
use Rattle.boot_laws.proofs.EntryLaws.{put_holds, Open, put_goes}
use Rattle.boot_laws.proofs.InstallLaws.{first, differ, Same, same_start, put_same, put, then, put_kept}

-- ── refusal 14: the threshold of each class that is locked is not 65535 then ──

abbrev thresh : ℕ → Register
thresh k = Block AccumThresh k

abbrev regwen : ℕ → Register
regwen k = Block Setting.Regwen k

-- it is not now, or it is written first
abbrev pub Wise : ℕ → Handler → List Entry → Type 0
Wise k h es = (value h (thresh k) ≡ 65535 → ⊥) ⊎ (ahead k es ≡ true)

not_silly : (h : Handler) (q : Register) (v : ℕ) → ((k : ℕ) → q ≡ regwen k → value h (thresh k) ≡ 65535 → ⊥) → silly h q v ≡ false
unfolding value
not_silly h q v =
    by_kind P (λ o f. refl) (λ _ j f. refl) (λ _ i f. refl)
    (λ s k. by_setting (λ s. P (Block s k)) (λ f. own k (f k refl)) (λ f. refl) (λ f. refl) (λ f. refl) (λ f. refl) (λ f. refl) (λ f. refl)
    (λ p f. rw (ne_eqb (7 + p) 0 (λ (d : 7 + p ≡ 0). omega arith))) (λ f. refl) (λ f. refl) s) (λ f. refl) q
  where
    P : Register → Type 0
    P q = ((k : ℕ) → q ≡ regwen k → value h (thresh k) ≡ 65535 → ⊥) → silly h q v ≡ false

    own : (k : ℕ) → ((class_at h k).thresh ≡ 65535 → ⊥) → silly h (regwen k) v ≡ false
    own k f =
        ap (λ (b : Bool). eqb v 0 && (en (class_at h k) && (b && eqb (class_at h k).regwen 1))) (ne_eqb (class_at h k).thresh 65535 f)
        ∙ ap (λ (b : Bool). eqb v 0 && b) (and-false (en (class_at h k))) ∙ and-false (eqb v 0)

-- the lock of class k comes after its threshold
lock_later : (k : ℕ) (e : Entry) (es : List Entry) → e.register ≡ regwen k → ahead k (e ∷ es) ≡ true → ⊥
unfolding ahead number_of
lock_later k e es i a =
    let n : number_of e.register ≡ number_of (regwen k) = ap number_of i in
    let x : eqb (number_of e.register) (number_of (thresh k)) ≡ false =
    ne_eqb (number_of e.register) (number_of (thresh k)) (λ (d : number_of e.register ≡ number_of (thresh k)). omega arith) in
    let y : eqb (number_of e.register) (number_of (regwen k)) ≡ true = eq-eqb (number_of e.register) (number_of (regwen k)) n in
    false≢true (sym (ap₂ (λ (b c : Bool). cond b true (cond c false (ahead k es))) x y) ∙ a)

wise_first : (h : Handler) (e : Entry) (es : List Entry) → ((k : ℕ) → k < class_count → Wise k h (e ∷ es)) → in_map h.n e.register ≡ true
    → silly h e.register e.value ≡ false
wise_first h e es w a =
    not_silly h e.register e.value
    (λ k i. let l : k < class_count = ltb-true k class_count (and-true (ltb k class_count) true (ap (in_map h.n) (sym i) ∙ a)).0 in
    ⊎_elim (λ (f : value h (thresh k) ≡ 65535 → ⊥). f) (λ (f : ahead k (e ∷ es) ≡ true). λ _. lock_later k e es i f) (w k l))

-- after an entry that is no silly threshold
wise_next : (h g : Handler) (k : ℕ) (e : Entry) (es : List Entry) → eqb e.value 65535 ≡ false
    → (number_of e.register ≡ number_of (thresh k) → value g (thresh k) ≡ e.value)
    → ((number_of e.register ≡ number_of (thresh k) → ⊥) → value g (thresh k) ≡ value h (thresh k)) → Wise k h (e ∷ es) → Wise k g es
unfolding ahead
wise_next h g k e es s p r w = go (eqb (number_of e.register) (number_of (thresh k))) refl w
  where
    tail : (c : Bool) → cond c false (ahead k es) ≡ true → ahead k es ≡ true
    tail true x = absurd (false≢true x)
    tail false x = x

    go : (b : Bool) → eqb (number_of e.register) (number_of (thresh k)) ≡ b
        → (value h (thresh k) ≡ 65535 → ⊥) ⊎ (cond b true (cond (eqb (number_of e.register) (number_of (regwen k))) false (ahead k es)) ≡ true)
        → Wise k g es
    go true x y =
        inl (λ z. eqb-false e.value 65535 s (sym (p (eqb-true (number_of e.register) (number_of (thresh k)) x)) ∙ z))
    go false x (inl y) = inl (λ z. y (sym (r (eqb-false (number_of e.register) (number_of (thresh k)) x)) ∙ z))
    go false x (inr y) = inr (tail (eqb (number_of e.register) (number_of (regwen k))) y)

-- ── the locks and stages of later entries are as before ──

free_next : (h g : Handler) (q : Register) (es : List Entry) → sound h.n es ≡ true → unnamed q es ≡ true → unguarded q es ≡ true
    → ((o : Register) → in_map h.n o ≡ true → moves_itself o ≡ false → (number_of q ≡ number_of o → ⊥) → Same o h g) → free h es ≡ true
    → free g es ≡ true
unfolding free unguarded unnamed
free_next h g q [] k m u v f = refl
free_next h g q (e ∷ es) k m u v f =
    let a = first h.n e es k in
    let d = differ (number_of (guard e.register)) (number_of q) (unguarded q es) u in
    let c = differ (number_of e.register) (number_of q) (unnamed q es) m in
    let b = and-true (not (locked h e.register)) _ f in
    let y = and-true (not (unlike h e.register e.value)) (free h es) b.1 in
    let x = a.fits in
    let l : locked g e.register ≡ locked h e.register =
    locked_same h g e.register
    (λ r. (v (guard e.register) (guard_in_map h.n e.register x.exists r) (guard_still e.register x.takes x.still)
    (λ z. d.0 (sym z))).holds) in
    let s : stage g e.register ≡ stage h e.register = (v e.register x.exists x.still (λ z. c.0 (sym z))).staged in
    true_and (ap not l ∙ b.0)
    (true_and (ap (λ (w : ℕ). not (not (eqb w 0) && not (eqb w (e.value + 1)))) s ∙ y.0) (free_next h g q es a.later c.1 d.1 v y.1))

-- ── success ──

-- a list that can be installed, of registers that are not locked and have no other stage open
pub install_succeeds : (h : Handler) (es : List Entry) → valid h ≡ true → sound h.n es ≡ true → free h es ≡ true
    → ((k : ℕ) → k < class_count → Wise k h es) → (install (under h) (asks es)).going ≡ true
unfolding free install asks
install_succeeds h [] t k f w = refl
install_succeeds h (e ∷ es) t k f w =
    let q : Register = e.register in
    let g : Handler = (put h e es).reached.handler in
    let a = first h.n e es k in
    let b = and-true (not (locked h q)) _ f in
    let c = and-true (not (unlike h q e.value)) (free h es) b.1 in
    let o : Open h q e.value =
    record { unlocked = not-true (locked h q) b.0; like = not-true (unlike h q e.value) c.0; wise = wise_first h e es w a.fits.exists } in
    let y : (put h e es).going ≡ true = put_goes h t q e.value a.fits o in
    let r : Kept h g = put_kept h e es t in
    let v : (p : Register) → in_map h.n p ≡ true → moves_itself p ≡ false → (number_of q ≡ number_of p → ⊥) → Same p h g =
    λ p i m d. put_same h p i m q e.value a.fits d (under h) (same_start p h t) in
    ap (λ (p : Progress). p.going) (then h e es y)
    ∙ install_succeeds g es r.good (ap (λ (n : ℕ). sound n es) r.n ∙ a.later) (free_next h g q es a.later a.names a.guards v c.1)
    (λ j l. wise_next h g j e es a.fits.sane
    (λ z. subst (λ (p : Register). value g p ≡ e.value)
    (number_eq h.n q (thresh j) (facts h t).n a.fits.exists (true_and (lt-ltb j class_count l) refl) z)
    (put_holds h t q e.value a.fits y).0)
    (λ z. (v (thresh j) (true_and (lt-ltb j class_count l) refl) refl z).holds) (w j l))

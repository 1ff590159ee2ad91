-- Which registers are shown as causes and as locks: the tables of the sentences and the tests of the rules.
-- Assumes nothing.
use Prim.Native.Nat.{ℕ, ◌^◌, ◌≤◌, ◌<◌}
use mathlib.Core.Path.{◌≡◌, refl, sym, ap, ◌∙◌, subst}
use mathlib.Core.Logic.{◌↔◌, ◌⊎◌, inl, inr}
use mathlib.Core.Bool.{Bool, true, false, false≢true}
use native.Mathlib.Omega.{arith}
use Rattle.dump_rules.specs.Shown.{is_cause}
use Rattle.dump_rules.proofs.KindLaws.{cause_register, lock_register, lock_bit}
use Rattle.laws.proofs.Map.Cases.{by_kind, by_field}
use Rattle.laws.proofs.Map.MapLaws.{decode_in_map}
use Rattle.laws.proofs.Valid.ValidLaws.{bounded}
use Rattle.rules.specs.Access.{value}
use Rattle.rules.specs.Map.{decode, bits, is_lock}
use Rattle.rules.specs.declared.Handler.{Handler}
use Rattle.rules.specs.declared.Register.{Register}
use Rattle.rules.specs.declared.Register.TheVariants.{Local, Alert}
use Rattle.sentences.specs.AccessMap.{Names, Regwen}
use Rattle.sentences.specs.Raw.{held}
use Rattle.sentences.specs.Valid.{Valid}
use Rattle.sentences.proofs.AccessMap.{held_is}
use Rattle.sentences.proofs.AccessWays.{regwen_is}
use Rattle.sentences.proofs.HoldsValid.{holds_valid}
use Rattle.dump_sentences.specs.Contents.{Cause}
use Rattle.dump_sentences.proofs.StagedLaws.{decodes, named}

no_cause : {q : Register} → false ≡ true → Cause q
no_cause e = absurd (false≢true e)

pub cause_is : (q : Register) → (is_cause q ≡ true) ↔ Cause q
cause_is q = (to q, from q)
  where
    to : (q : Register) → is_cause q ≡ true → Cause q
    to =
        by_kind (λ q. is_cause q ≡ true → Cause q) (λ o e. no_cause e)
        (λ f j. by_field (λ f. is_cause (Local f j) ≡ true → Cause (Local f j)) no_cause no_cause no_cause (λ e. Cause.local j) f)
        (λ f i. by_field (λ f. is_cause (Alert f i) ≡ true → Cause (Alert f i)) no_cause no_cause no_cause (λ e. Cause.alert i) f)
        (λ s k e. no_cause e) no_cause

    from : (q : Register) → Cause q → is_cause q ≡ true
    from q (Cause.local j) = refl
    from q (Cause.alert i) = refl

-- ── the register of a number: one of the kind, or none of the kind has it ──

module _ (n r : ℕ) (m : n ≤ 248) (P : Register → Type 0) (t : Register → Bool) (is : (q : Register) → (t q ≡ true) ↔ P q) where
  pub none_has : t (decode n r) ≡ false → (q : Register) → Names n r q → ¬ P q
  none_has e q x p = false≢true (sym e ∙ ap t (decodes n r q m x) ∙ (is q).1 p)

pub causes_at : (n r : ℕ) → n ≤ 248 → ((q : Register) × Names n r q × Cause q) ⊎ ((q : Register) → Names n r q → ¬ Cause q)
causes_at n r m = go (is_cause (decode n r)) refl
  where
    go : (b : Bool) → is_cause (decode n r) ≡ b → ((q : Register) × Names n r q × Cause q) ⊎ ((q : Register) → Names n r q → ¬ Cause q)
    go true e = inl (decode n r, named n r (cause_register (decode n r) e), (cause_is (decode n r)).0 e)
    go false e = inr (none_has n r m Cause is_cause cause_is e)

pub locks_at : (n r : ℕ) → n ≤ 248 → ((q : Register) × Names n r q × Regwen q) ⊎ ((q : Register) → Names n r q → ¬ Regwen q)
locks_at n r m = go (is_lock (decode n r)) refl
  where
    go : (b : Bool) → is_lock (decode n r) ≡ b → ((q : Register) × Names n r q × Regwen q) ⊎ ((q : Register) → Names n r q → ¬ Regwen q)
    go true e = inl (decode n r, named n r (lock_register (decode n r) e), (regwen_is (decode n r)).0 e)
    go false e = inr (none_has n r m Regwen is_lock regwen_is e)

-- a lock holds 0 or 1
pub lock_small : (h : Handler) → Valid h → (r : ℕ) (q : Register) → Names h.n r q → Regwen q → held h q ≤ 1
lock_small h v r q x w =
    let e = decodes h.n r q v.n x in
    let i = (regwen_is q).1 w in
    let d : is_lock (decode h.n r) ≡ true = ap is_lock e ∙ i in
    let b : value h (decode h.n r) < 2 ^ bits (decode h.n r) =
    bounded h (decode h.n r) ((holds_valid h).1 v) (decode_in_map h.n r (lock_register (decode h.n r) d))
    in
    let s : value h (decode h.n r) < 2 ^ 1 = subst (λ (k : ℕ). value h (decode h.n r) < 2 ^ k) (lock_bit (decode h.n r) d) b in
    let g : value h (decode h.n r) ≡ held h q = ap (value h) e ∙ held_is h q in
    omega (arith, s, g)

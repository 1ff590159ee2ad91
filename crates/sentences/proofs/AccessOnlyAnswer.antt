-- No sentence of step 1 is missing: whatever satisfies them gives one answer, one set of effects and one verdict. Nothing here knows the rules' definitions.
-- Assumes nothing.
use mathlib.Core.Path.{◌≡◌, refl, sym, ap, ◌∙◌}
use mathlib.Core.Logic.{inl}
use mathlib.Core.Bool.{Bool, true, false, false≢true}
use lib.IntN.{ℤ, ℤ_discrete}
use Rattle.std.specs.Prelude.{Ok, Err}
use Rattle.bits.proofs.BitLaws.{bit_ext}
use Rattle.bits.specs.Bits.{bit}
use Rattle.rules.specs.declared.Access.{Access}
use Rattle.rules.specs.declared.Access.TheVariants.{Nothing, Read, Write}
use Rattle.rules.specs.declared.Effects.{Effects}
use Rattle.rules.specs.declared.Handler.{Handler}
use Rattle.rules.specs.declared.Refusal.{Refusal}
use Rattle.rules.specs.declared.Register.{Register}
use Rattle.rules.specs.Answer.{Verdict}
use Rattle.sentences.specs.Access.{Answered, Handed, Judged}
use Rattle.sentences.specs.AccessMap.{Names}
use Rattle.sentences.specs.AccessRefusals.{Reads, Malformed, NoRegister, WrongWay, TooWide, SillyThreshold, Locked, Differs, Accepted}
use Rattle.sentences.proofs.AccessCases.{both_give, both_are, no_read}
use Rattle.sentences.proofs.SentenceCases.{either, same_test}

module _ (h : Handler) (x : Access) (y z : ℤ) (a : Answered h x y) (b : Answered h x z) where
  -- accepted: a read gives what its register holds, anything else 0
  same_given : (w : Access) → x ≡ w → Accepted h x → y ≡ z
  same_given Nothing e c = a.done c (λ r d. no_read Nothing refl r (sym e ∙ d)) ∙ sym (b.done c (λ r d. no_read Nothing refl r (sym e ∙ d)))
  same_given (Read r) e c =
      either {A = (q : Register) × Names h.n r q} (ℤ_discrete y z)
      (λ s. let k : Reads h x s.0 = record { number = r; access = e; names = s.1 } in a.read s.0 c k ∙ sym (b.read s.0 c k))
      (λ none. absurd (c.1.0 (r, inl e, λ q m. none (q, m))))
  same_given (Write r v) e c =
      a.done c (λ s d. no_read (Write r v) refl s (sym e ∙ d)) ∙ sym (b.done c (λ s d. no_read (Write r v) refl s (sym e ∙ d)))
  same_given Access.Malformed e c = absurd (c.0 e)

  pub same_answer : y ≡ z
  same_answer =
      either {A = Malformed x} (ℤ_discrete y z) (both_give a.five b.five)
      (λ i. either {A = NoRegister h x} (ℤ_discrete y z) (λ c. both_give a.one b.one (i, c))
      (λ j. either {A = WrongWay h x} (ℤ_discrete y z) (λ c. both_give a.two b.two (i, (j, c)))
      (λ k. either {A = TooWide h x} (ℤ_discrete y z) (λ c. both_give a.four b.four (i, (j, (k, c))))
      (λ l. either {A = SillyThreshold h x} (ℤ_discrete y z) (λ c. both_give a.fourteen b.fourteen (i, (j, (k, (l, c)))))
      (λ m. either {A = Locked h x} (ℤ_discrete y z) (λ c. both_give a.three b.three (i, (j, (k, (l, (m, c))))))
      (λ n. either {A = Differs h x} (ℤ_discrete y z) (λ c. both_give a.twelve b.twelve (i, (j, (k, (l, (m, (n, c)))))))
      (λ o. same_given x refl (i, (j, (k, (l, (m, (n, o)))))))))))))

module _ (h : Handler) (x : Access) (d e : Effects) (a : Handed h x d) (b : Handed h x e) where
  pub same_effects : d ≡ e
  same_effects = λ i. record { clears = clears i; raises = raises i; begins = same_test d.begins e.begins a.begins b.begins i }
    where
      clears : d.clears ≡ e.clears
      clears = bit_ext 4 d.clears e.clears a.classes b.classes (λ k l. same_test (bit d.clears k) (bit e.clears k) (a.clears k l) (b.clears k l))

      raises : d.raises ≡ e.raises
      raises = bit_ext 7 d.raises e.raises a.locals b.locals (λ j l. same_test (bit d.raises j) (bit e.raises j) (a.raises j l) (b.raises j l))

-- ── the verdict ──

-- one of those that the sentences speak of
abbrev is_said : Verdict → Bool
is_said (Ok tt) = true
is_said (Err Refusal.NoRegister) = true
is_said (Err Refusal.WrongWay) = true
is_said (Err Refusal.Locked) = true
is_said (Err Refusal.TooWide) = true
is_said (Err Refusal.BadRecord) = true
is_said (Err Refusal.BadCount) = false
is_said (Err Refusal.BadState) = false
is_said (Err Refusal.BadLength) = false
is_said (Err Refusal.ShortList) = false
is_said (Err Refusal.NoRecord) = false
is_said (Err Refusal.ShortBuffer) = false
is_said (Err Refusal.Differs) = true
is_said (Err Refusal.SillyThreshold) = true

module _ (h : Handler) (x : Access) (t u : Verdict) (a : Judged h x t) (b : Judged h x u) where
  -- it is one of them
  said : (s : Verdict) → t ≡ s → is_said s ≡ false → ⊥
  said s e n =
      let i : ¬ Malformed x = λ c. other refl (a.five.1 c) in
      let j : ¬ NoRegister h x = λ c. other refl (a.one.1 (i, c)) in
      let k : ¬ WrongWay h x = λ c. other refl (a.two.1 (i, (j, c))) in
      let l : ¬ TooWide h x = λ c. other refl (a.four.1 (i, (j, (k, c)))) in
      let m : ¬ SillyThreshold h x = λ c. other refl (a.fourteen.1 (i, (j, (k, (l, c))))) in
      let o : ¬ Locked h x = λ c. other refl (a.three.1 (i, (j, (k, (l, (m, c)))))) in
      let p : ¬ Differs h x = λ c. other refl (a.twelve.1 (i, (j, (k, (l, (m, (o, c))))))) in
      other refl (a.accepted.1 (i, (j, (k, (l, (m, (o, p)))))))
    where
      other : {r : Verdict} → is_said r ≡ true → t ≡ r → ⊥
      other w d = false≢true (sym n ∙ ap is_said (sym e ∙ d) ∙ w)

  pub same_verdict : t ≡ u
  same_verdict = go t refl
    where
      go : (s : Verdict) → t ≡ s → t ≡ u
      go (Ok tt) e = both_are a.accepted b.accepted e
      go (Err Refusal.NoRegister) e = both_are a.one b.one e
      go (Err Refusal.WrongWay) e = both_are a.two b.two e
      go (Err Refusal.Locked) e = both_are a.three b.three e
      go (Err Refusal.TooWide) e = both_are a.four b.four e
      go (Err Refusal.BadRecord) e = both_are a.five b.five e
      go (Err Refusal.BadCount) e = absurd (said _ e refl)
      go (Err Refusal.BadState) e = absurd (said _ e refl)
      go (Err Refusal.BadLength) e = absurd (said _ e refl)
      go (Err Refusal.ShortList) e = absurd (said _ e refl)
      go (Err Refusal.NoRecord) e = absurd (said _ e refl)
      go (Err Refusal.ShortBuffer) e = absurd (said _ e refl)
      go (Err Refusal.Differs) e = both_are a.twelve b.twelve e
      go (Err Refusal.SillyThreshold) e = both_are a.fourteen b.fourteen e

-- The rules' answer to an access satisfies the sentences.
-- Assumes nothing.
use Prim.Native.Nat.{ℕ, zero, suc, ◌≤◌, ◌<◌}
use mathlib.Core.Path.{◌≡◌, refl, sym, ap, ◌∙◌}
use mathlib.Core.Logic.Iff
use mathlib.Core.Logic.{◌↔◌}
use native.Mathlib.Omega.{arith}
use lib.IntN.{pos, neg_ℤ, neg_ℤ-neg_ℤ}
use Rattle.std.specs.Prelude.{Ok, Err}
use Rattle.laws.proofs.Access.Step1.{answer_accepted}
use Rattle.rules.specs.Access.{value, verdict, given, accessed_by, accessed, answer_to}
use Rattle.rules.specs.Answer.{refusal_number, number, Verdict}
use Rattle.rules.specs.Map.{decode}
use Rattle.rules.specs.declared.Access.{Access}
use Rattle.rules.specs.declared.Access.TheVariants.{Nothing, Read, Write}
use Rattle.rules.specs.declared.Handler.{Handler}
use Rattle.rules.specs.declared.Register.{Register}
use Rattle.sentences.specs.Access.{Answered}
use Rattle.sentences.specs.Raw.{held}
use Rattle.sentences.specs.AccessRefusals.{Reads, Accepted}
use Rattle.sentences.proofs.AccessMap.{held_is}
use Rattle.sentences.proofs.AccessRefusals.{read_is}
use Rattle.sentences.proofs.AccessVerdict.{refusal_of, is_5, is_1, is_2, is_4, is_14, is_3, is_12, accepted_is}

-- ── the answer ──

-- negated numbers that are equal
minus_eq : (a b : ℕ) → neg_ℤ (pos a) ≡ neg_ℤ (pos b) → a ≡ b
minus_eq a b e = let i : pos a ≡ pos b = sym (neg_ℤ-neg_ℤ (pos a)) ∙ ap neg_ℤ e ∙ neg_ℤ-neg_ℤ (pos b) in cc

-- no value is a negated number
value_not : (v m : ℕ) → 0 < m → ¬ (pos v ≡ neg_ℤ (pos m))
value_not v zero l e = omega arith
value_not v (suc m) l e = let z : ◌≡◌ {A = ℕ} 0 1 = cc in omega arith

module _ (h : Handler) (x : Access) where
  -- an accepted access gives a value
  given_not : (m : ℕ) → 0 < m → ¬ (number (given h x) ≡ neg_ℤ (pos m))
  unfolding number
  given_not m l = go x
    where
      go : (y : Access) → ¬ (number (given h y) ≡ neg_ℤ (pos m))
      go Nothing = value_not 0 m l
      go (Read r) = value_not (value h (decode h.n r)) m l
      go (Write r v) = value_not 0 m l
      go Access.Malformed = value_not 0 m l

  -- a refusal gives its negated number, and only that refusal
  refusal_is : (m : ℕ) → 0 < m → (number (answer_to h x) ≡ neg_ℤ (pos m)) ↔ (refusal_of (verdict h x) ≡ m)
  unfolding answer_to accessed number
  refusal_is m l = go (verdict h x)
    where
      go : (t : Verdict) → (number (accessed_by t h x).answer ≡ neg_ℤ (pos m)) ↔ (refusal_of t ≡ m)
      go (Ok tt) = (λ e. absurd (given_not m l e), λ e. absurd (omega arith))
      go (Err r) = (minus_eq (refusal_number r) m, λ e. ap (λ (k : ℕ). neg_ℤ (pos k)) e)

  module _ (m : h.n ≤ 248) where
    accepted_answer : Accepted h x → number (answer_to h x) ≡ number (given h x)
    accepted_answer c = ap number (answer_accepted h x ((accepted_is h x m).1 c))

    read_answer : (q : Register) → Reads h x q → number (given h x) ≡ pos (held h q)
    unfolding number
    read_answer q w = ap (λ (y : Access). number (given h y)) w.access ∙ ap (λ (p : Register). pos (value h p)) (read_is h m x q w) ∙ ap pos (held_is h q)

    done_answer : ((r : ℕ) → ¬ (x ≡ Read r)) → number (given h x) ≡ pos 0
    unfolding number
    done_answer = go x
      where
        go : (y : Access) → ((r : ℕ) → ¬ (y ≡ Read r)) → number (given h y) ≡ pos 0
        go Nothing f = refl
        go (Read r) f = absurd (f r refl)
        go (Write r v) f = refl
        go Access.Malformed f = refl

    pub holds_answer : Answered h x (number (answer_to h x))
    holds_answer =
        record {
          five = Iff.trans (refusal_is 5 (omega arith)) (is_5 h x m);
          one = Iff.trans (refusal_is 1 (omega arith)) (is_1 h x m);
          two = Iff.trans (refusal_is 2 (omega arith)) (is_2 h x m);
          four = Iff.trans (refusal_is 4 (omega arith)) (is_4 h x m);
          fourteen = Iff.trans (refusal_is 14 (omega arith)) (is_14 h x m);
          three = Iff.trans (refusal_is 3 (omega arith)) (is_3 h x m);
          twelve = Iff.trans (refusal_is 12 (omega arith)) (is_12 h x m);
          read = λ q c w. accepted_answer c ∙ read_answer q w;
          done = λ c f. accepted_answer c ∙ done_answer f;
        }

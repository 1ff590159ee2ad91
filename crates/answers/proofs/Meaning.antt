-- The number of an answer: its meaning, over all answers, and negated numbers as signed 64-bit integers.
-- Assumes nothing.
use Prim.Native.Nat.{ℕ, zero, suc, ◌<◌}
use mathlib.Core.Path.{◌≡◌, refl, sym, ap, ◌∙◌}
use mathlib.Core.Bool.{cond}
use mathlib.Core.Logic.{inl, inr}
use native.Mathlib.Omega.{arith}
use lib.Dec.{eqb}
use lib.IntN.{ℤ, pos, neg_ℤ, neg_ℤ-neg_ℤ, nat_abs, ◌-ℤ◌, +ℤ_idl, pos-ne-negsuc}
use mir.Syntax.{w64}
use mir.Val.{SFits}
use borrow.Author.Rules.{sfits_of, rules}
use Rattle.rules.proofs.AnswerLaws.{refused_number}
use Rattle.rules.specs.Answer.{refusal_number, number}
use Rattle.rules.specs.declared.Answer.{Answer}
use Rattle.rules.specs.declared.Refusal.{Refusal}
use Rattle.rules.specs.declared.Refusal.TheVariants.{NoRegister, WrongWay, Locked, TooWide, BadRecord, BadCount, BadState, BadLength, ShortList, NoRecord, ShortBuffer, Differs, SillyThreshold}
use Rattle.answers.specs.Meaning.{is_negative, InRange, Meaning}

-- ── the number of a refusal ──

abbrev refusal_of : ℕ → Refusal
refusal_of n =
    cond (eqb n 1) NoRegister
    (cond (eqb n 2) WrongWay
    (cond (eqb n 3) Locked
    (cond (eqb n 4) TooWide
    (cond (eqb n 5) BadRecord (cond (eqb n 6) BadCount (cond (eqb n 7) BadState (cond (eqb n 8) BadLength (cond (eqb n 9) ShortList (cond (eqb n 10) NoRecord (cond (eqb n 11) ShortBuffer (cond (eqb n 12) Differs SillyThreshold)))))))))))

refusal_number_law : (m : Refusal) → refusal_of (refusal_number m) ≡ m
refusal_number_law NoRegister = refl
refusal_number_law WrongWay = refl
refusal_number_law Locked = refl
refusal_number_law TooWide = refl
refusal_number_law BadRecord = refl
refusal_number_law BadCount = refl
refusal_number_law BadState = refl
refusal_number_law BadLength = refl
refusal_number_law ShortList = refl
refusal_number_law NoRecord = refl
refusal_number_law ShortBuffer = refl
refusal_number_law Differs = refl
refusal_number_law SillyThreshold = refl

-- ── negated numbers ──

pub sub-zero : (n : ℕ) → pos 0 -ℤ pos n ≡ neg_ℤ (pos n)
sub-zero n = +ℤ_idl (neg_ℤ (pos n))

pub neg_fits : (n : ℕ) → n < 256 → SFits w64 (neg_ℤ (pos n))
neg_fits zero h = search rules
neg_fits (suc n) h = sfits_of (omega arith)

-- ── the meaning of every answer that is in range ──

-- equal numbers are of equal refusals
same_refusal : (m n : Refusal) → neg_ℤ (pos (refusal_number m)) ≡ neg_ℤ (pos (refusal_number n)) → m ≡ n
same_refusal m n e =
    let d : pos (refusal_number m) ≡ pos (refusal_number n) = sym (neg_ℤ-neg_ℤ (pos (refusal_number m))) ∙ ap neg_ℤ e ∙ neg_ℤ-neg_ℤ (pos (refusal_number n)) in
    sym (refusal_number_law m) ∙ ap (λ (z : ℤ). refusal_of (nat_abs z)) d ∙ refusal_number_law n

-- no refusal's number is a value
no_value : (m : Refusal) (v : ℕ) → pos v ≡ neg_ℤ (pos (refusal_number m)) → ⊥
unfolding number
no_value m v e = let r = refused_number m in pos-ne-negsuc v r.0 (e ∙ r.2)

pub meaning : (a : Answer) → InRange a → Meaning a
unfolding number
meaning Answer.Done h =
    record {
      negative = refl;
      of_refusal = λ m e. cc;
      is_refusal = λ m e. absurd (no_value m 0 e);
      lowest = λ n e. absurd (pos-ne-negsuc 0 n e);
      of_done = λ e. refl;
      is_zero = λ e. inl refl;
      of_value = λ v e. cc;
      highest = λ v e. let d : 0 ≡ v = cc in omega arith;
    }
meaning (Answer.Value w) h =
    record {
      negative = refl;
      of_refusal = λ m e. cc;
      is_refusal = λ m e. absurd (no_value m w e);
      lowest = λ n e. absurd (pos-ne-negsuc w n e);
      of_done = λ e. cc;
      is_zero = λ e. inr (cc);
      of_value = λ v e. cc;
      highest = λ v e. let d : w ≡ v = cc in omega (arith, h w refl);
    }
meaning (Answer.Refused n) h =
    let r = refused_number n in
    record {
      negative = ap is_negative r.2;
      of_refusal = λ m e. cc;
      is_refusal = λ m e. ap Answer.Refused (same_refusal n m e);
      lowest = λ k e. let d : r.0 ≡ k = cc in omega (arith, r.1);
      of_done = λ e. cc;
      is_zero = λ e. absurd (no_value n 0 (sym e));
      of_value = λ v e. cc;
      highest = λ v e. absurd (no_value n v (sym e));
    }

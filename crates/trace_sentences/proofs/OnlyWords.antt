-- No sentence of the word is missing: whatever satisfies them is one word. Nothing here knows the rules' definitions.
-- Assumes nothing.
use Prim.Native.Nat.{ℕ, suc, ◌+◌, ◌-◌, ◌≤◌, ◌<◌}
use mathlib.Core.Path.{◌≡◌, refl, sym, ◌∙◌, subst}
use native.Mathlib.Omega.{arith}
use native.Mathlib.Decide.{dec_lt}
use lib.IntN.{ℤ, pos, negsuc}
use Rattle.bits.specs.Bits.{bit}
use Rattle.bits.proofs.BitLaws.{bit_ext}
use Rattle.rules.specs.declared.Answer.{Answer}
use Rattle.rules.specs.declared.Output.{Output}
use Rattle.rules.specs.declared.Ticked.{Ticked}
use Rattle.sentences.proofs.Whole.{Same}
use Rattle.trace_sentences.specs.Words.{WordIs, InRange, Words}

module _ (o : Output) (a : ℤ) (w v : ℕ) (x : WordIs o a w) (y : WordIs o a v) where
  by_answer : (k : ℕ) → (z : ℤ) → a ≡ z → ((k < 4) → bit w (52 + k) ≡ bit v (52 + k)) × ((k < 32) → bit w k ≡ bit v k)
  by_answer k (pos n) e = (λ l. x.no_refusal n e k l ∙ sym (y.no_refusal n e k l), λ l. x.value n e k l ∙ sym (y.value n e k l))
  by_answer k (negsuc n) e =
      let p : 1 ≤ suc n = omega arith in
      (λ l. x.refusal (suc n) p e k l ∙ sym (y.refusal (suc n) p e k l), λ l. x.no_value (suc n) p e k l ∙ sym (y.no_value (suc n) p e k l))

  -- bit n, that has k places above or below it
  moved : (n m : ℕ) → m ≡ n → bit w m ≡ bit v m → bit w n ≡ bit v n
  moved n m e p = subst (λ (j : ℕ). bit w j ≡ bit v j) e p

  same_bit : (n : ℕ) → n < 64 → bit w n ≡ bit v n
  same_bit n l = go (dec_lt n 32) (dec_lt n 52) (dec_lt n 56) (dec_lt n 60)
    where
      go : Dec (n < 32) → Dec (n < 52) → Dec (n < 56) → Dec (n < 60) → bit w n ≡ bit v n
      go (yes p) q r s = (by_answer n a refl).1 p
      go (no p) (yes q) r s =
          let k : n - 32 < 20 = omega arith in moved n (32 + (n - 32)) (omega arith) (x.zeros (n - 32) k ∙ sym (y.zeros (n - 32) k))
      go (no p) (no q) (yes r) s = moved n (52 + (n - 52)) (omega arith) ((by_answer (n - 52) a refl).0 (omega arith))
      go (no p) (no q) (no r) (yes s) =
          let k : 59 - n < 4 = omega arith in moved n (59 - (59 - n)) (omega arith) (x.lines (59 - n) k ∙ sym (y.lines (59 - n) k))
      go (no p) (no q) (no r) (no s) =
          let k : 63 - n < 4 = omega arith in moved n (63 - (63 - n)) (omega arith) (x.interrupts (63 - n) k ∙ sym (y.interrupts (63 - n) k))

  pub same_word : w ≡ v
  same_word = bit_ext 64 w v (omega (arith, x.bits)) (omega (arith, y.bits)) same_bit

-- two functions that satisfy the sentences are one
pub only_words : (number : Answer → ℤ) (f g : Ticked → ℕ) → Words number f → Words number g → (t : Ticked) → InRange (number t.answer) → f t ≡ g t
only_words number f g x y t r = same_word t.output (number t.answer) (f t) (g t) (x t r) (y t r)

-- and of two handlers: ticks that have the same outputs and answer the same number have one word
pub only_words_of : (m n : Answer → ℤ) (f g : Ticked → ℕ) → Words m f → Words n g → (t u : Ticked) → Same m n t u → InRange (m t.answer) → f t ≡ g u
only_words_of m n f g x y t u s r =
    same_word t.output (m t.answer) (f t) (g u) (x t r)
    (subst (λ (o : Output). WordIs o (m t.answer) (g u)) (sym s.output)
    (subst (λ (a : ℤ). WordIs u.output a (g u)) (sym s.answer) (y u (subst InRange s.answer r))))

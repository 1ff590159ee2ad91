-- The words of the calm ticks satisfy the sentences.
-- Assumes nothing.
use Prim.Native.Nat.{ℕ, zero, suc, ◌+◌, ◌-◌, ◌/◌, ◌^◌, ◌≤◌, ◌<◌}
use mathlib.Core.Path.{◌≡◌, refl, sym, ap, ◌∙◌, subst}
use mathlib.Core.Logic.{◌≢◌}
use mathlib.Core.Bool.{Bool, true, false, Bool-discrete, cond}
use mathlib.Core.List.{List, [], ◌∷◌, ◌++◌, append-nil, append_assoc}
use native.Mathlib.Omega.{arith}
use borrow.Author.Tests.{eq-eqb, ne_eqb}
use lib.ListN.{get_or, length, drop, length-append, length-drop}
use lib.Seq.{get_or-append_seam, get_or-append-add, get_or-drop}
use lib.Pow.{pow_pos}
use Rattle.bits.specs.Bits.{bit, num, field, place}
use Rattle.bits.specs.Fields.{Fit, none, one}
use Rattle.bits.proofs.BitLaws.{bit_none, bit_shr, bit_mod, bit_bits_of, num_lt}
use Rattle.bits.proofs.FieldLaws.{pack_lt}
use Rattle.calm_laws.proofs.CalmRuns.{twenty_are_enough}
use Rattle.calm_laws.proofs.ChangeWords.{word_tick, word_zeros, word_lines}
use Rattle.calm_rules.specs.Ticks.{calm_output, calm_changes, change, change_layout, change_word}
use Rattle.rules.specs.State.{is_on}
use Rattle.rules.specs.Valid.{valid}
use Rattle.rules.specs.declared.Handler.{Handler}
use Rattle.rules.specs.declared.Wires.{Wires}
use Rattle.sentences.proofs.OnlySamples.{same_bits}
use Rattle.calm_sentences.specs.Changes.{Changed, ChangeWord, ChangeList}

-- ── the word ──

-- bit k of the field of w bits from bit s up
field_bit : (n s w x k : ℕ) → field s w n ≡ x → k < w → bit n (s + k) ≡ bit x k
field_bit n s w x k e l = sym (bit_shr n s k) ∙ sym (bit_mod w (n / 2 ^ s) k l) ∙ ap (λ (m : ℕ). bit m k) e

word_lt : (lit t : ℕ) → t < 2 ^ 32 → change_word lit t < 2 ^ 64
unfolding change_word
word_lt lit t s = pack_lt fits
  where
    fits : Fit change_layout (num (bit lit 0) ∷ num (bit lit 1) ∷ num (bit lit 2) ∷ num (bit lit 3) ∷ 0 ∷ t ∷ [])
    fits = one (num_lt (bit lit 0)) (one (num_lt (bit lit 1)) (one (num_lt (bit lit 2)) (one (num_lt (bit lit 3)) (one (pow_pos 28) (one s none)))))

holds_word : (lit t : ℕ) → lit ≤ 15 → t < 2 ^ 32 → ChangeWord lit t (change_word lit t)
holds_word lit t l s =
    record {
      lines = λ e m. sym (ap (λ (x : ℕ). bit x e) (sym (word_lines lit t s (omega arith))) ∙ bit_bits_of 4 (place (change_word lit t)) e m);
      zeros = λ k m. let l : k < 28 = omega arith in field_bit (change_word lit t) 32 28 0 k (word_zeros lit t s) l ∙ bit_none k;
      tick = λ k m. sym (bit_mod 32 (change_word lit t) k m) ∙ ap (λ (x : ℕ). bit x k) (word_tick lit t s);
      bits = omega (arith, word_lt lit t s);
    }

-- ── a change ──

changes_differ : (lit lot : ℕ) → Changed lit lot → lot ≢ lit
changes_differ lit lot c e = c.2 (ap (λ (x : ℕ). bit x c.0) e)

no_change_same : (lit lot : ℕ) → lit ≤ 15 → lot ≤ 15 → ¬ Changed lit lot → lot ≡ lit
no_change_same lit lot a b n =
    same_bits lot lit b a (λ k l. go k l (Bool-discrete (bit lot k) (bit lit k)))
  where
    go : (k : ℕ) → k < 4 → Dec (bit lot k ≡ bit lit k) → bit lot k ≡ bit lit k
    go k l (yes e) = e
    go k l (no e) = absurd (n (k, l, e))

one_word : (lit lot t : ℕ) → Changed lit lot → change lit lot t ≡ change_word lot t ∷ []
one_word lit lot t c = ap (λ (b : Bool). cond b [] (change_word lot t ∷ [])) (ne_eqb lot lit (changes_differ lit lot c))

no_word : (lit lot t : ℕ) → lit ≤ 15 → lot ≤ 15 → ¬ Changed lit lot → change lit lot t ≡ []
no_word lit lot t a b n = ap (λ (b : Bool). cond b [] (change_word lot t ∷ [])) (eq-eqb lot lit (no_change_same lit lot a b n))

-- ── the list ──

module _ (h : Handler) (w : Wires) (n : ℕ) (list : List ℕ) (v : valid h ≡ true) (off : is_on h ≡ false) (small : n < 2 ^ 32) (room : 20 ≤ length list) (bits : (t : ℕ) → (calm_output h w t).lines ≤ 15) where
  abbrev lit : ℕ → ℕ
  lit t = (calm_output h w t).lines

  abbrev words : ℕ → List ℕ
  words t = calm_changes h w t

  more : (t : ℕ) → Changed (lit t) (lit (suc t)) → words (suc t) ≡ words t ++ change_word (lit (suc t)) (suc t) ∷ []
  unfolding calm_changes
  more t c = ap (λ (xs : List ℕ). words t ++ xs) (one_word (lit t) (lit (suc t)) (suc t) c)

  no_more : (t : ℕ) → ¬ Changed (lit t) (lit (suc t)) → words (suc t) ≡ words t
  unfolding calm_changes
  no_more t c = ap (λ (xs : List ℕ). words t ++ xs) (no_word (lit t) (lit (suc t)) (suc t) (bits t) (bits (suc t)) c) ∙ append-nil (words t)

  length_more : (t : ℕ) → Changed (lit t) (lit (suc t)) → length (words (suc t)) ≡ suc (length (words t))
  length_more t c = ap length (more t c) ∙ length-append (words t) (change_word (lit (suc t)) (suc t) ∷ []) ∙ omega arith

  -- the words of the first ticks stand first
  begins : (t d : ℕ) → (tail : List ℕ) × (words (t + d) ≡ words t ++ tail)
  unfolding calm_changes
  begins t zero = let e : t + 0 ≡ t = omega arith in ([], ap words e ∙ sym (append-nil (words t)))
  begins t (suc d) =
      let b = begins t d in
      let c = change (lit (t + d)) (lit (suc (t + d))) (suc (t + d)) in
      let e : t + suc d ≡ suc (t + d) = omega arith in
      (b.0 ++ c, ap words e ∙ ap (λ (xs : List ℕ). xs ++ c) b.1 ∙ append_assoc (words t) b.0 c)

  abbrev left : List ℕ
  left = words n ++ drop (length (words n)) list

  word_at : (t : ℕ) → t < n → Changed (lit t) (lit (suc t)) → get_or left (length (words t)) 0 ≡ change_word (lit (suc t)) (suc t)
  word_at t l c =
      let b = begins (suc t) (n - suc t) in
      let e : suc t + (n - suc t) ≡ n = omega arith in
      let x = change_word (lit (suc t)) (suc t) in
      let rest = drop (length (words n)) list in
      let z : words n ≡ words t ++ x ∷ b.0 =
      ap words (sym e) ∙ b.1 ∙ ap (λ (xs : List ℕ). xs ++ b.0) (more t c) ∙ append_assoc (words t) (x ∷ []) b.0
      in
      ap (λ (xs : List ℕ). get_or (xs ++ rest) (length (words t)) 0) z
      ∙ ap (λ (xs : List ℕ). get_or xs (length (words t)) 0) (append_assoc (words t) (x ∷ b.0) rest)
      ∙ get_or-append_seam (words t) x (b.0 ++ rest) 0

  later_at : (i : ℕ) → length (words n) ≤ i → get_or left i 0 ≡ get_or list i 0
  later_at i l =
      let e : length (words n) + (i - length (words n)) ≡ i = omega arith in
      ap (λ (j : ℕ). get_or left j 0) (sym e)
      ∙ get_or-append-add (words n) (drop (length (words n)) list) (i - length (words n)) 0
      ∙ get_or-drop (length (words n)) list (i - length (words n)) 0
      ∙ ap (λ (j : ℕ). get_or list j 0) e

  pub holds_changes : ChangeList n lit list left (length (words n))
  unfolding calm_changes
  holds_changes =
      record {
        many = λ t. length (words t);
        none = refl;
        one_more = λ t l c. length_more t c;
        no_more = λ t l c. ap length (no_more t c);
        all = refl;
        word = λ t l c. subst (ChangeWord (lit (suc t)) (suc t)) (sym (word_at t l c)) (holds_word (lit (suc t)) (suc t) (bits (suc t)) (omega arith));
        later = later_at;
        lent =
            length-append (words n) (drop (length (words n)) list)
            ∙ ap (λ (k : ℕ). length (words n) + k) (length-drop (length (words n)) list)
            ∙ omega (arith, twenty_are_enough h w v off n);
      }

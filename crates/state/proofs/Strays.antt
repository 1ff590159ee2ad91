-- Open pings that may not be open: the words that the code makes, and the test that none is set.
-- Assumes nothing.
use Prim.Native.Nat.{ℕ, zero, suc, ◌+◌, ◌*◌, ◌-◌, ◌/◌, ◌%◌, ◌^◌, ◌≤◌, ◌<◌}
use mathlib.Core.Path.{◌≡◌, refl, sym, ap, ap₂, ◌∙◌}
use mathlib.Core.Bool.{Bool, true, false, false≢true, not, xor, and_assoc, ◌&&◌, ◌||◌}
use mathlib.Core.List.{List}
use native.Mathlib.Nat.{div-add-mod'}
use native.Mathlib.Omega.{arith}
use borrow.Author.Tests.{lt-ltb, ltb-true, eq-eqb, eqb-true}
use lib.Bits.{bit_and, bit_xor, and_le_l, and_le_r}
use lib.Dec.{eqb, ltb}
use lib.ListN.{get_or}
use Rattle.bits.specs.Bits.{bit, place, word_of}
use Rattle.bits.specs.Index.{place_in, all_to}
use Rattle.bits.proofs.BitLaws.{bit_and_law, bit_xor_law, bit_none, is_word64, place_word64}
use Rattle.bits.proofs.IndexLaws.{and-true, true_and, all_at, all_of}
use Rattle.bits.proofs.TruthTables.{by4}
use Rattle.bits.proofs.WordLaws.{place_in_at}
use Rattle.link_rules.specs.Timer.{is_line, line_of}
use Rattle.rules.specs.State.{most, is_on}
use Rattle.rules.specs.Valid.{pings_fit}
use Rattle.rules.specs.declared.Handler.{Handler}
use Rattle.state.specs.Strays.{is_stray, stray_word, pings_owned}

-- ── one word: p the open pings, l those that are there, o alert i's place ──

without_table : (x o : Bool) → (x && xor x o) ≡ (x && not (true && o))
unfolding xor
without_table x o = by4 (λ x o a b. x && xor x o) (λ x o a b. x && not (true && o)) tt x o x o

module _ (n : ℕ) (pends : List ℕ) (i v live : ℕ) (small : live < 2 ^ 64) (counts : (b : ℕ) → b < 64 → place live b ≡ ltb (v * 64 + b) n) where
  abbrev there : ℕ
  there = bit_and (get_or pends v 0) live

  there_lt : there < 2 ^ 64
  there_lt = omega (arith, small, and_le_r (get_or pends v 0) live)

  there_at : (b : ℕ) → b < 64 → place there b ≡ (place_in pends (v * 64 + b) && ltb (v * 64 + b) n)
  there_at b l = bit_and_law (get_or pends v 0) live (63 - b) ∙ ap₂ ◌&&◌ (sym (place_in_at pends v b l)) (counts b l)

  -- none may be open
  pub none_owned : there ≡ stray_word n pends false i v
  none_owned = is_word64 there (λ b. is_stray n pends false i (v * 64 + b)) there_lt (λ b l. there_at b l ∙ sym (and_on (place_in pends (v * 64 + b) && ltb (v * 64 + b) n)))
    where
      and_on : (x : Bool) → (x && true) ≡ x
      and_on true = refl
      and_on false = refl

  -- alert i's may
  pub one_owned : (mark : ℕ) → ((b : ℕ) → b < 64 → place mark b ≡ eqb (v * 64 + b) i) → bit_and there (bit_xor there mark) ≡ stray_word n pends true i v
  one_owned mark marks =
      is_word64 (bit_and there (bit_xor there mark)) (λ b. is_stray n pends true i (v * 64 + b)) (omega (arith, there_lt, and_le_l there (bit_xor there mark)))
      (λ b l.
      bit_and_law there (bit_xor there mark) (63 - b)
      ∙ ap (λ (y : Bool). place there b && y) (bit_xor_law there mark (63 - b))
      ∙ ap₂ (λ (x o : Bool). x && xor x o) (there_at b l) (marks b l)
      ∙ without_table (place_in pends (v * 64 + b) && ltb (v * 64 + b) n) (eqb (v * 64 + b) i))

-- ── the four words ──

-- a word without a place set, and the other way round
none_set : (f : ℕ → Bool) → eqb (word_of 64 f) 0 ≡ true → (b : ℕ) → b < 64 → f b ≡ false
none_set f e b l =
    sym (place_word64 f b l) ∙ ap (λ (x : ℕ). place x b) (eqb-true (word_of 64 f) 0 e) ∙ bit_none (63 - b)

is_none : (f : ℕ → Bool) → ((b : ℕ) → b < 64 → f b ≡ false) → eqb (word_of 64 f) 0 ≡ true
is_none f e = eq-eqb (word_of 64 f) 0 (sym (is_word64 0 f (omega arith) (λ b l. bit_none (63 - b) ∙ sym (e b l))))

same_tests : (x y : Bool) → (x ≡ true → y ≡ true) → (y ≡ true → x ≡ true) → x ≡ y
same_tests true true f g = refl
same_tests true false f g = sym (f refl)
same_tests false true f g = g refl
same_tests false false f g = refl

-- what may be open, and what is stray: p it is open, o it may be
owned : (p t o : Bool) → t ≡ true → ((p && t) && not o) ≡ false → (not p || o) ≡ true
owned true true true e f = refl
owned true true false e f = sym f
owned true false o e f = absurd (false≢true e)
owned false t o e f = refl

not_stray : (p t o : Bool) → (t ≡ true → (not p || o) ≡ true) → ((p && t) && not o) ≡ false
not_stray true true true f = refl
not_stray true true false f = sym (f refl)
not_stray true false o f = refl
not_stray false t o f = refl

-- tests that are the same one by one are the same together
all_same : (f g : ℕ → Bool) (n : ℕ) → ((j : ℕ) → f j ≡ g j) → all_to f n ≡ all_to g n
all_same f g n e =
    same_tests (all_to f n) (all_to g n) (λ t. all_of g n (λ j l. sym (e j) ∙ all_at f n t j l)) (λ t. all_of f n (λ j l. e j ∙ all_at g n t j l))

-- as refusal 7's rule says it
pub pings_are : (h : Handler) → pings_owned h.n h.links (is_on h) ≡ pings_fit h
unfolding pings_fit
pings_are h =
    ap₂ ◌&&◌
    (all_same _ _ h.n (λ j. ap (λ (b : Bool). not (place_in h.links.receivers.pending j) || b) (and_assoc (is_on h) (not (is_line h.links.turn)) (eqb j h.links.turn.alert))))
    (all_same _ _ 4 (λ l. ap (λ (b : Bool). not (bit h.links.lines l) || b) (and_assoc (is_on h) (is_line h.links.turn) (eqb l (line_of h.links.turn)))))

module _ (n : ℕ) (pends : List ℕ) (own : Bool) (i : ℕ) (m : n ≤ most) where
  abbrev word : ℕ → Bool
  word v = eqb (stray_word n pends own i v) 0

  abbrev owns : ℕ → Bool
  owns j = not (place_in pends j) || (own && eqb j i)

  all_zero : (v : ℕ) → v < 4 → (word 0 && (word 1 && (word 2 && word 3))) ≡ true → word v ≡ true
  all_zero zero l e = (and-true (word 0) (word 1 && (word 2 && word 3)) e).0
  all_zero (suc zero) l e = (and-true (word 1) (word 2 && word 3) (and-true (word 0) (word 1 && (word 2 && word 3)) e).1).0
  all_zero (suc (suc zero)) l e = (and-true (word 2) (word 3) (and-true (word 1) (word 2 && word 3) (and-true (word 0) (word 1 && (word 2 && word 3)) e).1).1).0
  all_zero (suc (suc (suc zero))) l e = (and-true (word 2) (word 3) (and-true (word 1) (word 2 && word 3) (and-true (word 0) (word 1 && (word 2 && word 3)) e).1).1).1
  all_zero (suc (suc (suc (suc v)))) l e = absurd (omega (arith, l))

  at_word : (j : ℕ) → j < n → (word 0 && (word 1 && (word 2 && word 3))) ≡ true → owns j ≡ true
  at_word j l e =
      let d : j / 64 < 4 = omega (arith, l, m) in
      let b : j % 64 < 64 = omega arith in
      let z : is_stray n pends own i j ≡ false =
      ap (is_stray n pends own i) (sym (div-add-mod' j 64)) ∙ none_set (λ c. is_stray n pends own i (j / 64 * 64 + c)) (all_zero (j / 64) d e) (j % 64) b in
      owned (place_in pends j) (ltb j n) (own && eqb j i) (lt-ltb j n l) z

  zero_word : (v : ℕ) → all_to owns n ≡ true → word v ≡ true
  zero_word v e =
      is_none (λ b. is_stray n pends own i (v * 64 + b)) (λ b l. not_stray (place_in pends (v * 64 + b)) (ltb (v * 64 + b) n) (own && eqb (v * 64 + b) i) (λ t. all_at owns n e (v * 64 + b) (ltb-true (v * 64 + b) n t)))

  pub none_stray : (word 0 && (word 1 && (word 2 && word 3))) ≡ all_to owns n
  none_stray =
      same_tests (word 0 && (word 1 && (word 2 && word 3))) (all_to owns n) (λ e. all_of owns n (λ j l. at_word j l e))
      (λ e. true_and (zero_word 0 e) (true_and (zero_word 1 e) (true_and (zero_word 2 e) (zero_word 3 e))))

-- A mask with a bit for each line, as `lines_after` sets and clears one of them and `ping_mask` makes it.
-- Assumes nothing.
use Prim.Native.Nat.{ℕ, zero, suc, ◌-◌, ◌*◌, ◌/◌, ◌%◌, ◌^◌, ◌<◌}
use mathlib.Core.Path.{◌≡◌, refl, sym, ap, ◌∙◌}
use mathlib.Core.Bool.{Bool, true, false, cond, not, ◌&&◌, ◌||◌}
use native.Mathlib.Nat.{pow-suc}
use native.Mathlib.Omega.{arith}
use native.Mathlib.Decide.{dec_lt}
use lib.Bits.{bit_and, bit_or, and_le_l, or_lt}
use lib.Dec.{eqb, ltb, eqb-zero-suc, eqb-suc-zero, eqb-suc-suc}
use borrow.Author.Tests.{lt-ltb, le-ltb, ne_eqb}
use Rattle.bits.specs.Bits.{bit}
use Rattle.bits.proofs.BitLaws.{bit_and_law, bit_or_law, bit_none, bit_zero, bit_suc, bit_not, is_bits_of}
use Rattle.bits.proofs.FirstLaws.{one_shl}
use Rattle.samples.specs.Linked.{lines_by}

-- a power of two has one bit
bit_pow : (e l : ℕ) → bit (2 ^ e) l ≡ eqb l e
bit_pow zero zero = bit_zero 1
bit_pow zero (suc l) = bit_suc 1 l ∙ bit_none l ∙ sym (eqb-suc-zero l)
bit_pow (suc e) zero =
    let d : 2 ^ suc e % 2 ≡ 0 = omega (arith, pow-suc 2 e) in
    bit_zero (2 ^ suc e) ∙ ap (λ (x : ℕ). eqb x 1) d ∙ sym (eqb-zero-suc e)
bit_pow (suc e) (suc l) =
    let d : 2 ^ suc e / 2 ≡ 2 ^ e = omega (arith, pow-suc 2 e) in
    bit_suc (2 ^ suc e) l ∙ ap (λ (x : ℕ). bit x l) d ∙ bit_pow e l ∙ sym (eqb-suc-suc l e)

-- the bits from 4 up are no line's
in_lines : (line pend was : Bool) (e l : ℕ) → e < 4 → cond (line && eqb l e) pend was ≡ cond (ltb l 4) (cond (line && eqb l e) pend was) was
in_lines line pend was e l h = go (dec_lt l 4)
  where
    others : (line : Bool) → cond (line && false) pend was ≡ was
    others true = refl
    others false = refl

    go : Dec (l < 4) → cond (line && eqb l e) pend was ≡ cond (ltb l 4) (cond (line && eqb l e) pend was) was
    go (yes m) = sym (ap (λ (t : Bool). cond t (cond (line && eqb l e) pend was) was) (lt-ltb l 4 m))
    go (no m) =
        ap (λ (t : Bool). cond (line && t) pend was) (ne_eqb l e (λ d. omega arith)) ∙ others line
        ∙ sym (ap (λ (t : Bool). cond t (cond (line && eqb l e) pend was) was) (le-ltb l 4 (omega arith)))

set : (was here : Bool) → (was || here) ≡ cond here true was
set true true = refl
set true false = refl
set false true = refl
set false false = refl

cleared : (was here : Bool) → (was && not here) ≡ cond here false was
cleared true true = refl
cleared true false = refl
cleared false true = refl
cleared false false = refl

module _ (lines e : ℕ) (small : lines < 2 ^ 32) (h : e < 4) where
  abbrev mark : ℕ
  mark = 1 * 2 ^ e % 2 ^ 32

  mark_lt : mark < 2 ^ 32
  mark_lt = omega arith

  mark_bit : (l : ℕ) → bit mark l ≡ eqb l e
  mark_bit l = ap (λ (x : ℕ). bit x l) (one_shl 32 e (omega arith)) ∙ bit_pow e l

  pub line_set : bit_or lines mark ≡ lines_by true e true lines
  line_set =
      is_bits_of 32 (bit_or lines mark) _ (or_lt 32 lines mark small mark_lt)
      (λ l m. bit_or_law lines mark l ∙ ap (λ (t : Bool). bit lines l || t) (mark_bit l) ∙ set (bit lines l) (eqb l e) ∙ in_lines true true (bit lines l) e l h)

  pub line_cleared : bit_and lines (4294967295 - mark) ≡ lines_by true e false lines
  line_cleared =
      is_bits_of 32 (bit_and lines (4294967295 - mark)) _ (omega (arith, small, and_le_l lines (4294967295 - mark)))
      (λ l m.
      bit_and_law lines (4294967295 - mark) l
      ∙ ap (λ (t : Bool). bit lines l && t) (bit_not 32 mark l mark_lt m ∙ ap not (mark_bit l))
      ∙ cleared (bit lines l) (eqb l e) ∙ in_lines true false (bit lines l) e l h)

  pub no_line : (pend : Bool) → lines ≡ lines_by false e pend lines
  no_line pend = is_bits_of 32 lines _ small (λ l m. in_lines false pend (bit lines l) e l h)

  -- the mask of one line, or of none
  pub one_mask : (l : ℕ) → bit mark l ≡ eqb l e
  one_mask = mark_bit

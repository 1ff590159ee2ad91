-- Numbers that fit a width: the union of two, and those that a type holds.
-- Assumes nothing.
use Prim.Native.Nat.{ℕ, ◌^◌, ◌≤◌, ◌<◌}
use mathlib.Core.Path.{◌≡◌, refl, sym, ap, ap₂, ◌∙◌}
use mathlib.Core.Bool.{Bool, true, false, ◌&&◌, and_comm}
use native.Mathlib.Omega.{arith}
use native.Mathlib.Decide.{dec_lt}
use lib.Bits.{bit_or, or_lt, or_add_and, and_le_l, and_le_r}
use lib.ListN.{get_or}
use lib.Pow.{pow_pos}
use borrow.Author.Tests.{lt-ltb, le-ltb, le-leb, leb-true}
use lib.Dec.{leb}
use Rattle.bits.specs.Bits.{fits}
use Rattle.class_rules.specs.Class.{state_of, state_fits, count_fits, class_fits}
use Rattle.class_rules.specs.declared.Class.{Class}

-- the union of two numbers fits a width exactly if both do
pub fits_or : (b x y : ℕ) → fits b (bit_or x y) ≡ (fits b x && fits b y)
fits_or b x y = go (dec_lt x (2 ^ b)) (dec_lt y (2 ^ b))
  where
    go : Dec (x < 2 ^ b) → Dec (y < 2 ^ b) → fits b (bit_or x y) ≡ (fits b x && fits b y)
    go (yes p) (yes q) =
        lt-ltb (bit_or x y) (2 ^ b) (or_lt b x y p q) ∙ sym (ap₂ ◌&&◌ (lt-ltb x (2 ^ b) p) (lt-ltb y (2 ^ b) q))
    go (yes p) (no q) =
        le-ltb (bit_or x y) (2 ^ b) (omega (arith, or_add_and x y, and_le_l x y)) ∙ sym (ap₂ ◌&&◌ (lt-ltb x (2 ^ b) p) (le-ltb y (2 ^ b) (omega arith)))
    go (no p) q =
        le-ltb (bit_or x y) (2 ^ b) (omega (arith, or_add_and x y, and_le_r x y)) ∙ sym (ap (λ (t : Bool). t && fits b y) (le-ltb x (2 ^ b) (omega arith)))

pub fits_zero : (b : ℕ) → fits b 0 ≡ true
fits_zero b = lt-ltb 0 (2 ^ b) (pow_pos b)

-- the larger of two numbers is at most a bound exactly if both are
pub larger_first : (a b c : ℕ) → b ≤ a → leb a c ≡ (leb a c && leb b c)
larger_first a b c l = go (leb a c) refl
  where
    go : (t : Bool) → leb a c ≡ t → t ≡ (t && leb b c)
    go true e = sym (le-leb b c (omega (arith, leb-true a c e)))
    go false e = refl

pub larger_second : (a b c : ℕ) → a ≤ b → leb b c ≡ (leb a c && leb b c)
larger_second a b c l = larger_first b a c l ∙ and_comm (leb b c) (leb a c)

-- a block's registers of 16 and 32 bits fit: what is left of its test
pub class_narrow : (c : Class)
    → c.accum < 2 ^ 16 → c.thresh < 2 ^ 16 → c.timeout < 2 ^ 32 → c.count < 2 ^ 32 → ((p : ℕ) → get_or c.lengths p 0 < 2 ^ 32)
    → (fits 1 c.regwen && (fits 14 c.ctrl && (fits 1 c.clrwen && (state_fits c.state && count_fits (state_of c.state) c.count)))) ≡ class_fits c
unfolding class_fits
class_narrow c a t o n l =
    simp (lt-ltb _ _ a, lt-ltb _ _ t, lt-ltb _ _ o, lt-ltb _ _ n, lt-ltb _ _ (l 0), lt-ltb _ _ (l 1), lt-ltb _ _ (l 2), lt-ltb _ _ (l 3))

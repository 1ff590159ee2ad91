-- Laws of the bits of a number, once over the bit index and the width.
-- Assumes nothing.
use mathlib.Core.Path.{◌≡◌, refl, sym, ap, ◌∙◌}
use mathlib.Core.Bool.{Bool, true, false, not, ◌&&◌, ◌||◌, xor}
use Prim.Native.Nat.{ℕ, zero, suc, ◌+◌, ◌-◌, ◌*◌, ◌/◌, ◌%◌, ◌^◌, ◌≤◌, ◌<◌}
use native.Mathlib.Nat.{mod-lt, div-one, pow-suc}
use native.Mathlib.Omega.{arith}
use lib.Dec.{eqb}
use lib.Bits.{bit_and, bit_or, bit_xor, and_shr, or_shr, xor_shr, and_mod, or_mod, xor_mod}
use lib.Pow.{pow_pos, shr-shr, field, mod-mod-pow}
use borrow.Author.Tests.{eqb-false}
use Rattle.bits.specs.Bits.{bit, num, bits_of, place, word_of}

two_pos : 0 < 2
two_pos = omega arith

-- two digits
and_digit : (x y : ℕ) → x < 2 → y < 2 → eqb (bit_and x y) 1 ≡ (eqb x 1 && eqb y 1)
and_digit zero y hx hy = refl
and_digit (suc zero) zero hx hy = refl
and_digit (suc zero) (suc zero) hx hy = refl
and_digit (suc zero) (suc (suc y)) hx hy = absurd (omega arith)
and_digit (suc (suc x)) y hx hy = absurd (omega arith)

or_digit : (x y : ℕ) → x < 2 → y < 2 → eqb (bit_or x y) 1 ≡ (eqb x 1 || eqb y 1)
or_digit zero y hx hy = refl
or_digit (suc zero) zero hx hy = refl
or_digit (suc zero) (suc zero) hx hy = refl
or_digit (suc zero) (suc (suc y)) hx hy = absurd (omega arith)
or_digit (suc (suc x)) y hx hy = absurd (omega arith)

xor_digit : (x y : ℕ) → x < 2 → y < 2 → eqb (bit_xor x y) 1 ≡ xor (eqb x 1) (eqb y 1)
unfolding xor
xor_digit zero zero hx hy = refl
xor_digit zero (suc zero) hx hy = refl
xor_digit zero (suc (suc y)) hx hy = absurd (omega arith)
xor_digit (suc zero) zero hx hy = refl
xor_digit (suc zero) (suc zero) hx hy = refl
xor_digit (suc zero) (suc (suc y)) hx hy = absurd (omega arith)
xor_digit (suc (suc x)) y hx hy = absurd (omega arith)

pub bit_and_law : (a b k : ℕ) → bit (bit_and a b) k ≡ (bit a k && bit b k)
unfolding bit
bit_and_law a b k =
    ap (λ (x : ℕ). eqb (x % 2) 1) (and_shr a b k)
    ∙ ap (λ (x : ℕ). eqb x 1) (and_mod (a / 2 ^ k) (b / 2 ^ k) 1)
    ∙ and_digit (a / 2 ^ k % 2) (b / 2 ^ k % 2) (mod-lt (a / 2 ^ k) two_pos) (mod-lt (b / 2 ^ k) two_pos)

pub bit_or_law : (a b k : ℕ) → bit (bit_or a b) k ≡ (bit a k || bit b k)
unfolding bit
bit_or_law a b k =
    ap (λ (x : ℕ). eqb (x % 2) 1) (or_shr a b k)
    ∙ ap (λ (x : ℕ). eqb x 1) (or_mod (a / 2 ^ k) (b / 2 ^ k) 1)
    ∙ or_digit (a / 2 ^ k % 2) (b / 2 ^ k % 2) (mod-lt (a / 2 ^ k) two_pos) (mod-lt (b / 2 ^ k) two_pos)

pub bit_xor_law : (a b k : ℕ) → bit (bit_xor a b) k ≡ xor (bit a k) (bit b k)
unfolding bit
bit_xor_law a b k =
    ap (λ (x : ℕ). eqb (x % 2) 1) (xor_shr a b k)
    ∙ ap (λ (x : ℕ). eqb x 1) (xor_mod (a / 2 ^ k) (b / 2 ^ k) 1)
    ∙ xor_digit (a / 2 ^ k % 2) (b / 2 ^ k % 2) (mod-lt (a / 2 ^ k) two_pos) (mod-lt (b / 2 ^ k) two_pos)

-- `a >> j`
pub bit_shr : (a j k : ℕ) → bit (a / 2 ^ j) k ≡ bit a (j + k)
unfolding bit
bit_shr a j k = ap (λ (x : ℕ). eqb (x % 2) 1) (shr-shr a j k)

pub bit_suc : (a k : ℕ) → bit a (suc k) ≡ bit (a / 2) k
bit_suc a k = let e : 1 + k ≡ suc k = omega arith in ap (bit a) (sym e) ∙ sym (bit_shr a 1 k)

pub bit_zero : (a : ℕ) → bit a zero ≡ eqb (a % 2) 1
unfolding bit
bit_zero a = ap (λ (x : ℕ). eqb (x % 2) 1) (div-one a)

pub bit_none : (k : ℕ) → bit 0 k ≡ false
bit_none zero = bit_zero 0
bit_none (suc k) = bit_suc 0 k ∙ bit_none k

-- a word below 2 ^ w has no bit at w or above
pub bit_above : (w a k : ℕ) → a < 2 ^ w → w ≤ k → bit a k ≡ false
bit_above zero a k h l = let e : a ≡ 0 = omega arith in rw e (bit_none k)
bit_above (suc w) a zero h l = absurd (omega arith)
bit_above (suc w) a (suc k) h l = bit_suc a k ∙ bit_above w (a / 2) k (omega (arith, pow-suc 2 w)) (omega arith)

-- `!a` at w bits
not_digit : (x y : ℕ) → x + y ≡ 1 → eqb x 1 ≡ not (eqb y 1)
not_digit zero y h = let e : y ≡ 1 = omega arith in rw e
not_digit (suc zero) y h = let e : y ≡ 0 = omega arith in rw e
not_digit (suc (suc x)) y h = absurd (omega arith)

pub bit_not : (w a k : ℕ) → a < 2 ^ w → k < w → bit ((2 ^ w - 1) - a) k ≡ not (bit a k)
bit_not zero a k h l = absurd (omega arith)
bit_not (suc w) a zero h l =
    bit_zero ((2 ^ suc w - 1) - a)
    ∙ not_digit (((2 ^ suc w - 1) - a) % 2) (a % 2) (omega (arith, pow-suc 2 w))
    ∙ ap not (sym (bit_zero a))
bit_not (suc w) a (suc k) h l =
    let e : ((2 ^ suc w - 1) - a) / 2 ≡ (2 ^ w - 1) - a / 2 = omega (arith, pow-suc 2 w) in
    bit_suc ((2 ^ suc w - 1) - a) k ∙ ap (λ (x : ℕ). bit x k) e
    ∙ bit_not w (a / 2) k (omega (arith, pow-suc 2 w)) (omega arith) ∙ ap not (sym (bit_suc a k))

digit_eq : (x y : ℕ) → x < 2 → y < 2 → eqb x 1 ≡ eqb y 1 → x ≡ y
digit_eq zero zero hx hy e = refl
digit_eq zero (suc zero) hx hy e = absurd (eqb-false 1 1 (sym e) refl)
digit_eq (suc zero) zero hx hy e = absurd (eqb-false 1 1 e refl)
digit_eq (suc zero) (suc zero) hx hy e = refl
digit_eq zero (suc (suc y)) hx hy e = absurd (omega arith)
digit_eq (suc zero) (suc (suc y)) hx hy e = absurd (omega arith)
digit_eq (suc (suc x)) y hx hy e = absurd (omega arith)

-- two words of w bits with equal bits are equal
pub bit_ext : (w a b : ℕ) → a < 2 ^ w → b < 2 ^ w → ((k : ℕ) → k < w → bit a k ≡ bit b k) → a ≡ b
bit_ext zero a b ha hb e = omega arith
bit_ext (suc w) a b ha hb e =
    let d : a % 2 ≡ b % 2 = digit_eq (a % 2) (b % 2) (mod-lt a two_pos) (mod-lt b two_pos) (sym (bit_zero a) ∙ e 0 (omega arith) ∙ bit_zero b) in
    let q : a / 2 ≡ b / 2 =
    bit_ext w (a / 2) (b / 2) (omega (arith, pow-suc 2 w)) (omega (arith, pow-suc 2 w))
    (λ k h. sym (bit_suc a k) ∙ e (suc k) (omega arith) ∙ bit_suc b k) in
    omega arith

-- the lowest w bits
pub bit_mod : (w a k : ℕ) → k < w → bit (a % 2 ^ w) k ≡ bit a k
unfolding bit
bit_mod w a k h =
    let e : (w - k - 1 + 1) + k ≡ w = omega arith in
    ap (λ (x : ℕ). eqb (a % 2 ^ x / 2 ^ k % 2) 1) (sym e)
    ∙ ap (λ (x : ℕ). eqb (x % 2) 1) (field a (w - k - 1 + 1) k)
    ∙ ap (λ (x : ℕ). eqb x 1) (mod-mod-pow (a / 2 ^ k) (w - k - 1) 1)

-- all w bits set
pub bit_ones : (w k : ℕ) → k < w → bit (2 ^ w - 1) k ≡ true
bit_ones w k h = let e : 2 ^ w - 1 - 0 ≡ 2 ^ w - 1 = omega arith in ap (λ (x : ℕ). bit x k) (sym e) ∙ bit_not w 0 k (pow_pos w) h ∙ ap not (bit_none k)

-- ── a number by its bits, the lowest first ──

even_odd : (b : Bool) (a : ℕ) → ((num b + 2 * a) / 2 ≡ a) × ((num b + 2 * a) % 2 ≡ num b)
even_odd true a = (omega arith, omega arith)
even_odd false a = (omega arith, omega arith)

pub eqb_digit : (b : Bool) → eqb (num b) 1 ≡ b
eqb_digit true = refl
eqb_digit false = refl

pub num_lt : (b : Bool) → num b < 2
num_lt true = omega arith
num_lt false = omega arith

pub bits_of_lt : (w : ℕ) (f : ℕ → Bool) → bits_of w f < 2 ^ w
unfolding bits_of
bits_of_lt zero f = omega arith
bits_of_lt (suc w) f = omega (arith, bits_of_lt w (λ k. f (suc k)), num_lt (f 0), pow-suc 2 w)

pub bit_bits_of : (w : ℕ) (f : ℕ → Bool) (k : ℕ) → k < w → bit (bits_of w f) k ≡ f k
unfolding bits_of
bit_bits_of zero f k h = absurd (omega arith)
bit_bits_of (suc w) f zero h =
    let a : ℕ = bits_of w (λ j. f (suc j)) in
    bit_zero (num (f 0) + 2 * a) ∙ ap (λ (x : ℕ). eqb x 1) (even_odd (f 0) a).1 ∙ eqb_digit (f 0)
bit_bits_of (suc w) f (suc k) h =
    let a : ℕ = bits_of w (λ j. f (suc j)) in
    bit_suc (num (f 0) + 2 * a) k ∙ ap (λ (x : ℕ). bit x k) (even_odd (f 0) a).0 ∙ bit_bits_of w (λ j. f (suc j)) k (omega arith)

-- a number of w bits is `bits_of` of a rule that its bits follow
pub is_bits_of : (w a : ℕ) (f : ℕ → Bool) → a < 2 ^ w → ((k : ℕ) → k < w → bit a k ≡ f k) → a ≡ bits_of w f
is_bits_of w a f h e = bit_ext w a (bits_of w f) h (bits_of_lt w f) (λ k l. e k l ∙ sym (bit_bits_of w f k l))

-- ── a number by its bits, the highest first ──

bit_digit : (b : Bool) (a : ℕ) → ((a * 2 + num b) / 2 ≡ a) × ((a * 2 + num b) % 2 ≡ num b)
bit_digit true a = (omega arith, omega arith)
bit_digit false a = (omega arith, omega arith)

pub word_of_lt : (n : ℕ) (f : ℕ → Bool) → word_of n f < 2 ^ n
unfolding word_of
word_of_lt zero f = omega arith
word_of_lt (suc n) f = omega (arith, word_of_lt n f, num_lt (f n), pow-suc 2 n)

-- bit k of it is f at the place that has k places below it
pub bit_word_of : (n : ℕ) (f : ℕ → Bool) (k i : ℕ) → i + suc k ≡ n → bit (word_of n f) k ≡ f i
unfolding word_of
bit_word_of zero f k i e = absurd (omega arith)
bit_word_of (suc n) f zero i e =
    let d : n ≡ i = omega arith in
    bit_zero (word_of (suc n) f) ∙ ap (λ (x : ℕ). eqb x 1) (bit_digit (f n) (word_of n f)).1 ∙ eqb_digit (f n) ∙ ap f d
bit_word_of (suc n) f (suc k) i e =
    bit_suc (word_of (suc n) f) k ∙ ap (λ (x : ℕ). bit x k) (bit_digit (f n) (word_of n f)).0 ∙ bit_word_of n f k i (omega arith)

-- a word of w bits is word_of of a rule that its bits follow
pub is_word_of : (w a : ℕ) (f : ℕ → Bool) → a < 2 ^ w → ((i : ℕ) → i < w → bit a (w - suc i) ≡ f i) → a ≡ word_of w f
is_word_of w a f h e =
    bit_ext w a (word_of w f) h (word_of_lt w f)
    (λ k l.
    let d : w - suc (w - suc k) ≡ k = omega arith in
    ap (bit a) (sym d) ∙ e (w - suc k) (omega arith) ∙ sym (bit_word_of w f k (w - suc k) (omega arith)))

-- `!a` on u64, as the code states it
pub not64 : (a k : ℕ) → a < 2 ^ 64 → k < 64 → bit (18446744073709551615 - a) k ≡ not (bit a k)
not64 a k h l = bit_not 64 a k h l

-- a u64 is the word of the rule that its places follow, and the word's places follow the rule
pub is_word64 : (a : ℕ) (f : ℕ → Bool) → a < 2 ^ 64 → ((i : ℕ) → i < 64 → place a i ≡ f i) → a ≡ word_of 64 f
is_word64 a f h e = is_word_of 64 a f h (λ i l. let d : 64 - suc i ≡ 63 - i = omega arith in ap (bit a) d ∙ e i l)

pub place_word64 : (f : ℕ → Bool) (i : ℕ) → i < 64 → place (word_of 64 f) i ≡ f i
place_word64 f i h = bit_word_of 64 f (63 - i) i (omega arith)

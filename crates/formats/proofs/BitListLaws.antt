-- Numbers, bytes and lists of bits: each gives the other back.
-- Assumes nothing.
use Prim.Native.Nat.{ℕ, zero, suc, ◌+◌, ◌-◌, ◌*◌, ◌/◌, ◌%◌, ◌^◌, ◌≤◌, ◌<◌, min}
use mathlib.Core.Path.{◌≡◌, refl, sym, ap, ap₂, ◌∙◌}
use mathlib.Core.Bool.{Bool, true, false}
use mathlib.Core.List.{List, [], ◌∷◌, ◌++◌, append_assoc}
use native.Mathlib.Omega.{arith}
use native.Mathlib.Nat.{mod-lt, mod-eq_of_lt, add_assoc, mul_assoc, add-mul, pow-suc, mul-add-mod_self_right}
use lib.Dec.{eqb}
use lib.ListN.{get_or, length, take, drop, length-append, length-take, length-drop, take-append-drop}
use lib.Pow.{pow_pos, pow_mono, pow-add, high, mod-pow-add}
use lib.Seq.{length-take-le, take_at, drop_at}
use Rattle.bits.specs.Bits.{bit, num}
use Rattle.bits.proofs.BitLaws.{bit_mod}
use Rattle.formats.specs.BitList.{AreBytes, none, one, bit_list, number_of, bits_of_bytes, bytes_of_bits}

pub length_bits : (w x : ℕ) → length (bit_list w x) ≡ w
unfolding bit_list
length_bits zero x = refl
length_bits (suc w) x = ap suc (length_bits w x)

list_ext : (w a b : ℕ) → ((k : ℕ) → k < w → bit a k ≡ bit b k) → bit_list w a ≡ bit_list w b
unfolding bit_list
list_ext zero a b h = refl
list_ext (suc w) a b h = ap₂ {C = List Bool} ◌∷◌ (h w (omega arith)) (list_ext w a b (λ k l. h k (omega arith)))

-- the bits above do not show
list_high : (w c x : ℕ) → bit_list w (c * 2 ^ w + x) ≡ bit_list w x
list_high w c x =
    list_ext w (c * 2 ^ w + x) x
    (λ k h. sym (bit_mod w (c * 2 ^ w + x) k h) ∙ ap (λ (y : ℕ). bit y k) (mul-add-mod_self_right c (2 ^ w) x) ∙ bit_mod w x k h)

pub number_lt : (bs : List Bool) → number_of bs < 2 ^ length bs
unfolding number_of
number_lt [] = pow_pos 0
number_lt (b ∷ bs) = go b (number_lt bs)
  where
    go : (c : Bool) → number_of bs < 2 ^ length bs → num c * 2 ^ length bs + number_of bs < 2 ^ suc (length bs)
    go true h = omega (arith, pow-suc 2 (length bs))
    go false h = omega (arith, pow-suc 2 (length bs))

pub digit : (m : ℕ) → m < 2 → num (eqb m 1) ≡ m
digit zero h = refl
digit (suc zero) h = refl
digit (suc (suc m)) h = absurd (omega arith)

-- the number of the lowest w bits
pub number_list : (w x : ℕ) → number_of (bit_list w x) ≡ x % 2 ^ w
unfolding bit_list number_of bit
number_list zero x = omega arith
number_list (suc w) x =
    ap₂ (λ (n l : ℕ). n * 2 ^ l + number_of (bit_list w x)) (digit (x / 2 ^ w % 2) (mod-lt (x / 2 ^ w) (pow_pos 1))) (length_bits w x)
    ∙ ap (λ (n : ℕ). x / 2 ^ w % 2 * 2 ^ w + n) (number_list w x)
    ∙ sym (mod-pow-add x 1 w)
    ∙ ap (λ (n : ℕ). x % 2 ^ n) (let e : 1 + w ≡ suc w = omega arith in e)

pub list_back : (w x : ℕ) → x < 2 ^ w → number_of (bit_list w x) ≡ x
list_back w x h = number_list w x ∙ mod-eq_of_lt h

bit_digit : (b : Bool) → eqb (num b % 2) 1 ≡ b
bit_digit true = refl
bit_digit false = refl

-- the bits of the number of bits
pub list_number : (bs : List Bool) → bit_list (length bs) (number_of bs) ≡ bs
unfolding bit_list number_of bit
list_number [] = refl
list_number (b ∷ bs) =
    ap₂ {C = List Bool} ◌∷◌ (ap (λ (n : ℕ). eqb (n % 2) 1) (high (num b) (length bs) (number_lt bs)) ∙ bit_digit b)
    (list_high (length bs) (num b) (number_of bs) ∙ list_number bs)

regroup : (c a b n m : ℕ) → c * 2 ^ (a + b) + (n * 2 ^ b + m) ≡ (c * 2 ^ a + n) * 2 ^ b + m
regroup c a b n m = rw (pow-add 2 a b, add-mul, mul_assoc, add_assoc)

pub number_append : (xs ys : List Bool) → number_of (xs ++ ys) ≡ number_of xs * 2 ^ length ys + number_of ys
unfolding number_of
number_append [] ys = omega arith
number_append (x ∷ xs) ys =
    ap₂ (λ (l m : ℕ). num x * 2 ^ l + m) (length-append xs ys) (number_append xs ys)
    ∙ regroup (num x) (length xs) (length ys) (number_of xs) (number_of ys)

-- ── bytes ──

pub are_all : (xs : List ℕ) → ((i : ℕ) → get_or xs i 0 < 2 ^ 8) → AreBytes xs
are_all [] h = none
are_all (x ∷ xs) h = one (h 0) (are_all xs (λ i. h (suc i)))

pub bits_append : (xs ys : List ℕ) → bits_of_bytes (xs ++ ys) ≡ bits_of_bytes xs ++ bits_of_bytes ys
unfolding bits_of_bytes
bits_append [] ys = refl
bits_append (x ∷ xs) ys = ap (λ (l : List Bool). bit_list 8 x ++ l) (bits_append xs ys) ∙ sym (append_assoc (bit_list 8 x) (bits_of_bytes xs) (bits_of_bytes ys))

pub length_bits_of_bytes : (xs : List ℕ) → length (bits_of_bytes xs) ≡ 8 * length xs
unfolding bits_of_bytes
length_bits_of_bytes [] = refl
length_bits_of_bytes (x ∷ xs) =
    let a : length (bit_list 8 x ++ bits_of_bytes xs) ≡ length (bit_list 8 x) + length (bits_of_bytes xs) = length-append (bit_list 8 x) (bits_of_bytes xs) in
    omega (arith, length_bits 8 x, length_bits_of_bytes xs)

pub length_bytes_of_bits : (n : ℕ) (bs : List Bool) → length (bytes_of_bits n bs) ≡ n
unfolding bytes_of_bits
length_bytes_of_bits zero bs = refl
length_bytes_of_bits (suc n) bs = ap suc (length_bytes_of_bits n (drop 8 bs))

pub bytes_back : (xs : List ℕ) → AreBytes xs → bytes_of_bits (length xs) (bits_of_bytes xs) ≡ xs
unfolding bits_of_bytes bytes_of_bits
bytes_back [] none = refl
bytes_back (x ∷ xs) (one h f) =
    ap₂ {C = List ℕ} ◌∷◌
    (ap number_of (take_at (bit_list 8 x) (bits_of_bytes xs) 8 (length_bits 8 x)) ∙ list_back 8 x h)
    (ap (bytes_of_bits (length xs)) (drop_at (bit_list 8 x) (bits_of_bytes xs) 8 (length_bits 8 x)) ∙ bytes_back xs f)

pub bits_back : (n : ℕ) (bs : List Bool) → length bs ≡ 8 * n → bits_of_bytes (bytes_of_bits n bs) ≡ bs
unfolding bits_of_bytes bytes_of_bits
bits_back zero [] h = refl
bits_back zero (b ∷ bs) h = absurd (omega arith)
bits_back (suc n) bs h =
    let l : length (take 8 bs) ≡ 8 = length-take-le 8 bs (omega arith) in
    let d : length (drop 8 bs) ≡ 8 * n = let e : length (drop 8 bs) ≡ length bs - 8 = length-drop 8 bs in omega arith in
    ap₂ (λ (x y : List Bool). x ++ y) (ap (λ (w : ℕ). bit_list w (number_of (take 8 bs))) (sym l) ∙ list_number (take 8 bs)) (bits_back n (drop 8 bs) d)
    ∙ take-append-drop 8 bs

pub are_bytes : (n : ℕ) (bs : List Bool) → AreBytes (bytes_of_bits n bs)
unfolding bytes_of_bits
are_bytes zero bs = none
are_bytes (suc n) bs =
    let l : length (take 8 bs) ≤ 8 = let e : length (take 8 bs) ≡ min 8 (length bs) = length-take 8 bs in omega arith in
    let p : 2 ^ length (take 8 bs) ≤ 2 ^ 8 = pow_mono l in
    let q : number_of (take 8 bs) < 2 ^ length (take 8 bs) = number_lt (take 8 bs) in
    let r : number_of (take 8 bs) < 2 ^ 8 = omega arith in
    one r (are_bytes n (drop 8 bs))

-- A bit of bytes by its place, and a number of bits from a place on: past the end there are zeros.
-- Assumes nothing.
use Prim.Native.Nat.{ℕ, zero, suc, ◌+◌, ◌-◌, ◌*◌, ◌/◌, ◌%◌, ◌^◌, ◌≤◌, ◌<◌}
use mathlib.Core.Path.{◌≡◌, refl, sym, ap, ap₂, ◌∙◌}
use mathlib.Core.Bool.{Bool, false}
use mathlib.Core.List.{List, [], ◌∷◌, ◌++◌}
use native.Mathlib.Omega.{arith}
use native.Mathlib.Nat.{mod-lt, mul_comm, add-zero, add-suc, mul-one, mul_assoc, pow-suc}
use native.Mathlib.Decide.{dec_lt}
use lib.ListN.{length, get_or, take, drop, get_or-append, get_or-eq_default}
use lib.Pow.{pow_pos, pow_mono}
use lib.Seq.{get_or-drop, take-suc, take-length, get_or-append-add}
use Rattle.bits.specs.Bits.{bit, num, word_of}
use Rattle.bits.proofs.BitLaws.{bit_none, word_of_lt}
use Rattle.formats.specs.BitList.{bit_list, number_of, bits_of_bytes, filled}
use Rattle.formats.proofs.BitListLaws.{length_bits, number_append, digit}

pub bit_in : (w x j : ℕ) → j < w → get_or (bit_list w x) j false ≡ bit x (w - suc j)
unfolding bit_list
bit_in zero x j h = absurd (omega arith)
bit_in (suc w) x zero h = ap (bit x) (let e : w ≡ suc w - 1 = omega arith in e)
bit_in (suc w) x (suc j) h = bit_in w x j (omega arith) ∙ ap (bit x) (let e : w - suc j ≡ suc w - suc (suc j) = omega arith in e)

-- bit p of bytes
pub bits_at : (xs : List ℕ) (p : ℕ) → get_or (bits_of_bytes xs) p false ≡ bit (get_or xs (p / 8) 0) (7 - p % 8)
unfolding bits_of_bytes
bits_at [] p = sym (bit_none (7 - p % 8))
bits_at (x ∷ xs) p = go (dec_lt p 8) (bits_at xs (p - 8))
  where
    go : Dec (p < 8) → get_or (bits_of_bytes xs) (p - 8) false ≡ bit (get_or xs ((p - 8) / 8) 0) (7 - (p - 8) % 8)
        → get_or (bit_list 8 x ++ bits_of_bytes xs) p false ≡ bit (get_or (x ∷ xs) (p / 8) 0) (7 - p % 8)
    go (yes l) ih =
        let k : p < length (bit_list 8 x) = let z : length (bit_list 8 x) ≡ 8 = length_bits 8 x in omega arith in
        let a : p / 8 ≡ 0 = omega arith in
        let b : 8 - suc p ≡ 7 - p % 8 = omega arith in
        get_or-append (bit_list 8 x) (bits_of_bytes xs) false p k ∙ bit_in 8 x p l ∙ ap₂ (λ (i j : ℕ). bit (get_or (x ∷ xs) i 0) j) (sym a) b
    go (no l) ih =
        let a : suc ((p - 8) / 8) ≡ p / 8 = omega arith in
        let b : 7 - (p - 8) % 8 ≡ 7 - p % 8 = omega arith in
        let c : p ≡ length (bit_list 8 x) + (p - 8) = let z : length (bit_list 8 x) ≡ 8 = length_bits 8 x in omega arith in
        ap (λ (i : ℕ). get_or (bit_list 8 x ++ bits_of_bytes xs) i false) c
        ∙ get_or-append-add (bit_list 8 x) (bits_of_bytes xs) (p - 8) false ∙ ih ∙ ap₂ (λ (i j : ℕ). bit (get_or (x ∷ xs) i 0) j) a b

pub filled_whole : (w : ℕ) (bs : List Bool) → w ≤ length bs → filled w bs ≡ number_of (take w bs)
unfolding word_of number_of
filled_whole zero bs h = refl
filled_whole (suc w) bs h =
    let b : Bool = get_or bs w false in
    ap (λ (n : ℕ). n * 2 + num b) (filled_whole w bs (omega arith))
    ∙ (let e : number_of (take w bs ++ (b ∷ [])) ≡ number_of (take w bs) * 2 ^ 1 + (num b * 2 ^ 0 + 0) = number_append (take w bs) (b ∷ []) in
    let f : number_of (take w bs) * 2 + num b ≡ number_of (take w bs ++ (b ∷ [])) = omega arith in f)
    ∙ ap number_of (sym (take-suc bs w false (omega arith)))

past : (bs : List Bool) (m : ℕ) → filled (length bs + m) bs ≡ number_of bs * 2 ^ m
unfolding word_of
past bs zero = ap (λ (w : ℕ). filled w bs) (add-zero (length bs)) ∙ filled_whole (length bs) bs (omega arith) ∙ ap number_of (take-length bs) ∙ sym (mul-one (number_of bs))
past bs (suc m) =
    ap (λ (w : ℕ). filled w bs) (add-suc (length bs) m)
    ∙ ap₂ (λ (n : ℕ) (b : Bool). n * 2 + num b) (past bs m) (get_or-eq_default bs false (let l : length bs ≤ length bs + m = omega arith in l))
    ∙ add-zero (number_of bs * 2 ^ m * 2) ∙ mul_assoc (number_of bs) (2 ^ m) 2 ∙ ap (λ (n : ℕ). number_of bs * n) (sym (pow-suc 2 m))

pub filled_short : (w : ℕ) (bs : List Bool) → length bs ≤ w → filled w bs ≡ number_of bs * 2 ^ (w - length bs)
filled_short w bs h = ap (λ (v : ℕ). filled v bs) (let e : w ≡ length bs + (w - length bs) = omega arith in e) ∙ past bs (w - length bs)

-- ── as code has it ──

pub bit_number : (xs : List ℕ) (p : ℕ) → get_or xs (p / 8) 0 / 2 ^ (7 - p % 8) % 2 ≡ num (get_or (bits_of_bytes xs) p false)
unfolding bit
bit_number xs p =
    let x : ℕ = get_or xs (p / 8) 0 / 2 ^ (7 - p % 8) in
    sym (digit (x % 2) (mod-lt x (pow_pos 1))) ∙ ap num (sym (bits_at xs p))

pub bit_past : (xs : List ℕ) (p : ℕ) → length xs ≤ p / 8 → 0 ≡ num (get_or (bits_of_bytes xs) p false)
bit_past xs p h = sym (ap num (bits_at xs p ∙ ap (λ (x : ℕ). bit x (7 - p % 8)) (get_or-eq_default xs 0 h) ∙ bit_none (7 - p % 8)))

-- one more bit
pub filled_next : (xs : List ℕ) (at i : ℕ) → 2 * filled i (drop at (bits_of_bytes xs)) + num (get_or (bits_of_bytes xs) (at + i) false) ≡ filled (suc i) (drop at (bits_of_bytes xs))
unfolding word_of
filled_next xs at i =
    ap₂ (λ (n : ℕ) (b : Bool). n + num b) (mul_comm 2 (filled i (drop at (bits_of_bytes xs)))) (sym (get_or-drop at (bits_of_bytes xs) i false))

pub filled_lt : (w m : ℕ) (bs : List Bool) → w ≤ m → filled w bs < 2 ^ m
filled_lt w m bs h =
    let a : filled w bs < 2 ^ w = word_of_lt w (λ i. get_or bs i false) in
    let b : 2 ^ w ≤ 2 ^ m = pow_mono h in
    omega arith

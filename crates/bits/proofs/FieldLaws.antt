-- Packing and unpacking undo one another, over any list of widths.
-- Assumes nothing.
use Prim.Native.Nat.{ℕ, suc, ◌+◌, ◌*◌, ◌/◌, ◌%◌, ◌^◌, ◌≤◌, ◌<◌}
use mathlib.Core.Path.{◌≡◌, refl, sym, ap, ap₂, ◌∙◌}
use mathlib.Core.List.{List, [], ◌∷◌}
use native.Mathlib.Omega.{arith}
use native.Mathlib.Nat.{mod-lt, mod-mod, mod-eq_of_lt, suc-mul, mul-le-mul_right}
use lib.Pow.{pow_pos, pow-add, split, high, low, shr_mod, mod-mod-pow, field as pow-field}
use lib.ListN.{length}
use Rattle.bits.specs.Fields.{total, pack, unpack, Fit, none, one}

place_lt : (w s x p : ℕ) → x < 2 ^ w → p < 2 ^ s → x * 2 ^ s + p < 2 ^ (w + s)
place_lt w s x p h l =
    let a : suc x * 2 ^ s ≤ 2 ^ w * 2 ^ s = mul-le-mul_right (2 ^ s) h in
    let b : suc x * 2 ^ s ≡ x * 2 ^ s + 2 ^ s = suc-mul x (2 ^ s) in
    let c : 2 ^ (w + s) ≡ 2 ^ w * 2 ^ s = pow-add 2 w s in
    omega arith

pub pack_lt : {ws xs : List ℕ} → Fit ws xs → pack ws xs < 2 ^ total ws
unfolding pack
pack_lt none = pow_pos 0
pack_lt (one {w = w} {x = x} {ws = ws} {xs = xs} h f) = place_lt w (total ws) x (pack ws xs) h (pack_lt f)

-- the bits above a layout do not show in its fields
unpack_mod : (ws : List ℕ) (n : ℕ) → unpack ws (n % 2 ^ total ws) ≡ unpack ws n
unfolding unpack
unpack_mod [] n = refl
unpack_mod (w ∷ ws) n =
    let m : ℕ = n % 2 ^ (w + total ws) in
    let a : m / 2 ^ total ws % 2 ^ w ≡ n / 2 ^ total ws % 2 ^ w =
    ap (λ (x : ℕ). x % 2 ^ w) (pow-field n w (total ws)) ∙ mod-mod (n / 2 ^ total ws) (2 ^ w) in
    let b : unpack ws m ≡ unpack ws n =
    sym (unpack_mod ws m) ∙ ap (unpack ws) (mod-mod-pow n w (total ws)) ∙ unpack_mod ws n in
    ap₂ {C = List ℕ} ◌∷◌ a b

pub unpack_pack : {ws xs : List ℕ} → Fit ws xs → unpack ws (pack ws xs) ≡ xs
unfolding unpack pack
unpack_pack none = refl
unpack_pack (one {w = w} {x = x} {ws = ws} {xs = xs} h f) =
    let p : ℕ = pack ws xs in
    let l : p < 2 ^ total ws = pack_lt f in
    let a : (x * 2 ^ total ws + p) / 2 ^ total ws % 2 ^ w ≡ x =
    ap (λ (y : ℕ). y % 2 ^ w) (high x (total ws) l) ∙ mod-eq_of_lt h in
    let b : unpack ws (x * 2 ^ total ws + p) ≡ xs =
    sym (unpack_mod ws (x * 2 ^ total ws + p)) ∙ ap (unpack ws) (low x (total ws) l) ∙ unpack_pack f in
    ap₂ {C = List ℕ} ◌∷◌ a b

pub pack_unpack : (ws : List ℕ) (n : ℕ) → n < 2 ^ total ws → pack ws (unpack ws n) ≡ n
unfolding unpack pack
pack_unpack [] n h = omega arith
pack_unpack (w ∷ ws) n h =
    ap₂ (λ (x y : ℕ). x * 2 ^ total ws + y) (shr_mod w (total ws) h)
    (ap (pack ws) (sym (unpack_mod ws n)) ∙ pack_unpack ws (n % 2 ^ total ws) (mod-lt n (pow_pos (total ws))))
    ∙ split n (total ws)

pub unpack_fits : (ws : List ℕ) (n : ℕ) → Fit ws (unpack ws n)
unfolding unpack
unpack_fits [] n = none
unpack_fits (w ∷ ws) n = one (mod-lt (n / 2 ^ total ws) (pow_pos w)) (unpack_fits ws n)

pub fit_length : {ws xs : List ℕ} → Fit ws xs → length xs ≡ length ws
fit_length none = refl
fit_length (one h f) = ap suc (fit_length f)

-- Packing and unpacking by layouts one after the other, and bytes as one number.
-- Assumes nothing.
use Prim.Native.Nat.{ℕ, zero, suc, ◌+◌, ◌*◌, ◌^◌, ◌<◌}
use mathlib.Core.Path.{◌≡◌, refl, sym, ap, ◌∙◌}
use mathlib.Core.List.{List, [], ◌∷◌, ◌++◌}
use native.Mathlib.Omega.{arith}
use native.Mathlib.Nat.{add-zero, add_assoc, mul_assoc, add-mul, suc_inj}
use lib.ListN.{length, replicate, length-append, length-replicate, replicate-append-replicate}
use lib.Pow.{pow-add}
use Rattle.bits.specs.Fields.{total, pack, unpack, of_bytes, Fit, none, one}
use Rattle.bits.proofs.FieldLaws.{unpack_pack, pack_unpack, unpack_fits, fit_length}

total_append : (ws vs : List ℕ) → total (ws ++ vs) ≡ total ws + total vs
total_append [] vs = omega arith
total_append (w ∷ ws) vs = omega (arith, total_append ws vs)

-- the fields of the first layout stand above those of the second
pub pack_append : (ws vs xs ys : List ℕ) → length xs ≡ length ws → pack (ws ++ vs) (xs ++ ys) ≡ pack ws xs * 2 ^ total vs + pack vs ys
unfolding pack
pack_append [] vs [] ys h = omega arith
pack_append [] vs (x ∷ xs) ys h = absurd (omega arith)
pack_append (w ∷ ws) vs [] ys h = absurd (omega arith)
pack_append (w ∷ ws) vs (x ∷ xs) ys h =
    rw (total_append ws vs, pow-add 2 (total ws) (total vs), pack_append ws vs xs ys (suc_inj h), add-mul, mul_assoc, add_assoc)

pub fit_append : {ws vs xs ys : List ℕ} → Fit ws xs → Fit vs ys → Fit (ws ++ vs) (xs ++ ys)
fit_append none g = g
fit_append (one h f) g = one h (fit_append f g)

-- a number above packed fields
pub unpack_append : (ws vs : List ℕ) (x : ℕ) (ys : List ℕ) → x < 2 ^ total ws → Fit vs ys
    → unpack (ws ++ vs) (x * 2 ^ total vs + pack vs ys) ≡ unpack ws x ++ ys
unpack_append ws vs x ys h g =
    let f = unpack_fits ws x in
    ap (unpack (ws ++ vs))
    (sym (pack_append ws vs (unpack ws x) ys (fit_length f) ∙ ap (λ (n : ℕ). n * 2 ^ total vs + pack vs ys) (pack_unpack ws x h)))
    ∙ unpack_pack (fit_append f g)

-- a number above another
pub unpack_parts : (ws vs : List ℕ) (x y : ℕ) → x < 2 ^ total ws → y < 2 ^ total vs → unpack (ws ++ vs) (x * 2 ^ total vs + y) ≡ unpack ws x ++ unpack vs y
unpack_parts ws vs x y h g =
    ap (λ (n : ℕ). unpack (ws ++ vs) (x * 2 ^ total vs + n)) (sym (pack_unpack vs y g)) ∙ unpack_append ws vs x (unpack vs y) h (unpack_fits vs y)

-- two fields
pub pack_two : (w v x y : ℕ) → pack (w ∷ v ∷ []) (x ∷ y ∷ []) ≡ x * 2 ^ v + y
unfolding pack
pack_two w v x y = rw (add-zero v) (omega arith)

pub total_bytes : (n : ℕ) → total (replicate n 8) ≡ 8 * n
total_bytes zero = refl
total_bytes (suc n) = omega (arith, total_bytes n)

-- bytes that n others follow
pub bytes_append : (xs ys : List ℕ) (n : ℕ) → length ys ≡ n → of_bytes (xs ++ ys) ≡ of_bytes xs * 2 ^ (8 * n) + of_bytes ys
bytes_append xs ys n h =
    rw (
      length-append,
      ← replicate-append-replicate {A = ℕ} (length xs) (length ys) 8,
      pack_append (replicate (length xs) 8) (replicate (length ys) 8) xs ys (sym (length-replicate {A = ℕ} (length xs) 8)),
      total_bytes,
      h,
    )

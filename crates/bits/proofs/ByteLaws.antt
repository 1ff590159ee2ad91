-- Bytes and the number that they are: each gives the other back.
-- Assumes nothing.
use Prim.Native.Nat.{ℕ, zero, suc, ◌*◌, ◌^◌, ◌<◌}
use mathlib.Core.Path.{◌≡◌, sym, ap, ◌∙◌, subst}
use mathlib.Core.List.{List, [], ◌∷◌}
use lib.ListN.{get_or, length, replicate, length-replicate}
use lib.Pow.{pow_pos}
use Rattle.bits.specs.Fields.{pack, of_bytes, to_bytes, Fit, none, one}
use Rattle.bits.proofs.FieldLaws.{pack_lt, unpack_pack, pack_unpack, unpack_fits, fit_length}
use Rattle.bits.proofs.PackLaws.{total_bytes}

-- a list of bytes fits the layout of as many
pub bytes_fit : (bs : List ℕ) → ((i : ℕ) → get_or bs i 0 < 2 ^ 8) → Fit (replicate (length bs) 8) bs
bytes_fit [] h = none
bytes_fit (b ∷ bs) h = one (h 0) (bytes_fit bs (λ i. h (suc i)))

-- and what fits it is a list of bytes
fit_byte : (count : ℕ) (bs : List ℕ) → Fit (replicate count 8) bs → (i : ℕ) → get_or bs i 0 < 2 ^ 8
fit_byte zero [] none i = pow_pos 8
fit_byte zero (b ∷ bs) f i = elim f [ ]
fit_byte (suc count) [] f i = elim f [ ]
fit_byte (suc count) (b ∷ bs) (one h f) zero = h
fit_byte (suc count) (b ∷ bs) (one h f) (suc i) = fit_byte count bs f i

pub length_bytes : (count n : ℕ) → length (to_bytes count n) ≡ count
length_bytes count n = fit_length (unpack_fits (replicate count 8) n) ∙ length-replicate count 8

pub is_byte : (count n i : ℕ) → get_or (to_bytes count n) i 0 < 2 ^ 8
is_byte count n i = fit_byte count (to_bytes count n) (unpack_fits (replicate count 8) n) i

pub bytes_lt : (bs : List ℕ) → ((i : ℕ) → get_or bs i 0 < 2 ^ 8) → of_bytes bs < 2 ^ (8 * length bs)
bytes_lt bs h = subst (λ (k : ℕ). of_bytes bs < 2 ^ k) (total_bytes (length bs)) (pack_lt (bytes_fit bs h))

-- the bytes of the number of bytes
pub to_of_bytes : (bs : List ℕ) → ((i : ℕ) → get_or bs i 0 < 2 ^ 8) → to_bytes (length bs) (of_bytes bs) ≡ bs
to_of_bytes bs h = unpack_pack (bytes_fit bs h)

-- the number of the bytes of a number
pub of_to_bytes : (count n : ℕ) → n < 2 ^ (8 * count) → of_bytes (to_bytes count n) ≡ n
of_to_bytes count n h =
    ap (λ (k : ℕ). pack (replicate k 8) (to_bytes count n)) (length_bytes count n)
    ∙ pack_unpack (replicate count 8) n (subst (λ (k : ℕ). n < 2 ^ k) (sym (total_bytes count)) h)

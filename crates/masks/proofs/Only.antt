-- One alert among those from a place on.
-- Assumes nothing.
use Prim.Native.Nat.{ℕ, ◌+◌, ◌-◌, ◌<◌}
use mathlib.Core.Path.{◌≡◌, sym, ap₂, ◌∙◌}
use mathlib.Core.Bool.{xor}
use native.Mathlib.Decide.{dec_lt}
use native.Mathlib.Omega.{arith}
use borrow.Author.Tests.{lt-ltb, le-ltb, eq-eqb, ne_eqb}
use lib.Bits.{bit_xor}
use lib.Dec.{eqb, ltb}
use Rattle.bits.specs.Bits.{place}
use Rattle.bits.proofs.BitLaws.{bit_xor_law}

-- below i + 1 and not below i: i itself
either : (x i : ℕ) → xor (ltb x (i + 1)) (ltb x i) ≡ eqb x i
unfolding xor
either x i = go (dec_lt x i) (dec_lt i x)
  where
    go : Dec (x < i) → Dec (i < x) → xor (ltb x (i + 1)) (ltb x i) ≡ eqb x i
    go (yes l) r = ap₂ xor (lt-ltb x (i + 1) (omega (arith, l))) (lt-ltb x i l) ∙ sym (ne_eqb x i (λ (e : x ≡ i). omega (arith, e, l)))
    go (no l) (yes r) = ap₂ xor (le-ltb x (i + 1) (omega (arith, r))) (le-ltb x i (omega (arith, r))) ∙ sym (ne_eqb x i (λ (e : x ≡ i). omega (arith, e, r)))
    go (no l) (no r) =
        let e : x ≡ i = omega (arith, l, r) in
        ap₂ xor (lt-ltb x (i + 1) (omega (arith, e))) (le-ltb x i (omega (arith, e))) ∙ sym (eq-eqb x i e)

pub only_at : (i b x y : ℕ) → ((j : ℕ) → j < 64 → place x j ≡ ltb (b + j) (i + 1)) → ((j : ℕ) → j < 64 → place y j ≡ ltb (b + j) i)
    → (j : ℕ) → j < 64 → place (bit_xor x y) j ≡ eqb (b + j) i
only_at i b x y p q j l = bit_xor_law x y (63 - j) ∙ ap₂ xor (p j l) (q j l) ∙ either (b + j) i

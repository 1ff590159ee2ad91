-- The word with the place of one alert, if its ping opens, as `ask_word` makes it; and a word without that place.
-- Assumes nothing.
use Prim.Native.Nat.{ℕ, ◌+◌, ◌-◌, ◌*◌, ◌^◌, ◌<◌}
use mathlib.Core.Path.{◌≡◌, refl, sym, ap, ap₂, ◌∙◌}
use mathlib.Core.Bool.{Bool, true, false, true≢false, false≢true, not, ◌&&◌}
use mathlib.Core.List.{List}
use native.Mathlib.Omega.{arith}
use lib.Bits.{bit_and, and_le_r}
use lib.Dec.{eqb, ltb}
use lib.ListN.{get_or}
use Rattle.bits.specs.Bits.{place}
use Rattle.bits.proofs.BitLaws.{bit_none, bit_and_law, not64, word_of_lt, is_word64, place_word64}
use Rattle.bits.proofs.WordLaws.{place_in_at}
use Rattle.samples.specs.Paced.{ask_word, closed_word}

-- a ping that opens, and is no line's
asked : (opens line here : Bool) → (opens && not line) ≡ true → here ≡ (opens && (not line && here))
asked true false here e = refl
asked true true here e = absurd (false≢true e)
asked false line here e = absurd (false≢true e)

unasked : (opens line here : Bool) → (opens && not line) ≡ false → false ≡ (opens && (not line && here))
unasked true false here e = absurd (true≢false e)
unasked true true here e = refl
unasked false line here e = refl

module _ (opens line : Bool) (i v : ℕ) where
  pub one_word : (x : ℕ) → x < 2 ^ 64 → ((b : ℕ) → b < 64 → place x b ≡ eqb (v * 64 + b) i) → (opens && not line) ≡ true → x ≡ ask_word opens line i v
  one_word x h p e = is_word64 x _ h (λ b l. p b l ∙ asked opens line (eqb (v * 64 + b) i) e)

  pub no_word : (opens && not line) ≡ false → 0 ≡ ask_word opens line i v
  no_word e = is_word64 0 _ (omega arith) (λ b h. bit_none (63 - b) ∙ unasked opens line (eqb (v * 64 + b) i) e)

-- the open pings without one that fails
module _ (n : ℕ) (pends : List ℕ) (fails : Bool) (i v l a : ℕ) where
  pub closed_word_law : ((b : ℕ) → b < 64 → place l b ≡ ltb (v * 64 + b) n) → a ≡ ask_word fails false i v
      → bit_and (get_or pends v 0) (18446744073709551615 - bit_and l a) ≡ closed_word n pends fails i v
  closed_word_law pl e =
      is_word64 (bit_and w (18446744073709551615 - bit_and l a)) _ (omega (arith, and_le_r w (18446744073709551615 - bit_and l a)))
      (λ b h.
      bit_and_law w (18446744073709551615 - bit_and l a) (63 - b)
      ∙ ap₂ ◌&&◌ (sym (place_in_at pends v b h))
      (not64 (bit_and l a) (63 - b) small (omega arith) ∙ ap not (bit_and_law l a (63 - b) ∙ ap₂ ◌&&◌ (pl b h) (ap (λ (x : ℕ). place x b) e ∙ place_word64 (λ j. fails && eqb (v * 64 + j) i) b h))))
    where
      w : ℕ
      w = get_or pends v 0

      small : bit_and l a < 2 ^ 64
      small = let h : a < 2 ^ 64 = rw e (word_of_lt 64 (λ b. fails && eqb (v * 64 + b) i)) in omega (arith, h, and_le_r l a)

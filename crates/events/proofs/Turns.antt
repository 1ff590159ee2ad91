-- A walk over the alerts of one word that a rule names: those that have had their turn, and those that are left.
-- Assumes nothing.
use Prim.Native.Nat.{ℕ, suc, ◌+◌, ◌-◌, ◌*◌, ◌≤◌, ◌<◌}
use mathlib.Core.Path.{◌≡◌, sym, ap, ap₂, ◌∙◌}
use mathlib.Core.Bool.{Bool, true, false, ◌&&◌, and_assoc}
use mathlib.Core.List.{List}
use native.Mathlib.Omega.{arith}
use native.Mathlib.Decide.{dec_lt}
use lib.Bits.{bit_and}
use lib.Dec.{leb, ltb}
use lib.ListN.{get_or}
use borrow.Author.Tests.{lt-ltb, le-ltb, le-leb, lt-leb, leb-true, ltb-true}
use Rattle.bits.specs.Bits.{place}
use Rattle.bits.specs.Index.{place_in}
use Rattle.bits.proofs.BitLaws.{bit_and_law, bit_none}
use Rattle.bits.proofs.IndexLaws.{and-true}
use Rattle.bits.proofs.WordLaws.{place_in_at}
use Rattle.events.specs.Gathered.{among_words}
use Rattle.events.specs.Noted.{enabled_in}
use Rattle.masks.specs.Places.{First, Rest}

-- the alerts of word v below i have had their turn; of the others those with f are left
pub record Left (f : ℕ → Bool) (v i left : ℕ) : Type 0 where
  pub from : v * 64 ≤ i
  pub to : i ≤ suc v * 64
  pub rest : (b : ℕ) → b < 64 → place left b ≡ (leb i (v * 64 + b) && f (v * 64 + b))

-- the alerts below n that the words name
abbrev pub counted : ℕ → List ℕ → ℕ → Bool
counted n ws i = ltb i n && place_in ws i

-- and the enabled ones among them
abbrev pub visited : ℕ → List ℕ → List ℕ → ℕ → Bool
visited n ws en i = ltb i n && among_words ws en i

pub counted_below : (n : ℕ) (ws : List ℕ) (i : ℕ) → counted n ws i ≡ true → i < n
counted_below n ws i e = ltb-true i n (and-true (ltb i n) (place_in ws i) e).0

-- an alert that counts is visited if it is enabled, any other is not
pub visited_here : (n : ℕ) (ws en : List ℕ) (i : ℕ) → counted n ws i ≡ true → visited n ws en i ≡ enabled_in en i
visited_here n ws en i e = sym (and_assoc (ltb i n) (place_in ws i) (enabled_in en i)) ∙ ap (λ (t : Bool). t && enabled_in en i) e

pub visited_none : (n : ℕ) (ws en : List ℕ) (i : ℕ) → counted n ws i ≡ false → visited n ws en i ≡ false
visited_none n ws en i e = sym (and_assoc (ltb i n) (place_in ws i) (enabled_in en i)) ∙ ap (λ (t : Bool). t && enabled_in en i) e

-- at first no alert of the word has had its turn
pub left_start : (n : ℕ) (ws : List ℕ) (v live : ℕ) → ((b : ℕ) → b < 64 → place live b ≡ ltb (v * 64 + b) n)
    → Left (counted n ws) v (v * 64) (bit_and live (get_or ws v 0))
left_start n ws v live counts =
    record {
      from = omega arith;
      to = omega arith;
      rest = λ b h.
          bit_and_law live (get_or ws v 0) (63 - b) ∙ ap₂ ◌&&◌ (counts b h) (sym (place_in_at ws v b h))
          ∙ sym (ap (λ (t : Bool). t && counted n ws (v * 64 + b)) (le-leb (v * 64) (v * 64 + b) (omega arith)));
    }

module _ (f : ℕ → Bool) (v i left : ℕ) (s : Left f v i left) where
  -- where a place is not set, an alert from i on has no f
  unset : (b x : ℕ) → b < 64 → x ≡ v * 64 + b → i ≤ x → place left b ≡ false → f x ≡ false
  unset b x h e l p =
      ap f e
      ∙ sym (ap (λ (t : Bool). t && f (v * 64 + b)) (le-leb i (v * 64 + b) (omega arith)))
      ∙ sym (s.rest b h) ∙ p

  -- once no place is left, no alert of the word is
  pub left_end : left ≡ 0 → (x : ℕ) → i ≤ x → x < suc v * 64 → f x ≡ false
  left_end z x l h = unset (x - v * 64) x (omega (arith, s.from)) (omega (arith, s.from)) l (ap (λ (w : ℕ). place w (x - v * 64)) z ∙ bit_none (63 - (x - v * 64)))

  module _ (b : ℕ) (p : First left b) where
    both : (leb i (v * 64 + b) ≡ true) × (f (v * 64 + b) ≡ true)
    both = and-true (leb i (v * 64 + b)) (f (v * 64 + b)) (sym (s.rest b p.below) ∙ p.here)

    -- the next alert whose turn it is, and those before it that have none
    pub left_from : i ≤ v * 64 + b
    left_from = leb-true i (v * 64 + b) both.0

    pub left_here : f (v * 64 + b) ≡ true
    left_here = both.1

    pub left_none : (x : ℕ) → i ≤ x → x < v * 64 + b → f x ≡ false
    left_none x l h =
        unset (x - v * 64) x (omega (arith, s.from, p.below)) (omega (arith, s.from)) l (p.none (x - v * 64) (omega (arith, s.from)))

    -- after its turn
    pub left_after : (r : ℕ) → Rest left b r → Left f v (suc (v * 64 + b)) r
    left_after r q =
        record {
          from = omega arith;
          to = omega (arith, p.below);
          rest = λ j h. q.places j h ∙ ap (λ (t : Bool). ltb b j && t) (s.rest j h) ∙ go j (dec_lt b j);
        }
      where
        go : (j : ℕ) → Dec (b < j) → (ltb b j && (leb i (v * 64 + j) && f (v * 64 + j))) ≡ (leb (suc (v * 64 + b)) (v * 64 + j) && f (v * 64 + j))
        go j (yes l) = rw (lt-ltb b j l, le-leb i (v * 64 + j) (omega (arith, left_from)), le-leb (suc (v * 64 + b)) (v * 64 + j) (omega arith))
        go j (no l) = rw (le-ltb b j (omega arith), lt-leb (suc (v * 64 + b)) (v * 64 + j) (omega arith))

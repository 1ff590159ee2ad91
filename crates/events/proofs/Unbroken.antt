-- A search for an enabled alert along a walk over the alerts that words name.
-- Assumes nothing.
use Prim.Native.Nat.{ℕ, suc, ◌+◌, ◌*◌, ◌≤◌, ◌<◌}
use mathlib.Core.Path.{◌≡◌, sym, ap, ◌∙◌}
use mathlib.Core.Bool.{Bool, true, false, ◌&&◌}
use mathlib.Core.List.{List}
use native.Mathlib.Omega.{arith}
use native.Mathlib.Decide.{dec_lt}
use lib.Dec.{ltb}
use borrow.Author.Tests.{lt-ltb}
use Rattle.bits.specs.Index.{any_to, place_in}
use Rattle.bits.proofs.IndexLaws.{and-true, true_and, any_at, any_none}
use Rattle.events.specs.Noted.{enabled_in}
use Rattle.events.specs.Gathered.{among_words}
use Rattle.masks.specs.Places.{First}
use Rattle.events.proofs.Turns.{Left, counted, visited, counted_below, visited_here, visited_none, left_here, left_none, left_end}

-- none of the alerts below i was found
pub record Unbroken (n : ℕ) (ws en : List ℕ) (i : ℕ) : Type 0 where
  pub none : (x : ℕ) → x < i → visited n ws en x ≡ false

module _ (n : ℕ) (ws en : List ℕ) where
  pub unbroken_start : Unbroken n ws en 0
  unbroken_start = record { none = λ x h. absurd (omega arith) }

  skip : (i m : ℕ) → Unbroken n ws en i → ((x : ℕ) → i ≤ x → x < m → visited n ws en x ≡ false) → Unbroken n ws en m
  skip i m s named = record { none = λ x h. go x h (dec_lt x i) }
    where
      go : (x : ℕ) → x < m → Dec (x < i) → visited n ws en x ≡ false
      go x h (yes l) = s.none x l
      go x h (no l) = named x (omega arith) h

  -- so none of the n is there, once all have had their turn
  pub unbroken_end : (i : ℕ) → n ≤ i → Unbroken n ws en i → false ≡ any_to (among_words ws en) n
  unbroken_end i l s =
      sym (any_none (among_words ws en) n (λ x h. sym (ap (λ (t : Bool). t && among_words ws en x) (lt-ltb x n h)) ∙ s.none x (omega arith)))

  module _ (v i left : ℕ) (t : Left (counted n ws) v i left) where
    -- the word has no more
    pub unbroken_word : Unbroken n ws en i → left ≡ 0 → Unbroken n ws en (suc v * 64)
    unbroken_word s z = skip i (suc v * 64) s (λ x l h. visited_none n ws en x (left_end (counted n ws) v i left t z x l h))

    module _ (b : ℕ) (p : First left b) where
      -- the next one is not enabled
      pub unbroken_turn : Unbroken n ws en i → enabled_in en (v * 64 + b) ≡ false → Unbroken n ws en (suc (v * 64 + b))
      unbroken_turn s e =
          skip (v * 64 + b) (suc (v * 64 + b)) (skip i (v * 64 + b) s (λ x l h. visited_none n ws en x (left_none (counted n ws) v i left t b p x l h)))
          (λ x l h.
          let d : x ≡ v * 64 + b = omega arith in
          rw d (visited_here n ws en (v * 64 + b) (left_here (counted n ws) v i left t b p) ∙ e))

      -- or it is, and is found
      pub broken_turn : enabled_in en (v * 64 + b) ≡ true → true ≡ any_to (among_words ws en) n
      broken_turn e =
          let c = left_here (counted n ws) v i left t b p in
          sym (any_at (among_words ws en) n (v * 64 + b) (counted_below n ws (v * 64 + b) c) (true_and (and-true (ltb (v * 64 + b) n) (place_in ws (v * 64 + b)) c).1 e))

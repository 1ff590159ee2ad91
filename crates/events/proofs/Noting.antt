-- Events that are noted along a walk over the alerts that words name.
-- Assumes nothing.
use Prim.Native.Nat.{ℕ, suc, ◌+◌, ◌*◌, ◌<◌}
use mathlib.Core.Path.{◌≡◌}
use mathlib.Core.Bool.{◌&&◌}
use mathlib.Core.List.{List}
use lib.Bits.{bit_or}
use lib.Dec.{eqb}
use lib.ListN.{get_or, set}
use Rattle.bits.specs.Bits.{bits_of}
use Rattle.rules.specs.Samples.{marked}
use Rattle.events.specs.Noted.{Noted, enabled_in}
use Rattle.masks.specs.Places.{First}
use Rattle.events.proofs.Notes.{noted_skip, noted_step}
use Rattle.events.proofs.Turns.{Left, counted, visited, visited_here, visited_none, left_from, left_here, left_none, left_end}

module _ (n : ℕ) (ws en class before : List ℕ) (size v i left : ℕ) (t : Left (counted n ws) v i left) (cause : List ℕ) (hits : ℕ)
    (s : Noted (visited n ws en) class before size i cause hits) where
  -- the word has no more
  pub noted_word : left ≡ 0 → Noted (visited n ws en) class before size (suc v * 64) cause hits
  noted_word z =
      noted_skip (visited n ws en) class before size i cause hits s (suc v * 64) t.to
      (λ x l h. visited_none n ws en x (left_end (counted n ws) v i left t z x l h))

  -- the next one has its turn: its event is noted if it is enabled
  pub noted_turn : (b : ℕ) → First left b → v * 64 + b < size
      → Noted (visited n ws en) class before size (suc (v * 64 + b))
      (set cause (v * 64 + b) (marked (enabled_in en (v * 64 + b)) (get_or cause (v * 64 + b) 0)))
      (bit_or hits (bits_of 4 (λ k. enabled_in en (v * 64 + b) && eqb (get_or class (v * 64 + b) 0) k)))
  noted_turn b p h =
      let m : ℕ = v * 64 + b in
      let e : visited n ws en m ≡ enabled_in en m = visited_here n ws en m (left_here (counted n ws) v i left t b p) in
      rw (← e)
      (noted_step (visited n ws en) class before size m cause hits
      (noted_skip (visited n ws en) class before size i cause hits s m (left_from (counted n ws) v i left t b p)
      (λ x l g. visited_none n ws en x (left_none (counted n ws) v i left t b p x l g)))
      h)

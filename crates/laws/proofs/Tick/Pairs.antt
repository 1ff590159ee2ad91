-- Request (viii), the output pairs of a tick, alert by alert.
-- Assumes nothing.
use Prim.Native.Nat.{ℕ, ◌*◌, ◌<◌}
use mathlib.Core.Path.{◌≡◌}
use mathlib.Core.Bool.{Bool, not, ◌&&◌}
use lib.Dec.{ltb}
use Rattle.bits.proofs.WordLaws.{place_in_each}
use Rattle.bits.specs.Index.{place_in}
use Rattle.link_rules.specs.Receiver.{acknowledges}
use Rattle.rules.specs.State.{words, receiver}
use Rattle.rules.specs.Tick.{pairs, acknowledge_pairs, ping_pairs}
use Rattle.rules.specs.declared.Handler.{Handler}
use Rattle.rules.specs.declared.Wires.{Wires}

-- the pair (1,0) where b holds, else (0,1)
abbrev pub IsPair : Wires → ℕ → Bool → Type 0
IsPair w i b = (place_in w.pos i ≡ b) × (place_in w.neg i ≡ not b)

pub pairs_at : (f : ℕ → Bool) (i : ℕ) → i < words * 64 → IsPair (pairs f) i (f i)
pairs_at f i l = (place_in_each words f i l, place_in_each words (λ j. not (f j)) i l)

pub acknowledge_at : (h : Handler) (i : ℕ) → i < words * 64 → IsPair (acknowledge_pairs h) i (ltb i h.n && acknowledges (receiver h i).stands)
unfolding acknowledge_pairs
acknowledge_at h i l = pairs_at (λ j. ltb j h.n && acknowledges (receiver h j).stands) i l

pub ping_at : (g : Handler) (i : ℕ) → i < words * 64 → IsPair (ping_pairs g) i (ltb i g.n && (receiver g i).level)
unfolding ping_pairs
ping_at g i l = pairs_at (λ j. ltb j g.n && (receiver g j).level) i l

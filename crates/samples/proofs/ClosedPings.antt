-- Words by a rule of their places, and the receivers without a ping that fails.
-- Assumes nothing.
use Prim.Native.Nat.{ℕ, ◌+◌, ◌*◌, ◌<◌}
use mathlib.Core.Path.{◌≡◌, ap, ◌∙◌}
use mathlib.Core.Bool.{Bool, not, ◌&&◌}
use mathlib.Core.List.{List}
use native.Mathlib.Omega.{arith}
use lib.Dec.{eqb, ltb}
use Rattle.bits.specs.Bits.{word_of}
use Rattle.bits.specs.Index.{place_in, words_by}
use Rattle.bits.proofs.BitLaws.{word_of_lt, is_word64, place_word64}
use Rattle.bits.proofs.IndexLaws.{each_ext}
use Rattle.bits.proofs.WordLaws.{place_in_each}
use Rattle.link_rules.specs.declared.Receiver.{Receiver}
use Rattle.rules.specs.State.{words, receivers_by}
use Rattle.samples.specs.Paced.{closed_by}

-- rules that agree have the same words
pub words_ext : (n : ℕ) (f g : ℕ → Bool) → ((i : ℕ) → i < n * 64 → f i ≡ g i) → words_by n f ≡ words_by n g
words_ext n f g e =
    each_ext n (λ v. word_of 64 (λ b. f (v * 64 + b))) (λ v. word_of 64 (λ b. g (v * 64 + b))) 0
    (λ v h.
    is_word64 (word_of 64 (λ b. f (v * 64 + b))) (λ b. g (v * 64 + b)) (word_of_lt 64 (λ b. f (v * 64 + b)))
    (λ b l. place_word64 (λ b. f (v * 64 + b)) b l ∙ e (v * 64 + b) (omega arith)))

-- receiver j without its ping, if that is the one that fails
abbrev pub without : ℕ → Bool → ℕ → (ℕ → Receiver) → ℕ → Receiver
without n fails i f j =
    record { stands = (f j).stands; level = (f j).level; pending = (f j).pending && not (ltb j n && (fails && eqb j i)) }

pub closed_receivers : (n : ℕ) (fails : Bool) (i : ℕ) (f : ℕ → Receiver) → closed_by n (receivers_by f) fails i ≡ receivers_by (without n fails i f)
closed_receivers n fails i f =
    ap (λ (p : List ℕ). record { pausing = (receivers_by f).pausing; busy = (receivers_by f).busy; level = (receivers_by f).level; pending = p })
    (words_ext words (λ j. place_in (receivers_by f).pending j && not (ltb j n && (fails && eqb j i))) (λ j. (without n fails i f j).pending)
    (λ j h. ap (λ (t : Bool). t && not (ltb j n && (fails && eqb j i))) (place_in_each words (λ j. (f j).pending) j h)))

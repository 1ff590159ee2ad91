-- The words of acknowledge and ping pairs that the code makes, read at one alert.
-- Assumes nothing.
use Prim.Native.Nat.{ℕ, ◌+◌, ◌*◌, ◌-◌, ◌^◌, ◌<◌}
use mathlib.Core.Path.{◌≡◌, ap, ◌∙◌}
use mathlib.Core.Bool.{Bool, not, xor, and_comm, ◌&&◌}
use mathlib.Core.List.{List}
use native.Mathlib.Omega.{arith}
use lib.Bits.{bit_and, bit_xor, and_le_r}
use lib.Dec.{ltb}
use lib.ListN.{get_or}
use Rattle.bits.specs.Bits.{place, word_of}
use Rattle.bits.specs.Index.{words_by}
use Rattle.bits.proofs.BitLaws.{bit_and_law, bit_xor_law, not64, word_of_lt, is_word64, place_word64}
use Rattle.bits.proofs.IndexLaws.{at_each, each_ext}
use Rattle.bits.proofs.TruthTables.{by4}
use Rattle.bits.proofs.WordLaws.{place_in_at}
use Rattle.link_rules.specs.Codes.{handshake_of}
use Rattle.link_rules.specs.Receiver.{acknowledges}
use Rattle.rules.specs.State.{words}
use Rattle.rules.specs.Tick.{pairs}
use Rattle.rules.specs.declared.Receivers.{Receivers}
use Rattle.handler.specs.PairWords.{is_acknowledged, is_high, word_by, spread}

-- ── word v of n alerts, of which live says who counts ──

acknowledge_table : (a b l : Bool) → ((b && xor b a) && l) ≡ (l && acknowledges (handshake_of a b))
unfolding xor
acknowledge_table a b l = by4 (λ a b l d. (b && xor b a) && l) (λ a b l d. l && acknowledges (handshake_of a b)) tt a b l l

module _ (n : ℕ) (r : Receivers) (v live : ℕ) (small : live < 2 ^ 64) (counts : (b : ℕ) → b < 64 → place live b ≡ ltb (v * 64 + b) n) where
  pub acknowledged_word : bit_and (bit_and (get_or r.busy v 0) (bit_xor (get_or r.busy v 0) (get_or r.pausing v 0))) live ≡ word_by (is_acknowledged n r) v
  acknowledged_word =
      is_word64 _ (λ b. is_acknowledged n r (v * 64 + b))
      (omega (arith, small, and_le_r (bit_and (get_or r.busy v 0) (bit_xor (get_or r.busy v 0) (get_or r.pausing v 0))) live)) at
    where
      at : (b : ℕ) → b < 64
          → place (bit_and (bit_and (get_or r.busy v 0) (bit_xor (get_or r.busy v 0) (get_or r.pausing v 0))) live) b ≡ is_acknowledged n r (v * 64 + b)
      at b l =
          simp (bit_and_law, bit_xor_law, counts b l)
          (acknowledge_table (place (get_or r.pausing v 0) b) (place (get_or r.busy v 0) b) (ltb (v * 64 + b) n)
          ∙ rw (place_in_at r.pausing v b l, place_in_at r.busy v b l))

  pub high_word : bit_and (get_or r.level v 0) live ≡ word_by (is_high n r) v
  high_word = is_word64 _ (λ b. is_high n r (v * 64 + b)) (omega (arith, small, and_le_r (get_or r.level v 0) live)) at
    where
      at : (b : ℕ) → b < 64 → place (bit_and (get_or r.level v 0) live) b ≡ is_high n r (v * 64 + b)
      at b l =
          bit_and_law (get_or r.level v 0) live (63 - b)
          ∙ and_comm (place (get_or r.level v 0) b) (place live b)
          ∙ rw (counts b l, place_in_at r.level v b l)

-- ── four words, and their opposites ──

opposite : (f : ℕ → Bool) → 18446744073709551615 - word_of 64 f ≡ word_of 64 (λ b. not (f b))
opposite f =
    is_word64 (18446744073709551615 - word_of 64 f) (λ b. not (f b)) (omega arith)
    (λ b l. let m : 63 - b < 64 = omega arith in not64 (word_of 64 f) (63 - b) (word_of_lt 64 f) m ∙ ap not (place_word64 f b l))

pub spread_by : (f : ℕ → Bool) → spread (words_by words f) ≡ pairs f
spread_by f =
    ap (λ (xs : List ℕ). record { pos = words_by words f; neg = xs })
    (each_ext words _ _ 0
    (λ v l. ap (λ (x : ℕ). 18446744073709551615 - x) (at_each words (word_by f) v 0 l) ∙ opposite (λ b. f (v * 64 + b))))

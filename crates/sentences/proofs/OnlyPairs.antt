-- No sentence of output pairs is missing: pairs that satisfy them are one. Nothing here knows the rules' definitions.
-- Assumes nothing.
use Prim.Native.Nat.{ℕ, ◌≤◌, ◌<◌}
use mathlib.Core.Path.{◌≡◌}
use mathlib.Core.Bool.{Bool-discrete}
use native.Mathlib.Omega.{arith}
use native.Mathlib.Decide.{dec_lt}
use Rattle.bits.specs.Bits.{bit}
use Rattle.rules.specs.declared.LinePairs.{LinePairs}
use Rattle.rules.specs.declared.Wires.{Wires}
use Rattle.sentences.specs.Pairs.{PairWords, AllLow, PairsBy, LinePairsBy}
use Rattle.sentences.specs.Raw.{positive, negative}
use Rattle.sentences.proofs.OnlySamples.{same_bits, same_four}
use Rattle.sentences.proofs.SentenceCases.{either, same_two}

-- pairs of which every wire is one
same_pairs : (w v : Wires) → PairWords w → PairWords v → ((i : ℕ) → i < 256 → (positive w i ≡ positive v i) × (negative w i ≡ negative v i)) → w ≡ v
same_pairs w v a b e = λ j.
    record {
      pos = same_four w.pos v.pos a.positives b.positives (λ i l. (e i l).0) j;
      neg = same_four w.neg v.neg a.negatives b.negatives (λ i l. (e i l).1) j;
    }

module _ (n : ℕ) (On : ℕ → Type 0) (w v : Wires) (a : PairsBy n On w) (b : PairsBy n On v) where
  same_pair : (i : ℕ) → i < 256 → (positive w i ≡ positive v i) × (negative w i ≡ negative v i)
  same_pair i l = go (dec_lt i n)
    where
      go : Dec (i < n) → (positive w i ≡ positive v i) × (negative w i ≡ negative v i)
      go (yes m) =
          let on : On i → (positive w i ≡ positive v i) × (negative w i ≡ negative v i) = λ o. same_two (a.high i m l o) (b.high i m l o) in
          let off : ¬ On i → (positive w i ≡ positive v i) × (negative w i ≡ negative v i) = λ o. same_two (a.low i m l o) (b.low i m l o) in
          (either (Bool-discrete (positive w i) (positive v i)) (λ o. (on o).0) (λ o. (off o).0), either (Bool-discrete (negative w i) (negative v i)) (λ o. (on o).1) (λ o. (off o).1))
      go (no m) = let u : n ≤ i = omega arith in same_two (a.above i u l) (b.above i u l)

  pub same_pairs_by : w ≡ v
  same_pairs_by = same_pairs w v a.words b.words same_pair

pub same_low : (w v : Wires) → AllLow w → AllLow v → w ≡ v
same_low w v a b = same_pairs w v a.words b.words (λ i l. same_two (a.low i l) (b.low i l))

-- ── request (xi): the lines' pairs ──

pub same_line_pairs : (On : ℕ → Type 0) (w v : LinePairs) → LinePairsBy On w → LinePairsBy On v → w ≡ v
same_line_pairs On w v a b = λ j.
    record {
      pos = same_bits w.pos v.pos a.positives b.positives (λ e l. (same e l).0) j;
      neg = same_bits w.neg v.neg a.negatives b.negatives (λ e l. (same e l).1) j;
    }
  where
    same : (e : ℕ) → e < 4 → (bit w.pos e ≡ bit v.pos e) × (bit w.neg e ≡ bit v.neg e)
    same e l =
        let on : On e → (bit w.pos e ≡ bit v.pos e) × (bit w.neg e ≡ bit v.neg e) = λ o. same_two (a.high e l o) (b.high e l o) in
        let off : ¬ On e → (bit w.pos e ≡ bit v.pos e) × (bit w.neg e ≡ bit v.neg e) = λ o. same_two (a.low e l o) (b.low e l o) in
        (either (Bool-discrete (bit w.pos e) (bit v.pos e)) (λ o. (on o).0) (λ o. (off o).0), either (Bool-discrete (bit w.neg e) (bit v.neg e)) (λ o. (on o).1) (λ o. (off o).1))

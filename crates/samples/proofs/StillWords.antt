-- A word in which nothing moves: every receiver that counts is ready, its wires are (0,1), and no ping is asked for.
-- Assumes nothing.
use Prim.Native.Nat.{ℕ, ◌-◌, ◌^◌, ◌<◌}
use mathlib.Core.Path.{◌≡◌, refl, sym, ap, ◌∙◌}
use mathlib.Core.Bool.{Bool, true, false, true≢false, not, cond, ◌&&◌, ◌||◌}
use native.Mathlib.Omega.{arith}
use lib.Bits.{bit_and, bit_or}
use Rattle.bits.specs.Bits.{bit, place}
use Rattle.bits.proofs.BitLaws.{bit_and_law, bit_or_law, bit_none, not64}
use Rattle.link_rules.specs.Codes.{handshake_of}
use Rattle.link_rules.specs.Pair.{equal}
use Rattle.link_rules.specs.Receiver.{asked_for, stands_after, received}
use Rattle.link_rules.specs.declared.Received.{Received}
use Rattle.samples.specs.Received.{ReceivedWord}
use Rattle.samples.specs.declared.receive.Word.{Word}

-- one alert, by its bits, and what it gives
abbrev gives : Bool → Bool → Bool → Bool → Bool → Bool → Bool → Received
gives a b v o k p q = received (record { asks = k; pos = p; neg = q }) (record { stands = handshake_of a b; level = v; pending = o })

-- it stays as it is, without event or answer, and its wires differ
pub record Still (l a b v o k p q : Bool) : Type 0 where
  pub receiver : record { stands = handshake_of a b; level = v; pending = o }
      ≡ cond l (gives a b v o k p q).receiver (record { stands = handshake_of a b; level = v; pending = o })
  pub event : false ≡ (l && (gives a b v o k p q).event)
  pub answer : false ≡ (l && (gives a b v o k p q).answer)
  pub equals : false ≡ (l && equal p q)

pub still_at : (l a b v o k p q : Bool) → (((((p || not q) || a) || b) || k) && l) ≡ false → Still l a b v o k p q
unfolding received asked_for stands_after
still_at false a b v o k p q e = record { receiver = refl; event = refl; answer = refl; equals = refl }
still_at true false false v true false false true e = record { receiver = refl; event = refl; answer = refl; equals = refl }
still_at true false false v false false false true e = record { receiver = refl; event = refl; answer = refl; equals = refl }
still_at true false false v o true false true e = absurd (true≢false e)
still_at true false true v o k false true e = absurd (true≢false e)
still_at true true b v o k false true e = absurd (true≢false e)
still_at true a b v o k false false e = absurd (true≢false e)
still_at true a b v o k true q e = absurd (true≢false e)

module _ (w : Word) (k p q l : ℕ) (hq : q < 2 ^ 64)
    (e : bit_and (bit_or (bit_or (bit_or (bit_or p (18446744073709551615 - q)) w.pausing) w.busy) k) l ≡ 0) where
  none_stirs : (i : ℕ) → i < 64 → (((((place p i || not (place q i)) || place w.pausing i) || place w.busy i) || place k i) && place l i) ≡ false
  none_stirs i h =
      let m : 63 - i < 64 = omega arith in
      let z : place (bit_and (bit_or (bit_or (bit_or (bit_or p (18446744073709551615 - q)) w.pausing) w.busy) k) l) i ≡ false =
      ap (λ (x : ℕ). bit x (63 - i)) e ∙ bit_none (63 - i) in
      sym (simp (bit_and_law, bit_or_law, not64)) ∙ z

  still : (i : ℕ) → i < 64
      → Still (place l i) (place w.pausing i) (place w.busy i) (place w.level i) (place w.pending i) (place k i) (place p i) (place q i)
  still i h = still_at _ _ _ (place w.level i) (place w.pending i) _ _ _ (none_stirs i h)

  pub still_word : ReceivedWord w k p q l (record { word = w; events = 0; answers = 0; equal = 0 })
  still_word =
      record {
        receivers = λ i h. (still i h).receiver;
        happened = λ i h. bit_none (63 - i) ∙ (still i h).event;
        answered = λ i h. bit_none (63 - i) ∙ (still i h).answer;
        equals = λ i h. bit_none (63 - i) ∙ (still i h).equals;
      }

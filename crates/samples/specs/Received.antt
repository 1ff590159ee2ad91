-- What the receivers tell, as the code gives it: in words of 64, each place by the rule of one receiver.
-- Assumes nothing.
use Rattle.std.specs.Prelude.{ℕ, ◌+◌, ◌*◌, ◌<◌, ◌≡◌, Bool, cond, ◌&&◌, List, ltb}
use Rattle.bits.specs.Bits.{place, word_of}
use Rattle.bits.specs.Index.{words_by}
use Rattle.link_rules.specs.Codes.{handshake_of, pausing_bit, busy_bit}
use Rattle.link_rules.specs.Pair.{equal}
use Rattle.link_rules.specs.Receiver.{received}
use Rattle.link_rules.specs.declared.Given.{Given}
use Rattle.link_rules.specs.declared.Received.{Received}
use Rattle.link_rules.specs.declared.Receiver.{Receiver}
use Rattle.rules.specs.State.{words, receiver_in, receivers_by}
use Rattle.rules.specs.Samples.{positive, negative, given_to}
use Rattle.rules.specs.declared.Receivers.{Receivers}
use Rattle.rules.specs.declared.Wires.{Wires}
use Rattle.samples.specs.declared.receive.Word.{Word}
use Rattle.samples.specs.declared.receive.Told.{Told}
use Rattle.samples.specs.declared.receive.Received as all

-- ── one word of receivers, of which live says who counts, what is asked for, and their wires p and q ──

-- receiver i of the word, and what it is given
abbrev pub receiver_of : Word → ℕ → Receiver
receiver_of w i = record { stands = handshake_of (place w.pausing i) (place w.busy i); level = place w.level i; pending = place w.pending i }

abbrev pub given_of : ℕ → ℕ → ℕ → ℕ → Given
given_of asks p q i = record { asks = place asks i; pos = place p i; neg = place q i }

pub record ReceivedWord (w : Word) (asks p q live : ℕ) (r : Told) : Type 0 where
  pub receivers : (i : ℕ) → i < 64
      → receiver_of r.word i ≡ cond (place live i) (received (given_of asks p q i) (receiver_of w i)).receiver (receiver_of w i)
  pub happened : (i : ℕ) → i < 64 → place r.events i ≡ (place live i && (received (given_of asks p q i) (receiver_of w i)).event)
  pub answered : (i : ℕ) → i < 64 → place r.answers i ≡ (place live i && (received (given_of asks p q i) (receiver_of w i)).answer)
  pub equals : (i : ℕ) → i < 64 → place r.equal i ≡ (place live i && equal (place p i) (place q i))

-- ── alert i of n, by lists of words; at n and above nothing counts ──

module _ (n : ℕ) (r : Receivers) (asks : List ℕ) (w : Wires) where
  abbrev pub receives : ℕ → Received
  receives i = received (given_to asks w i) (receiver_in r i)

  -- its receiver after it, whether it has an event, whether its open ping is answered, whether its wires are equal
  abbrev pub receiver_at : ℕ → Receiver
  receiver_at i = cond (ltb i n) (receives i).receiver (receiver_in r i)

  abbrev pub happens_at : ℕ → Bool
  happens_at i = ltb i n && (receives i).event

  abbrev pub answers_at : ℕ → Bool
  answers_at i = ltb i n && (receives i).answer

  abbrev pub equal_at : ℕ → Bool
  equal_at i = ltb i n && equal (positive w i) (negative w i)

  -- word v of them
  pub record ToldWord (v : ℕ) (t : Told) : Type 0 where
    pub pausing : t.word.pausing ≡ word_of 64 (λ b. pausing_bit (receiver_at (v * 64 + b)).stands)
    pub busy : t.word.busy ≡ word_of 64 (λ b. busy_bit (receiver_at (v * 64 + b)).stands)
    pub level : t.word.level ≡ word_of 64 (λ b. (receiver_at (v * 64 + b)).level)
    pub pending : t.word.pending ≡ word_of 64 (λ b. (receiver_at (v * 64 + b)).pending)
    pub happened : t.events ≡ word_of 64 (λ b. happens_at (v * 64 + b))
    pub answered : t.answers ≡ word_of 64 (λ b. answers_at (v * 64 + b))
    pub equals : t.equal ≡ word_of 64 (λ b. equal_at (v * 64 + b))

  -- all of them
  pub record ReceivedAll (t : all.Received) : Type 0 where
    pub receivers : t.receivers ≡ receivers_by receiver_at
    pub happened : t.events ≡ words_by words happens_at
    pub answered : t.answers ≡ words_by words answers_at
    pub equals : t.equal ≡ words_by words equal_at

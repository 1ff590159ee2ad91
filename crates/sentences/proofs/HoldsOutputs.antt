-- The rules of steps 3 to 5 of the whole handler satisfy the sentences.
-- Assumes nothing.
use Prim.Native.Nat.{ℕ, ◌<◌}
use mathlib.Core.Path.{◌≡◌, refl, sym, ap, subst, ◌∙◌}
use mathlib.Core.Logic.Iff
use mathlib.Core.Logic.{◌↔◌}
use mathlib.Core.Bool.{Bool, true, false, false≢true, and-false, not, ◌&&◌}
use native.Mathlib.Omega.{arith}
use borrow.Author.Tests.{lt-ltb, le-ltb}
use lib.Dec.{ltb}
use Rattle.bits.specs.Bits.{bit}
use Rattle.bits.specs.Index.{any_to}
use Rattle.bits.proofs.BitLaws.{bit_bits_of}
use Rattle.bits.proofs.IndexLaws.{true_and, at_each, length_each}
use Rattle.class_rules.specs.Class.{no_class, drives}
use Rattle.class_rules.specs.Step.{class_step}
use Rattle.link_rules.proofs.CodeLaws.{last_back}
use Rattle.link_rules.specs.Codes.{handshake_of, last_bit}
use Rattle.link_rules.specs.Receiver.{acknowledges}
use Rattle.rules.specs.Samples.{heard, sampled, assigned}
use Rattle.rules.specs.State.{class_at, receiver, sender}
use Rattle.rules.specs.Tick.{event, interrupt_now, signals, stepped, interrupts, lines, pairs, line_pairs, acknowledge_pairs, ping_pairs, escalation_pairs, output_of}
use Rattle.rules.specs.declared.Effects.{Effects}
use Rattle.rules.specs.declared.Handler.{Handler}
use Rattle.rules.specs.declared.Sample.{Sample}
use Rattle.rules.specs.declared.Wires.{Wires}
use Rattle.laws.proofs.Tick.Pairs.{pairs_at}
use Rattle.sentences.specs.ClassStep.{Stepped}
use Rattle.sentences.specs.Outputs.{ClassHasEvent, Meets, ClassesStepped, Outputs}
use Rattle.sentences.specs.Pairs.{PairsBy, AllLow, LinePairsBy}
use Rattle.sentences.specs.Raw.{positive, negative, pausing, busy, level, pair_last, pair_deep, class_of}
use Rattle.sentences.specs.Receivers.{Acknowledged}
use Rattle.sentences.specs.Samples.{RaisesFiveOrNone}
use Rattle.sentences.specs.Valid.{Valid}
use Rattle.sentences.proofs.SentenceCases.{off, same_word, and_is, or_is, any_is, then, up_to_15}
use Rattle.sentences.proofs.HoldsClass.{holds_class}
use Rattle.sentences.proofs.HoldsLines.{drives_is}
use Rattle.sentences.proofs.HoldsSamples.{after2, holds_assigned}
use Rattle.sentences.proofs.HoldsReceivers.{four_words}
use Rattle.sentences.proofs.SentenceWords.{holds_event}

-- ── step 5 ──

-- alert i's pair is (1,0) where it is below n and t says so, and (0,1) elsewhere
module _ (n : ℕ) (On : ℕ → Type 0) (t : ℕ → Bool) (e : (i : ℕ) → (t i ≡ true) ↔ On i) where
  abbrev shown : Wires
  shown = pairs (λ i. ltb i n && t i)

  pair_is : (i : ℕ) (b : Bool) → i < 256 → (ltb i n && t i) ≡ b → (positive shown i ≡ b) × (negative shown i ≡ not b)
  pair_is i b l x = let p = pairs_at (λ i. ltb i n && t i) i l in (p.0 ∙ x, p.1 ∙ ap not x)

  pairs_by : PairsBy n On shown
  pairs_by =
      record {
        high = λ i l b o. pair_is i true b (true_and (lt-ltb i n l) ((e i).1 o));
        low = λ i l b o. pair_is i false b (ap (λ (u : Bool). ltb i n && u) (off (t i) (e i) o) ∙ and-false (ltb i n));
        above = λ i l b. pair_is i false b (ap (λ (u : Bool). u && t i) (le-ltb i n l));
        words = record { positives = four_words (λ i. ltb i n && t i); negatives = four_words (λ i. not (ltb i n && t i)) };
      }

-- line e's pair is (1,0) where t says so, and (0,1) elsewhere
line_pairs_by : (On : ℕ → Type 0) (t : ℕ → Bool) → ((e : ℕ) → (t e ≡ true) ↔ On e) → LinePairsBy On (line_pairs t)
line_pairs_by On t is =
    record {
      high = λ e l o. shown e true l ((is e).1 o);
      low = λ e l o. shown e false l (off (t e) (is e) o);
      positives = up_to_15 t;
      negatives = up_to_15 (λ e. not (t e));
    }
  where
    shown : (e : ℕ) (b : Bool) → e < 4 → t e ≡ b → (bit (line_pairs t).pos e ≡ b) × (bit (line_pairs t).neg e ≡ not b)
    shown e b l x = (bit_bits_of 4 t e l ∙ x, bit_bits_of 4 (λ e. not (t e)) e l ∙ ap not x)

-- "acknowledged": the bits 0 1
acknowledged_is : (p b : Bool) → (acknowledges (handshake_of p b) ≡ true) ↔ ((p ≡ false) × (b ≡ true))
acknowledged_is false true = (λ _. (refl, refl), λ _. refl)
acknowledged_is false false = (λ t. absurd (false≢true t), λ d. absurd (false≢true d.1))
acknowledged_is true true = (λ t. absurd (false≢true t), λ d. absurd (false≢true (sym d.0)))
acknowledged_is true false = (λ t. absurd (false≢true t), λ d. absurd (false≢true d.1))

pub holds_outputs : Outputs output_of
unfolding output_of interrupts lines acknowledge_pairs ping_pairs escalation_pairs
holds_outputs g h =
    record {
      interrupt = λ k l.
          same_word (bit_bits_of 4 (λ k. bit h.interrupts.state k && bit h.interrupts.enable k) k l)
          (and_is (bit h.interrupts.state k) (bit h.interrupts.enable k) Iff.rfl Iff.rfl);
      line = λ e l.
          same_word (bit_bits_of 4 (λ e. any_to (λ k. drives (class_at h k) e) 4) e l)
          (any_is _ (λ k. drives (class_at h k) e) 4 (λ k m. drives_is (class_at h k) e));
      interrupt_bits = up_to_15 _;
      line_bits = up_to_15 _;
      acknowledge = pairs_by g.n (Acknowledged g) (λ i. acknowledges (receiver g i).stands) (λ i. acknowledged_is (pausing g i) (busy g i));
      ping = pairs_by h.n (λ i. level h i ≡ true) (level h) (λ i. Iff.rfl);
      escalation =
          line_pairs_by (λ e. pair_last h e ≡ true) (λ e. last_bit (sender h e).sound.stands)
          (λ e. same_word (last_back (pair_last h e) (pair_deep h e)) Iff.rfl);
    }

-- refusal 7
pub all_low : AllLow (pairs (λ i. false))
all_low =
    record {
      low = λ i l. pairs_at (λ i. false) i l;
      words = record { positives = four_words (λ i. false); negatives = four_words (λ i. true) };
    }

-- ── steps 3 and 4 ──

-- the state after step 4
abbrev pub after4 : Handler → Sample → Effects → Handler
after4 g s f = stepped g (heard g s f) f

module _ (g : Handler) (s : Sample) (f : Effects) (v : Valid g) (r : RaisesFiveOrNone f) where
  event_is : (k : ℕ) → (event g (heard g s f) k ≡ true) ↔ ClassHasEvent g s f (after2 g s f) k
  unfolding event sampled
  event_is k =
      let a = holds_assigned g s f k v.n v.ping_timeout r in
      then (holds_event (assigned g (heard g s f) k) (class_at g k)) (λ d. (a.0 d.0, d.1), λ d. (a.1 d.0, d.1))

  now : (k : ℕ) → k < 4 → bit (after4 g s f).interrupts.state k ≡ interrupt_now g (heard g s f) k
  unfolding stepped
  now k l = bit_bits_of 4 (interrupt_now g (heard g s f)) k l

  meets_signals : (k : ℕ) → k < 4 → Meets g s f (after2 g s f) (after4 g s f) k (signals g (heard g s f) f k)
  unfolding signals
  meets_signals k l = record { event = event_is k; interrupt = same_word (sym (now k l)) Iff.rfl; clear = Iff.rfl }

  class_steps : (k : ℕ) → k < 4 → Stepped (signals g (heard g s f) f k) (class_of (after2 g s f) k) (class_of (after4 g s f) k)
  unfolding stepped sampled
  class_steps k l =
      subst (Stepped (signals g (heard g s f) f k) (class_at g k)) (sym (at_each 4 (λ k. class_step (signals g (heard g s f) f k) (class_at g k)) k no_class l))
      (holds_class (signals g (heard g s f) f k) (class_at g k) (v.classes k l))

  pub holds_classes : ClassesStepped g s f (after2 g s f) (after4 g s f)
  unfolding stepped sampled interrupt_now
  holds_classes =
      record {
        interrupt_bit = λ k l. same_word (now k l) (or_is (bit g.interrupts.state k) (event g (heard g s f) k) Iff.rfl (event_is k));
        interrupt_bits = up_to_15 (interrupt_now g (heard g s f));
        signals = signals g (heard g s f) f;
        meets = meets_signals;
        steps = λ k l. let q : k < 4 = omega arith in class_steps k q;
        entries = length_each 4 _;
        enable = refl;
        n = refl;
        links = refl;
        alerts = refl;
        locals = refl;
        timer = refl;
        stages = refl;
      }

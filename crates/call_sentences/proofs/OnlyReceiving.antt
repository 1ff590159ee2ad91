-- No sentence of the receivers is missing: whatever satisfies them gives one result. Nothing here knows the rules' definitions.
-- Assumes nothing.
use Prim.Native.Nat.{ℕ, ◌≤◌, ◌<◌}
use mathlib.Core.Path.{◌≡◌, refl, sym, ◌∙◌}
use mathlib.Core.Logic.{inl, inr}
use mathlib.Core.Bool.{Bool, true, false}
use native.Mathlib.Omega.{arith}
use Rattle.bits.specs.Bits.{bit}
use Rattle.bits.proofs.BitLaws.{bit_ext}
use Rattle.link_rules.specs.declared.LineReceivers.{LineReceivers}
use Rattle.link_rules.specs.declared.Listened.{Listened}
use Rattle.sentences.proofs.SentenceCases.{same_two, same_test}
use Rattle.call_sentences.specs.Receiving.{SendsBack, Moves, WillAnswer, Listens, Receiving}

-- two numbers of four bits
four_bits : (a b : ℕ) → a ≤ 15 → b ≤ 15 → ((e : ℕ) → e < 4 → bit a e ≡ bit b e) → a ≡ b
four_bits a b x y f = bit_ext 4 a b (omega (arith, x)) (omega (arith, y)) f

module _ (r : LineReceivers) (p m : ℕ) where
  same_negative : (x y : Listened) → SendsBack r x → SendsBack r y → (e : ℕ) → e < 4 → bit x.negative e ≡ bit y.negative e
  same_negative x y a b e l = go (bit r.broken e) refl
    where
      go : (t : Bool) → bit r.broken e ≡ t → bit x.negative e ≡ bit y.negative e
      go true c = a.same_value e l c ∙ sym (b.same_value e l c)
      go false c = a.negative e l c ∙ sym (b.negative e l c)

  same_stands : (n k : LineReceivers) → Moves r p m n → Moves r p m k → (e : ℕ) → e < 4 → (bit n.last e ≡ bit k.last e) × (bit n.deep e ≡ bit k.deep e)
  same_stands n k a b e l = go (bit r.broken e) (bit r.last e) (bit r.deep e) (bit p e) (bit m e) refl refl refl refl refl
    where
      go : (t s d u v : Bool) → bit r.broken e ≡ t → bit r.last e ≡ s → bit r.deep e ≡ d → bit p e ≡ u → bit m e ≡ v
          → (bit n.last e ≡ bit k.last e) × (bit n.deep e ≡ bit k.deep e)
      go t s d true true c f g h i = same_two (a.forgets e l (h ∙ sym i)) (b.forgets e l (h ∙ sym i))
      go t s d false false c f g h i = same_two (a.forgets e l (h ∙ sym i)) (b.forgets e l (h ∙ sym i))
      go true s d false true c f g h i = same_two (a.anew_off e l c (h, i)) (b.anew_off e l c (h, i))
      go true s d true false c f g h i = same_two (a.anew_on e l c (h, i)) (b.anew_on e l c (h, i))
      go false false false false true c f g h i = same_two (a.at_rest e l c (f, g) (h, i)) (b.at_rest e l c (f, g) (h, i))
      go false false false true false c f g h i = same_two (a.one_tick e l c (f, g) (h, i)) (b.one_tick e l c (f, g) (h, i))
      go false true false false true c f g h i = same_two (a.ping e l c (f, g) (h, i)) (b.ping e l c (f, g) (h, i))
      go false true false true false c f g h i = same_two (a.two_ticks e l c (f, g) (h, i)) (b.two_ticks e l c (f, g) (h, i))
      go false false true false true c f g h i = same_two (a.ping_over e l c (f, g) (h, i)) (b.ping_over e l c (f, g) (h, i))
      go false false true true false c f g h i = same_two (a.in_ping e l c (f, g) (h, i)) (b.in_ping e l c (f, g) (h, i))
      go false true true false true c f g h i = same_two (a.off e l c (f, g) (h, i)) (b.off e l c (f, g) (h, i))
      go false true true true false c f g h i = same_two (a.longer e l c (f, g) (h, i)) (b.longer e l c (f, g) (h, i))

  same_answer : (n k : LineReceivers) → WillAnswer r p m n → WillAnswer r p m k → (e : ℕ) → e < 4 → bit n.answer e ≡ bit k.answer e
  same_answer n k a b e l = go (bit r.broken e) (bit r.last e) (bit r.deep e) (bit p e) (bit m e) refl refl refl refl refl
    where
      equal : (t : Bool) → bit r.broken e ≡ t → bit p e ≡ bit m e → bit n.answer e ≡ bit k.answer e
      equal true c q = a.equal_toggles e l c q ∙ sym (b.equal_toggles e l c q)
      equal false c q = a.equal_first e l c q ∙ sym (b.equal_first e l c q)

      go : (t s d u v : Bool) → bit r.broken e ≡ t → bit r.last e ≡ s → bit r.deep e ≡ d → bit p e ≡ u → bit m e ≡ v
          → bit n.answer e ≡ bit k.answer e
      go t s d true true c f g h i = equal t c (h ∙ sym i)
      go t s d false false c f g h i = equal t c (h ∙ sym i)
      go true s d false true c f g h i = a.anew_off e l c (h, i) ∙ sym (b.anew_off e l c (h, i))
      go true s d true false c f g h i = a.anew_on e l c (h, i) ∙ sym (b.anew_on e l c (h, i))
      go false s d true false c f g h i = a.toggles e l c (h, i) ∙ sym (b.toggles e l c (h, i))
      go false false false false true c f g h i = a.silent e l c (inl (f, g)) (h, i) ∙ sym (b.silent e l c (inl (f, g)) (h, i))
      go false true true false true c f g h i = a.silent e l c (inr (f, g)) (h, i) ∙ sym (b.silent e l c (inr (f, g)) (h, i))
      go false true false false true c f g h i = a.answers e l c (inl (f, g)) (h, i) ∙ sym (b.answers e l c (inl (f, g)) (h, i))
      go false false true false true c f g h i = a.answers e l c (inr (f, g)) (h, i) ∙ sym (b.answers e l c (inr (f, g)) (h, i))

  same_listened : (x y : Listened) → Listens r p m x → Listens r p m y → x ≡ y
  same_listened x y a b = λ i.
      record {
        receivers = record {
          last =
              four_bits x.receivers.last y.receivers.last a.last_bits b.last_bits
              (λ e l. (same_stands x.receivers y.receivers a.moves b.moves e l).0) i;
          deep =
              four_bits x.receivers.deep y.receivers.deep a.deep_bits b.deep_bits
              (λ e l. (same_stands x.receivers y.receivers a.moves b.moves e l).1) i;
          answer =
              four_bits x.receivers.answer y.receivers.answer a.answer_bits b.answer_bits
              (same_answer x.receivers y.receivers a.will_answer b.will_answer) i;
          broken =
              four_bits x.receivers.broken y.receivers.broken a.broken_bits b.broken_bits
              (λ e l. same_test (bit x.receivers.broken e) (bit y.receivers.broken e) (a.moves.broken e l) (b.moves.broken e l)) i;
        };
        positive =
            four_bits x.positive y.positive a.positive_bits b.positive_bits
            (λ e l. a.sends.positive e l ∙ sym (b.sends.positive e l)) i;
        negative = four_bits x.negative y.negative a.negative_bits b.negative_bits (same_negative x y a.sends b.sends) i;
        seen =
            four_bits x.seen y.seen a.seen_bits b.seen_bits
            (λ e l. same_test (bit x.seen e) (bit y.seen e) (a.seen e l) (b.seen e l)) i;
      }

pub only_receiving : (f g : LineReceivers → ℕ → ℕ → Listened) → Receiving f → Receiving g → (r : LineReceivers) (p m : ℕ) → f r p m ≡ g r p m
only_receiving f g a b r p m = same_listened r p m (f r p m) (g r p m) (a r p m) (b r p m)

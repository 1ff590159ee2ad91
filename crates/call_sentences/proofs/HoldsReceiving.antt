-- What the boundary promises of the receivers satisfies the sentences.
-- Assumes nothing.
use Prim.Native.Nat.{ℕ, ◌<◌}
use mathlib.Core.Path.{◌≡◌, refl, sym, ap, ◌∙◌}
use mathlib.Core.Logic.Iff
use mathlib.Core.Logic.{◌↔◌, ◌⊎◌, ⊎_elim}
use mathlib.Core.Bool.{Bool, true, false, cond, not, ◌&&◌, ◌||◌}
use Rattle.bits.specs.Bits.{bit}
use Rattle.bits.proofs.BitLaws.{bit_bits_of}
use Rattle.link_rules.specs.Codes.{response_of, last_bit, deep_bit}
use Rattle.link_rules.specs.EscalationReceiver.{is_answering, sound_after, sees_at, sees, responds_positive, responds_negative, escalates, listened}
use Rattle.link_rules.specs.LineReceivers.{escalation_receiver_in, listened_all}
use Rattle.link_rules.specs.Pair.{equal}
use Rattle.link_rules.specs.declared.EscalationReceiver.{EscalationReceiver}
use Rattle.link_rules.specs.declared.LineReceivers.{LineReceivers}
use Rattle.link_rules.specs.declared.Listened.{Listened}
use Rattle.sentences.proofs.HoldsSenders.{equal_is}
use Rattle.sentences.proofs.SentenceCases.{same_word, not_is, and_is, or_is, up_to_15}
use Rattle.call_sentences.specs.Receiving.{Intact, Quiet, Equal, SendsBack, Moves, WillAnswer, Receiving}

-- a receiver by its bits
abbrev receiver_by : Bool → Bool → Bool → Bool → EscalationReceiver
receiver_by broken last deep answer = record { sound = record { stands = response_of last deep; answer = answer }; broken = broken }

-- as the contract of `tarravane_receive` names it
abbrev pub receive_by : LineReceivers → ℕ → ℕ → Listened
receive_by r p m = listened_all r (bit p) (bit m)

module _ (r : LineReceivers) (p m : ℕ) where
  abbrev x : Listened
  x = receive_by r p m

  abbrev n : LineReceivers
  n = x.receivers

  abbrev a : ℕ → Bool
  a e = bit r.answer e

  abbrev next : ℕ → EscalationReceiver
  next e = listened (escalation_receiver_in r e) (bit p e) (bit m e)

  -- ── line e after the tick, by its bits before and its wires ──

  module _ {b l d u v : Bool} (e : ℕ) (is_line_law : e < 4) (is_broken : bit r.broken e ≡ b)
      (stood : (bit r.last e ≡ l) × (bit r.deep e ≡ d)) (wires : (bit p e ≡ u) × (bit m e ≡ v)) where
    stands_at : (bit n.last e ≡ last_bit (listened (receiver_by b l d (a e)) u v).sound.stands)
        × (bit n.deep e ≡ deep_bit (listened (receiver_by b l d (a e)) u v).sound.stands)
    stands_at = (
      bit_bits_of 4 (λ e. last_bit (next e).sound.stands) e is_line_law
          ∙ (λ i. last_bit (listened (receiver_by (is_broken i) (stood.0 i) (stood.1 i) (a e)) (wires.0 i) (wires.1 i)).sound.stands),
      bit_bits_of 4 (λ e. deep_bit (next e).sound.stands) e is_line_law
          ∙ (λ i. deep_bit (listened (receiver_by (is_broken i) (stood.0 i) (stood.1 i) (a e)) (wires.0 i) (wires.1 i)).sound.stands),
    )

    answer_at : bit n.answer e ≡ (listened (receiver_by b l d (a e)) u v).sound.answer
    answer_at =
        bit_bits_of 4 (λ e. (next e).sound.answer) e is_line_law
        ∙ (λ i. (listened (receiver_by (is_broken i) (stood.0 i) (stood.1 i) (a e)) (wires.0 i) (wires.1 i)).sound.answer)

  -- ── equal wires ──

  equal_stands : (e : ℕ) → e < 4 → Equal p m e → Quiet n e
  unfolding listened
  equal_stands e l q = go (bit p e) refl
    where
      go : (u : Bool) → bit p e ≡ u → Quiet n e
      go true w = stands_at e l refl (refl, refl) (w, sym q ∙ w)
      go false w = stands_at e l refl (refl, refl) (w, sym q ∙ w)

  equal_answers : (b : Bool) (e : ℕ) → e < 4 → bit r.broken e ≡ b → Equal p m e → bit n.answer e ≡ (b && not (a e))
  unfolding listened
  equal_answers b e l c q = go (bit p e) refl
    where
      go : (u : Bool) → bit p e ≡ u → bit n.answer e ≡ (b && not (a e))
      go true w = answer_at e l c (refl, refl) (w, sym q ∙ w)
      go false w = answer_at e l c (refl, refl) (w, sym q ∙ w)

  broken_after : (z : EscalationReceiver) (u v : Bool) → (listened z u v).broken ≡ equal u v
  unfolding listened
  broken_after z true true = refl
  broken_after z true false = refl
  broken_after z false true = refl
  broken_after z false false = refl

  is_broken : (e : ℕ) → e < 4 → (bit n.broken e ≡ true) ↔ Equal p m e
  is_broken e l =
      same_word (bit_bits_of 4 (λ e. (next e).broken) e l ∙ broken_after (escalation_receiver_in r e) (bit p e) (bit m e)) (equal_is (bit p e) (bit m e))

  -- ── the parts ──

  holds_moves : Moves r p m n
  unfolding listened sound_after
  holds_moves =
      record {
        broken = is_broken;
        forgets = equal_stands;
        anew_off = λ e l c w. stands_at e l c (refl, refl) w;
        anew_on = λ e l c w. stands_at e l c (refl, refl) w;
        at_rest = λ e l c s w. stands_at e l c s w;
        one_tick = λ e l c s w. stands_at e l c s w;
        ping = λ e l c s w. stands_at e l c s w;
        ping_over = λ e l c s w. stands_at e l c s w;
        in_ping = λ e l c s w. stands_at e l c s w;
        two_ticks = λ e l c s w. stands_at e l c s w;
        longer = λ e l c s w. stands_at e l c s w;
        off = λ e l c s w. stands_at e l c s w;
      }

  -- while its pair is on there is something to answer
  on_answers : (l d : Bool) → is_answering (response_of l d) true ≡ true
  on_answers true true = refl
  on_answers true false = refl
  on_answers false true = refl
  on_answers false false = refl

  holds_answers : WillAnswer r p m n
  unfolding listened sound_after
  holds_answers =
      record {
        equal_first = equal_answers false;
        equal_toggles = equal_answers true;
        anew_off = λ e l c w. answer_at e l c (refl, refl) w;
        anew_on = λ e l c w. answer_at e l c (refl, refl) w;
        toggles = λ e l c w. answer_at e l c (refl, refl) w ∙ ap (λ (t : Bool). t && not (a e)) (on_answers (bit r.last e) (bit r.deep e));
        answers = λ e l c s w. ⊎_elim (λ s. answer_at e l c s w) (λ s. answer_at e l c s w) s;
        silent = λ e l c s w. ⊎_elim (λ s. answer_at e l c s w) (λ s. answer_at e l c s w) s;
      }

  holds_sends : SendsBack r x
  holds_sends =
      record {
        positive = λ e l. bit_bits_of 4 (λ e. responds_positive (escalation_receiver_in r e)) e l;
        negative = λ e l c. bit_bits_of 4 (λ e. responds_negative (escalation_receiver_in r e)) e l ∙ ap (λ (t : Bool). cond t (a e) (not (a e))) c;
        same_value = λ e l c. bit_bits_of 4 (λ e. responds_negative (escalation_receiver_in r e)) e l ∙ ap (λ (t : Bool). cond t (a e) (not (a e))) c;
      }

  -- two ticks on, by where it stands
  sees_is : (l d t : Bool) → sees_at (response_of l d) t ≡ (l && t)
  sees_is true true t = refl
  sees_is true false t = refl
  sees_is false true t = refl
  sees_is false false t = refl

  seen_is : (e : ℕ) → e < 4 → (bit x.seen e ≡ true) ↔ (Equal p m e ⊎ (Intact r e × ((bit r.last e ≡ true) × (bit p e ≡ true))))
  unfolding escalates sees
  seen_is e l =
      let b = bit r.broken e in
      let k = bit r.last e in
      let t = bit p e in
      same_word
      (bit_bits_of 4 (λ e. escalates (escalation_receiver_in r e) (bit p e) (bit m e)) e l
      ∙ ap (λ (s : Bool). equal t (bit m e) || (not b && s)) (sees_is k (bit r.deep e) t))
      (or_is (equal t (bit m e)) (not b && (k && t)) (equal_is t (bit m e))
      (and_is (not b) (k && t) (not_is b) (and_is k t Iff.rfl Iff.rfl)))

pub holds_receiving : Receiving receive_by
holds_receiving r p m =
    record {
      sends = holds_sends r p m;
      moves = holds_moves r p m;
      will_answer = holds_answers r p m;
      seen = seen_is r p m;
      positive_bits = up_to_15 (λ e. responds_positive (escalation_receiver_in r e));
      negative_bits = up_to_15 (λ e. responds_negative (escalation_receiver_in r e));
      seen_bits = up_to_15 (λ e. escalates (escalation_receiver_in r e) (bit p e) (bit m e));
      last_bits = up_to_15 (λ e. last_bit (next r p m e).sound.stands);
      deep_bits = up_to_15 (λ e. deep_bit (next r p m e).sound.stands);
      answer_bits = up_to_15 (λ e. (next r p m e).sound.answer);
      broken_bits = up_to_15 (λ e. (next r p m e).broken);
    }

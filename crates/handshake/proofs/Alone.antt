-- Each alert's receiver along a list of ticks, and its place in the outputs.
-- Assumes nothing.
use Prim.Native.Nat.{ℕ, zero, suc, ◌*◌, ◌≤◌, ◌<◌}
use mathlib.Core.Path.{◌≡◌, refl, ap, ap₂, ◌∙◌, subst, sym}
use mathlib.Core.Bool.{Bool, true, false, not, ◌&&◌}
use mathlib.Core.List.{List}
use native.Mathlib.Omega.{arith}
use borrow.Author.Tests.{lt-ltb, le-ltb}
use lib.Dec.{ltb}
use lib.ListN.{length, take}
use Rattle.escalation.proofs.ListTicks.{at, input, at_valid, at_next}
use Rattle.escalation.specs.List.{no_input, no_tick}
use Rattle.laws.proofs.Access.RegisterFile.{acted_n}
use Rattle.laws.proofs.Samples.Heard.{heard_event_law, heard_answer_law}
use Rattle.laws.proofs.Samples.Receivers.{happens_in_law, answered_in_law, after_receiver}
use Rattle.laws.proofs.State.Above.{run_above, new_receiver_law}
use Rattle.laws.proofs.Tick.Frame.{after_n}
use Rattle.laws.proofs.Tick.Pairs.{acknowledge_at, ping_at}
use Rattle.laws.proofs.Tick.Runs.{ticks_at}
use Rattle.laws.proofs.Valid.Refusal7.{ticked_good}
use Rattle.laws.proofs.Valid.ValidLaws.{facts}
use Rattle.laws.specs.Pinging.{closed_if}
use Rattle.link_rules.specs.Receiver.{acknowledges, received}
use Rattle.link_rules.specs.declared.Received.{Received}
use Rattle.link_rules.specs.declared.Receiver.{Receiver}
use Rattle.rules.specs.Access.{acted, effects}
use Rattle.rules.specs.Run.{run}
use Rattle.rules.specs.Samples.{received_by, happened, answered, asks_for}
use Rattle.rules.specs.State.{most, words, receiver}
use Rattle.rules.specs.Tick.{acknowledge_pairs, ping_pairs, output_of, hears, after, tick}
use Rattle.rules.specs.Valid.{valid}
use Rattle.rules.specs.declared.Handler.{Handler}
use Rattle.rules.specs.declared.Input.{Input}
use Rattle.rules.specs.declared.Output.{Output}
use Rattle.rules.specs.declared.Ticked.{Ticked}
use Rattle.rules.specs.declared.Wires.{Wires}
use Rattle.handshake.specs.Alone.{output_at, given_in, fails_in, event_in, answer_in, IsPair, receiver_at, gives_alone, Alone, Above, New}

-- a pair by an equal value
is_pair : (w : Wires) (i : ℕ) (b c : Bool) → IsPair w i b → b ≡ c → IsPair w i c
is_pair w i b c p e = (p.0 ∙ e, p.1 ∙ ap not e)

module _ (h : Handler) (xs : List Input) (v : valid h ≡ true) where
  pub small : h.n ≤ most
  small = (facts h v).n

  pub at_n : (t : ℕ) → (at h xs t).n ≡ h.n
  at_n t = (run_above h (take t xs)).n

  -- the outputs of tick t
  output_is : (t : ℕ) → t < length xs → output_at h xs t ≡ output_of (at h xs t) (after (at h xs t) (input xs t))
  unfolding tick
  output_is t l =
      ap (λ (o : Ticked). o.output) (ticks_at h xs t no_input no_tick l) ∙ ap (λ (o : Ticked). o.output) (ticked_good (at h xs t) (input xs t) (at_valid h xs v t))

  acknowledge_is : (t : ℕ) → t < length xs → (output_at h xs t).acknowledge ≡ acknowledge_pairs (at h xs t)
  unfolding output_of
  acknowledge_is t l = ap (λ (o : Output). o.acknowledge) (output_is t l)

  ping_is : (t : ℕ) → t < length xs → (output_at h xs t).ping ≡ ping_pairs (after (at h xs t) (input xs t))
  unfolding output_of
  ping_is t l = ap (λ (o : Output). o.ping) (output_is t l)

  -- ── an alert below N ──

  module _ (i : ℕ) (l : i < h.n) where
    below : (t : ℕ) → i < (at h xs t).n
    below t = omega (arith, l, at_n t)

    fits : (t : ℕ) → (at h xs t).n ≤ most
    fits t = omega (arith, small, at_n t)

    stood : (t : ℕ) → t ≤ length xs → receiver (at h xs t) i ≡ receiver_at (receiver h i) (given_in h xs i) (fails_in h xs i) t
    unfolding run receiver_at
    stood zero m = refl
    stood (suc t) m =
        ap (λ (g : Handler). receiver g i) (at_next h xs v t m) ∙ after_receiver (at h xs t) (input xs t) i (fits t) (below t)
        ∙ ap (λ (r : Receiver). closed_if (fails_in h xs i t) (received (given_in h xs i t) r).receiver) (stood t (omega (arith, m)))

    -- what it gives in tick t, from the receiver that stands there
    gives : (t : ℕ) → t < length xs → received (given_in h xs i t) (receiver (at h xs t) i) ≡ gives_alone h xs i t
    gives t m = ap (received (given_in h xs i t)) (stood t (omega (arith, m)))

    acknowledge : (t : ℕ) → t < length xs → IsPair (output_at h xs t).acknowledge i (gives_alone h xs i t).acknowledge
    unfolding received
    acknowledge t m =
        subst (λ (w : Wires). IsPair w i (gives_alone h xs i t).acknowledge) (sym (acknowledge_is t m))
        (is_pair (acknowledge_pairs (at h xs t)) i _ _ (acknowledge_at (at h xs t) i (omega (arith, l, small)))
        (ap (λ (b : Bool). b && acknowledges (receiver (at h xs t) i).stands) (lt-ltb i (at h xs t).n (below t))
        ∙ ap (λ (o : Received). o.acknowledge) (gives t m)))

    -- asking has changed the level in the receiver that the tick leaves
    ping : (t : ℕ) → t < length xs → IsPair (output_at h xs t).ping i (gives_alone h xs i t).ping
    unfolding received
    ping t m =
        let g : Handler = after (at h xs t) (input xs t) in
        let n : i < g.n = omega (arith, below t, after_n (at h xs t) (input xs t)) in
        subst (λ (w : Wires). IsPair w i (gives_alone h xs i t).ping) (sym (ping_is t m))
        (is_pair (ping_pairs g) i _ _ (ping_at g i (omega (arith, l, small)))
        (ap₂ (λ (b : Bool) (r : Receiver). b && r.level) (lt-ltb i g.n n) (after_receiver (at h xs t) (input xs t) i (fits t) (below t))
        ∙ ap (λ (o : Received). o.ping) (gives t m)))

    pub alone : Alone h xs i
    alone =
        record {
          stood = stood;
          acknowledge = acknowledge;
          ping = ping;
          event = λ t m. happens_in_law (at h xs t) (input xs t) i (fits t) (below t) ∙ ap (λ (o : Received). o.event) (gives t m);
          answer = λ t m. answered_in_law (at h xs t) (input xs t) i (fits t) (below t) ∙ ap (λ (o : Received). o.answer) (gives t m);
        }

  -- ── an alert at N and above ──

  module _ (i : ℕ) (l : h.n ≤ i) (b : i < words * 64) where
    over : (t : ℕ) → ltb i (at h xs t).n ≡ false
    over t = le-ltb i (at h xs t).n (omega (arith, l, at_n t))

    above_acknowledge : (t : ℕ) → t < length xs → IsPair (output_at h xs t).acknowledge i false
    above_acknowledge t m =
        subst (λ (w : Wires). IsPair w i false) (sym (acknowledge_is t m))
        (is_pair (acknowledge_pairs (at h xs t)) i _ _ (acknowledge_at (at h xs t) i b)
        (ap (λ (c : Bool). c && acknowledges (receiver (at h xs t) i).stands) (over t)))

    above_ping : (t : ℕ) → t < length xs → IsPair (output_at h xs t).ping i false
    above_ping t m =
        let g : Handler = after (at h xs t) (input xs t) in
        let n : h.n ≡ g.n = sym (after_n (at h xs t) (input xs t) ∙ at_n t) in
        subst (λ (w : Wires). IsPair w i false) (sym (ping_is t m))
        (is_pair (ping_pairs g) i _ _ (ping_at g i b)
        (ap (λ (c : Bool). c && (receiver g i).level) (le-ltb i g.n (omega (arith, l, n)))))

    over_acted : (t : ℕ) → ltb i (acted (at h xs t) (input xs t).access).n ≡ false
    over_acted t = ap (ltb i) (acted_n (at h xs t) (input xs t).access) ∙ over t

    above_event : (t : ℕ) → event_in h xs i t ≡ false
    unfolding hears happened
    above_event t =
        let g : Handler = acted (at h xs t) (input xs t).access in
        heard_event_law g (input xs t).sample (effects (at h xs t) (input xs t).access) i b
        ∙ ap (λ (c : Bool). c && (received_by g (asks_for g (input xs t).sample (effects (at h xs t) (input xs t).access)) (input xs t).sample.alerts i).event) (over_acted t)

    above_answer : (t : ℕ) → answer_in h xs i t ≡ false
    unfolding hears answered
    above_answer t =
        let g : Handler = acted (at h xs t) (input xs t).access in
        heard_answer_law g (input xs t).sample (effects (at h xs t) (input xs t).access) i b
        ∙ ap (λ (c : Bool). c && (received_by g (asks_for g (input xs t).sample (effects (at h xs t) (input xs t).access)) (input xs t).sample.alerts i).answer) (over_acted t)

    pub above : Above h xs i
    above =
        record {
          stays = λ t m. (run_above h (take t xs)).receivers i l (omega (arith, b));
          acknowledge = above_acknowledge;
          ping = above_ping;
          no_event = λ t m. above_event t;
          no_answer = λ t m. above_answer t;
        }

pub new : (n : ℕ) → New n
new n = record { receivers = λ i l. new_receiver_law n i (omega (arith, l)) }

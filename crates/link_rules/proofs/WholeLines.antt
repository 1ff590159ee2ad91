-- The four senders and the receivers at their lines' ends once more, taken from the theorem over every list, line and tick, in raw bits. A claim that says
-- less, or asks for more, does not give it.
-- Assumes nothing.
use Prim.Native.Nat.{ℕ, ◌≤◌, ◌<◌}
use mathlib.Core.Path.{◌≡◌, refl, sym, ap, ap₂, ◌∙◌}
use mathlib.Core.Logic.{◌↔◌}
use mathlib.Core.Bool.{Bool, true, false, not, ◌&&◌}
use mathlib.Core.List.{List, [], ◌∷◌}
use Rattle.bits.proofs.BitLaws.{bit_none, bit_above, bit_bits_of, bits_of_lt}
use Rattle.bits.proofs.IndexLaws.{and-true}
use Rattle.bits.specs.Bits.{bit, bits_of}
use Rattle.link_rules.proofs.SoundLines.{sound_lines}
use Rattle.link_rules.proofs.WholeSeen.{was_right}
use Rattle.link_rules.specs.LineReceivers.{listened_all}
use Rattle.link_rules.specs.Sender.{wrong}
use Rattle.link_rules.specs.Senders.{sender_in, sent_all}
use Rattle.link_rules.specs.SoundLines.{sents_all, listeneds_to, senders_then, receivers_then}
use Rattle.link_rules.specs.declared.Drive.{Drive}
use Rattle.link_rules.specs.declared.LineReceivers.{LineReceivers}
use Rattle.link_rules.specs.declared.Listened.{Listened}
use Rattle.link_rules.specs.declared.Senders.{Senders}

-- ── tick by tick, all new at the start: every word is 0. The wires are the pairs of the senders, positive and its opposite ──

abbrev hears : Senders → LineReceivers → Listened
hears t r = listened_all r (bit t.last) (λ e. not (bit t.last e))

at_the_start : (senders_then [] ≡ record { on = 0; first = 0; last = 0; deep = 0; answer = 0 })
    × (receivers_then [] ≡ record { last = 0; deep = 0; answer = 0; broken = 0 })
unfolding bits_of sents_all listeneds_to
at_the_start = (refl, refl)

step_by_step : (s : Senders) (r : LineReceivers) (d : ℕ → Drive) (ds : List (ℕ → Drive))
    → (sents_all s (d ∷ ds) ≡ sents_all (sent_all s d) ds) × (listeneds_to s r (d ∷ ds) ≡ listeneds_to (sent_all s d) (hears (sent_all s d) r).receivers ds)
unfolding sents_all listeneds_to
step_by_step s r d ds = (refl, refl)

-- ── after any ticks ──

module _ (ds : List (ℕ → Drive)) (e : ℕ) (l : e < 4) where
  abbrev senders : Senders
  senders = senders_then ds

  abbrev receivers : LineReceivers
  receivers = receivers_then ds

  -- what line e's receiver sends back is right, whatever its pair: wires that differ, and the answer that the sender waits for
  never_wrong : (p m : ℕ → Bool) → let x = listened_all receivers p m in
      (bit x.positive e ≡ not (bit x.negative e)) × (bit x.positive e ≡ bit senders.answer e)
  never_wrong p m =
      let x : Listened = listened_all receivers p m in
      was_right (bit x.positive e) (bit x.negative e) (bit senders.answer e)
      (sym (bit_bits_of 4 (λ k. wrong (sender_in senders k) (bit x.positive k) (bit x.negative k)) e l)
      ∙ ap (λ (w : ℕ). bit w e) ((sound_lines ds).never_wrong p m) ∙ bit_none e)

  -- it sees an escalation where its pair is on in this tick and the one before, and only there
  sees_exactly : (d : ℕ → Drive) → let t = sent_all senders d in
      (bit (hears t receivers).seen e ≡ true) ↔ ((bit t.last e ≡ true) × (bit senders.last e ≡ true))
  sees_exactly d = (λ s. and-true (bit (sent_all senders d).last e) (bit senders.last e) (sym is ∙ s), λ b. is ∙ ap₂ ◌&&◌ b.0 b.1)
    where
      is : bit (hears (sent_all senders d) receivers).seen e ≡ (bit (sent_all senders d).last e && bit senders.last e)
      is =
          ap (λ (w : ℕ). bit w e) ((sound_lines ds).sees_exactly d)
          ∙ bit_bits_of 4 (λ k. bit (sent_all senders d).last k && bit senders.last k) e l

-- the bits from 4 up are no line's
none_above : (ds : List (ℕ → Drive)) (d : ℕ → Drive) (e : ℕ) → 4 ≤ e → bit (hears (sent_all (senders_then ds) d) (receivers_then ds)).seen e ≡ false
none_above ds d e l =
    let f : ℕ → Bool = λ k. bit (sent_all (senders_then ds) d).last k && bit (senders_then ds).last k in
    ap (λ (w : ℕ). bit w e) ((sound_lines ds).sees_exactly d) ∙ bit_above 4 (bits_of 4 f) e (bits_of_lt 4 f) l

-- Wrong receivers that the sentences refuse, as theorems.
-- Assumes nothing.
use Prim.Native.Nat.{ℕ}
use mathlib.Core.Path.{refl, sym}
use mathlib.Core.Logic.{⊎_elim}
use mathlib.Core.Bool.{false≢true}
use native.Mathlib.Omega.{arith}
use Rattle.bits.specs.Bits.{bit, bits_of}
use Rattle.link_rules.specs.declared.LineReceivers.{LineReceivers}
use Rattle.link_rules.specs.declared.Listened.{Listened}
use Rattle.call_sentences.specs.Receiving.{Receiving}
use Rattle.call_sentences.proofs.HoldsReceiving.{receive_by}

-- four receivers that stand still, with these of them broken
abbrev still : ℕ → LineReceivers
still broken = record { last = 0; deep = 0; answer = 0; broken = broken }

-- ones that see an escalation in the first tick of a pair: a lone ping would be one
abbrev at_once : LineReceivers → ℕ → ℕ → Listened
at_once r p m =
    let x = receive_by r p m in record { receivers = x.receivers; positive = x.positive; negative = x.negative; seen = bits_of 4 (bit p) }

pub no_seen_at_once : ¬ Receiving at_once
unfolding bit bits_of
no_seen_at_once w = ⊎_elim (λ q. false≢true (sym q)) (λ q. false≢true q.1.0) (((w (still 0) 1 14).seen 0 (omega arith)).0 refl)

-- ones that forget a fault: equal wires would not be answered with equal wires
abbrev forgetful : LineReceivers → ℕ → ℕ → Listened
forgetful r p m = receive_by (record { last = r.last; deep = r.deep; answer = r.answer; broken = 0 }) p m

pub no_forgotten_fault : ¬ Receiving forgetful
unfolding bit bits_of
no_forgotten_fault w = false≢true (sym ((w (still 1) 0 0).sends.same_value 0 (omega arith) refl))

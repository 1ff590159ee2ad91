-- Document 004's own pictures of the escalation receiver, computed. A list for each signal, a number for each time.
-- Assumes nothing.
use Prim.Native.Nat.{ℕ}
use mathlib.Core.Path.{◌≡◌, refl}
use mathlib.Core.Bool.{Bool, true, false}
use mathlib.Core.List.{List, [], ◌∷◌}
use lib.Dec.{eqb}
use Rattle.link_rules.proofs.EscalationScenes.{rules}
use Rattle.link_rules.specs.EscalationReceiver.{new_escalation_receiver, responds_positive, responds_negative, escalates, listened}
use Rattle.link_rules.specs.declared.EscalationReceiver.{EscalationReceiver}

abbrev num : Bool → ℕ
num true = 1
num false = 0

-- the response's positive wire, its negative wire, and whether an escalation is seen, for these positive and negative wires
abbrev positives : EscalationReceiver → List ℕ → List ℕ → List ℕ
positives r [] ms = []
positives r (p ∷ ps) [] = []
positives r (p ∷ ps) (m ∷ ms) = num (responds_positive r) ∷ positives (listened r (eqb p 1) (eqb m 1)) ps ms

abbrev negatives : EscalationReceiver → List ℕ → List ℕ → List ℕ
negatives r [] ms = []
negatives r (p ∷ ps) [] = []
negatives r (p ∷ ps) (m ∷ ms) = num (responds_negative r) ∷ negatives (listened r (eqb p 1) (eqb m 1)) ps ms

abbrev escalations : EscalationReceiver → List ℕ → List ℕ → List ℕ
escalations r [] ms = []
escalations r (p ∷ ps) [] = []
escalations r (p ∷ ps) (m ∷ ms) = num (escalates r (eqb p 1) (eqb m 1)) ∷ escalations (listened r (eqb p 1) (eqb m 1)) ps ms

-- "Escalation signaling and response", times 0 to 8: esc_p 01.....0. , resp_p 0.101010. , esc_req_o 0.1....0.
abbrev pulse : List ℕ
pulse = 0 ∷ 1 ∷ 1 ∷ 1 ∷ 1 ∷ 1 ∷ 1 ∷ 0 ∷ 0 ∷ []

abbrev pulse_n : List ℕ
pulse_n = 1 ∷ 0 ∷ 0 ∷ 0 ∷ 0 ∷ 0 ∷ 0 ∷ 1 ∷ 1 ∷ []

signaling : (positives new_escalation_receiver pulse pulse_n ≡ 0 ∷ 0 ∷ 1 ∷ 0 ∷ 1 ∷ 0 ∷ 1 ∷ 0 ∷ 0 ∷ [])
    × (negatives new_escalation_receiver pulse pulse_n ≡ 1 ∷ 1 ∷ 0 ∷ 1 ∷ 0 ∷ 1 ∷ 0 ∷ 1 ∷ 1 ∷ [])
    × (escalations new_escalation_receiver pulse pulse_n ≡ 0 ∷ 0 ∷ 1 ∷ 1 ∷ 1 ∷ 1 ∷ 1 ∷ 0 ∷ 0 ∷ [])
unfolding rules
signaling = (refl, refl, refl)

-- "ping testing of escalation lines", times 0 to 6: esc_p 010.... , resp_p 0.1010.
ping : (positives new_escalation_receiver (0 ∷ 1 ∷ 0 ∷ 0 ∷ 0 ∷ 0 ∷ 0 ∷ []) (1 ∷ 0 ∷ 1 ∷ 1 ∷ 1 ∷ 1 ∷ 1 ∷ []) ≡ 0 ∷ 0 ∷ 1 ∷ 0 ∷ 1 ∷ 0 ∷ 0 ∷ [])
    × (escalations new_escalation_receiver (0 ∷ 1 ∷ 0 ∷ 0 ∷ 0 ∷ 0 ∷ 0 ∷ []) (1 ∷ 0 ∷ 1 ∷ 1 ∷ 1 ∷ 1 ∷ 1 ∷ []) ≡ 0 ∷ 0 ∷ 0 ∷ 0 ∷ 0 ∷ 0 ∷ 0 ∷ [])
unfolding rules
ping = (refl, refl)

-- "possible signal integrity failure cases", times 6 to 11: esc_p 1..... , esc_n 1..... , resp_p ..1010 , (resp_n).01010 , esc_req_o 1.....
integrity : (positives new_escalation_receiver (1 ∷ 1 ∷ 1 ∷ 1 ∷ 1 ∷ 1 ∷ []) (1 ∷ 1 ∷ 1 ∷ 1 ∷ 1 ∷ 1 ∷ []) ≡ 0 ∷ 0 ∷ 1 ∷ 0 ∷ 1 ∷ 0 ∷ [])
    × (negatives new_escalation_receiver (1 ∷ 1 ∷ 1 ∷ 1 ∷ 1 ∷ 1 ∷ []) (1 ∷ 1 ∷ 1 ∷ 1 ∷ 1 ∷ 1 ∷ []) ≡ 1 ∷ 0 ∷ 1 ∷ 0 ∷ 1 ∷ 0 ∷ [])
    × (escalations new_escalation_receiver (1 ∷ 1 ∷ 1 ∷ 1 ∷ 1 ∷ 1 ∷ []) (1 ∷ 1 ∷ 1 ∷ 1 ∷ 1 ∷ 1 ∷ []) ≡ 1 ∷ 1 ∷ 1 ∷ 1 ∷ 1 ∷ 1 ∷ [])
unfolding rules
integrity = (refl, refl, refl)

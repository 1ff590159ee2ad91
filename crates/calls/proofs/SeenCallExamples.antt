-- The second statement across calls at work: an escalation that goes over the boundaries of calls, as the receivers at the lines' ends see it.
-- Assumes nothing.
use Prim.Native.Nat.{ℕ, ◌+◌, ◌≤◌, ◌<◌}
use mathlib.Core.Path.{◌≡◌, refl}
use mathlib.Core.Logic.{⊎_elim}
use mathlib.Core.Bool.{Bool, true, false}
use mathlib.Core.List.{List, [], ◌∷◌, map}
use native.Mathlib.Omega.{arith}
use lib.ListN.{length}
use Rattle.calm_rules.specs.Call.{calmed}
use Rattle.link_rules.proofs.SenderLaws.{sender_by}
use Rattle.link_rules.specs.EscalationReceiver.{escalates, listened, sees}
use Rattle.link_rules.specs.Sender.{new_sender}
use Rattle.rules.proofs.Scenes.{rules}
use Rattle.rules.specs.declared.Input.{Input}
use Rattle.seen.specs.Seen.{SeenSoon, NewSenders}
use Rattle.seen.specs.Wires.{sent_positive, sent_negative, receiver_at, seen_in, Sound}
use Rattle.trace_rules.proofs.TraceScenes.{traces}
use Rattle.calls.specs.Calls.{Call, in_turn, inputs_all}
use Rattle.calls.specs.SeenCalls.{SeenAcrossCalls}
use Rattle.calls.proofs.CallExamples.{class, station, starting, calls}
use Rattle.calls.proofs.CalmCallExamples as calm
use Rattle.calls.proofs.SeenCalls.{seen_across}

-- ── the five calls of CallExamples: line 0 is on in ticks 100 and 101, line 1 in 102 and 103, line 2 from 104 on ──

abbrev ran : List Input
ran = inputs_all station calls

-- what the receiver of line e sees of a sound pair in each of the five ticks: the second tick of each line, not yet line 2's
abbrev sight : ℕ → List Bool
sight e = map (seen_in (sent_positive station ran e) (sent_negative station ran e)) (0 ∷ 1 ∷ 2 ∷ 3 ∷ 4 ∷ [])

computed : (sight 0 ≡ false ∷ true ∷ false ∷ false ∷ false ∷ [])
    × (sight 1 ≡ false ∷ false ∷ false ∷ true ∷ false ∷ [])
    × (sight 2 ≡ false ∷ false ∷ false ∷ false ∷ false ∷ [])
unfolding rules traces in_turn receiver_at escalates listened sees
computed = (refl, refl, refl)

-- ── the same start, and then any calls cs that reach tick 103: whatever they are, line 1's receiver sees it there ──

module _ (cs : List Call) (ps qs : ℕ → Bool) (sound : Sound station (inputs_all station (starting ∷ cs)) 1 ps qs)
    (reached : 103 < 100 + length (inputs_all station (starting ∷ cs))) where
  new : NewSenders station
  unfolding rules traces
  new = record { accepted = refl; senders = sender_by (λ e. new_sender) }

  claim : SeenAcrossCalls station (starting ∷ cs)
  claim = seen_across station (starting ∷ cs) new

  soon : SeenSoon 100 (inputs_all station (starting ∷ cs)) class 100 1 ps qs 103
  unfolding rules traces in_turn
  soon =
      claim.second.escalation 100 2 100 1 ps qs (omega arith) sound (record { from = omega arith; to = omega arith })
      (record { is_class = omega arith; is_start = refl; is_locked = refl; has_en = refl; has_lock = refl }) refl 103
      (record { from = omega arith; to = reached }) (record { from = omega arith; to = omega arith })

  sees_it : seen_in ps qs 3 ≡ true
  sees_it = ⊎_elim (λ s. s) (λ s. absurd (omega (arith, s.0))) soon

-- ── the calls of CalmCallExamples: line e is on in ticks 100 + 2 e and 101 + 2 e, of which the calm call has 101 to 106 ──

abbrev calm_ran : List Input
calm_ran = inputs_all station calm.calls

-- what the receivers of lines 0, 1 and 3 see in each of the eight ticks: the second tick of the line
abbrev calm_sight : ℕ → List Bool
calm_sight e = map (seen_in (sent_positive station calm_ran e) (sent_negative station calm_ran e)) (0 ∷ 1 ∷ 2 ∷ 3 ∷ 4 ∷ 5 ∷ 6 ∷ 7 ∷ [])

calm_computed : (calm_sight 0 ≡ false ∷ true ∷ false ∷ false ∷ false ∷ false ∷ false ∷ false ∷ [])
    × (calm_sight 1 ≡ false ∷ false ∷ false ∷ true ∷ false ∷ false ∷ false ∷ false ∷ [])
    × (calm_sight 3 ≡ false ∷ false ∷ false ∷ false ∷ false ∷ false ∷ false ∷ true ∷ [])
unfolding calm.calms receiver_at escalates listened sees
calm_computed = (refl, refl, refl)

-- its outputs are those of its last tick, 106: line 3, and its pair on
last_pairs : ((calmed calm.begun calm.wires 6 (calm.entries 20)).output.lines ≡ 8)
    × ((calmed calm.begun calm.wires 6 (calm.entries 20)).output.escalation ≡ record { pos = 8; neg = 7 })
unfolding calm.calms
last_pairs = (refl, refl)

-- in a calm call of any number of ticks that has tick 103, line 1's receiver sees it there
module _ (n : ℕ) (small : n ≤ 4294967295) (enough : 3 ≤ n) (cs : List Call) (ps qs : ℕ → Bool) where
  abbrev after : List Call
  after = calm.longer n small cs ∷ cs

  calm_sees_it : Sound station (inputs_all station (starting ∷ after)) 1 ps qs → seen_in ps qs 3 ≡ true
  calm_sees_it sound = sees_it after ps qs sound (omega (arith, calm.reached n small cs))

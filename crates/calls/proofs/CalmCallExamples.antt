-- Calm calls among calls: an escalation whose phases end in one, computed, and by the theorem in a call of any number of ticks; how many ticks one has.
-- Assumes nothing.
use Prim.Native.Nat.{ℕ, suc, ◌+◌, ◌≤◌, ◌<◌}
use mathlib.Core.Path.{◌≡◌, refl, ap, ◌∙◌}
use mathlib.Core.Bool.{true, false}
use mathlib.Core.List.{List, [], ◌∷◌, map}
use native.Mathlib.Omega.{arith}
use lib.IntN.{pos, negsuc}
use lib.ListN.{length, replicate, length-append}
use Rattle.bits.specs.Bits.{bit}
use Rattle.calm_laws.specs.Tells.{lines_by}
use Rattle.calm_rules.specs.Call.{calm_verdict, calmed, calmed_list, call_inputs}
use Rattle.calm_rules.specs.Ticks.{calm_run, calm_inputs, calm_output, change_word, calm_changes}
use Rattle.escalation.specs.Escalation.{Escalated}
use Rattle.escalation.specs.List.{given_at}
use Rattle.rules.proofs.Scenes.{rules}
use Rattle.rules.specs.Scenes.{rest, none}
use Rattle.rules.specs.declared.Handler.{Handler}
use Rattle.rules.specs.declared.Wires.{Wires}
use Rattle.trace_rules.proofs.TraceScenes.{traces}
use Rattle.calls.specs.Calls.{Call, Tick, Calm, leaves, inputs, change_words, seen, leaves_all, in_turn, inputs_all, seen_all}
use Rattle.calls.proofs.Calls.{across_calls}
use Rattle.calls.proofs.CallExamples.{class, station, starting, lines}
use Rattle.calls.proofs.WholeCalmCalls.{calm_many, calm_line}

-- names every definition that an example computes with
unfoldable pub calms : ℕ → ℕ
unfolding rules traces calm_verdict calmed calmed_list call_inputs calm_run calm_inputs calm_output change_word calm_changes lines_by in_turn leaves_all
calms n = n

-- ── class 2 starts in tick 100, with phases of two ticks; line e is mapped to Phase e; the calm call has ticks 101 to 106 ──

-- all wires of the alerts at (0,1), and a list of k entries
abbrev pub wires : Wires
wires = (rest none).sample.alerts

abbrev pub entries : ℕ → List ℕ
entries k = replicate k 7

abbrev pub calm : Call
calm = Calm wires 6 (omega arith) (entries 20)

-- 19 entries: refused with 18
abbrev refused : Call
refused = Calm wires 6 (omega arith) (entries 19)

abbrev pub calls : List Call
calls = starting ∷ refused ∷ calm ∷ Tick (rest none) ∷ []

-- the state on which they are called
abbrev pub begun : Handler
begun = leaves station starting

-- three words: line 1 from its tick 2 on, line 2 from 4 on, line 3 in its last; the other entries stay, and so do all of the refused call
gives : ((calmed begun wires 6 (entries 20)).answer ≡ pos 3)
    × (calmed_list begun wires 6 (entries 20) ≡ 0x4000000000000002 ∷ 0x2000000000000004 ∷ 0x1000000000000006 ∷ entries 17)
    × ((calmed begun wires 6 (entries 19)).answer ≡ negsuc 17)
    × (calmed_list begun wires 6 (entries 19) ≡ entries 19)
unfolding calms
gives = (refl, refl, refl, refl)

-- the lines that the callers see in ticks 100 to 107: 0, 0, 1, 1, 2, 2, 3, 3
computed : map lines (seen_all station calls)
    ≡ (true ∷ false ∷ false ∷ false ∷ [])
    ∷ (true ∷ false ∷ false ∷ false ∷ [])
    ∷ (false ∷ true ∷ false ∷ false ∷ [])
    ∷ (false ∷ true ∷ false ∷ false ∷ [])
    ∷ (false ∷ false ∷ true ∷ false ∷ [])
    ∷ (false ∷ false ∷ true ∷ false ∷ [])
    ∷ (false ∷ false ∷ false ∷ true ∷ [])
    ∷ (false ∷ false ∷ false ∷ true ∷ [])
    ∷ []
unfolding calms
computed = refl

-- a call of 0 ticks, and one that is refused, has none
none_run : (inputs begun (Calm wires 0 (omega arith) (entries 20)) ≡ []) × (inputs begun refused ≡ []) × (seen begun refused ≡ [])
unfolding calms
none_run = (refl, refl, refl)

-- ── the same start, then a calm call of any number of ticks that ends after tick 107, and then any calls cs ──

module _ (n : ℕ) (small : n ≤ 4294967295) (cs : List Call) where
  abbrev pub longer : Call
  longer = Calm wires n small (entries 20)

  abbrev after : List Call
  after = starting ∷ longer ∷ cs

  -- its ticks are among those of the list
  pub reached : 100 + n < 100 + length (inputs_all station after)
  unfolding rules traces in_turn leaves_all
  reached =
      let many : length (inputs begun longer) ≡ n = calm_many station refl (starting ∷ []) cs wires n small (entries 20) refl (omega arith) in
      omega (arith, many, length-append (inputs begun longer) (inputs_all (leaves begun longer) cs))

  -- by its words line 3 is on in ticks 106 and 107, the calm call's ticks 6 and 7
  module _ (enough : 7 ≤ n) (j : ℕ) (from : 5 ≤ j) (to : j < 7) where
    escalated : Escalated class 100 (101 + j) (given_at 100 station (inputs_all station after) (101 + j)) 2
    unfolding rules traces in_turn
    escalated =
        (across_calls station after refl).demand3.escalation 100 2 100 (record { from = omega arith; to = omega arith })
        (record { is_class = omega arith; is_start = refl; is_locked = refl; has_en = refl; has_lock = refl }) (101 + j) (omega arith)
        (record { from = omega arith; to = omega (arith, reached) })

    told : bit (lines_by 1 (change_words begun wires n (entries 20)) (suc j)) 3 ≡ true
    unfolding rules traces in_turn leaves_all
    told =
        let t : 100 + (1 + j) ≡ 101 + j = omega arith in
        calm_line station refl (starting ∷ []) cs wires n small (entries 20) refl (omega arith) 100 3 j (omega arith) (omega arith)
        ∙ ap (λ (i : ℕ). bit (given_at 100 station (inputs_all station after) i).output.lines 3) t
        ∙ (escalated.line 3 (omega arith)).inside refl (record { from = omega arith; to = omega arith })

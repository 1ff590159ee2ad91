-- Request (xii), "Skip the calm": ticks without access on steady wires, one by one, of the tick itself.
-- Assumes nothing.
use Rattle.std.specs.Prelude.{ℕ, zero, suc, cond, not, List, [], ◌∷◌, ◌++◌, eqb}
use Rattle.bits.specs.Bits.{bit, bits_of, num}
use Rattle.bits.specs.Fields.{pack}
use Rattle.link_rules.specs.Senders.{line_count}
use Rattle.rules.specs.State.{sender}
use Rattle.rules.specs.Tick.{interrupts, lines, no_output, ticked}
use Rattle.rules.specs.declared.Access.{Access}
use Rattle.rules.specs.declared.Handler.{Handler}
use Rattle.rules.specs.declared.Input.{Input}
use Rattle.rules.specs.declared.Output.{Output}
use Rattle.rules.specs.declared.Receive.{Receive}
use Rattle.rules.specs.declared.Receive.TheVariants.{Pairs}
use Rattle.rules.specs.declared.Wires.{Wires}

-- ── one calm tick, of the state h ──

-- "Escalation receivers answer without fault": the right answer to all that the senders have sent, also before the call
abbrev pub sound_receive : Handler → Receive
sound_receive h = Pairs (bits_of line_count (λ e. (sender h e).sound.answer)) (bits_of line_count (λ e. not (sender h e).sound.answer))

-- "ticks without access on steady wires": no access, the alerts' wires w, and the entropy word 0
abbrev pub calm_input : Wires → Handler → Input
calm_input w h = record { access = Access.Nothing; sample = record { alerts = w; word = 0; receive = sound_receive h } }

-- ── "that many plain ticks" ──

-- the state after n of them
unfoldable pub calm_run : Handler → Wires → ℕ → Handler
calm_run h w zero = h
calm_run h w (suc n) = let g = calm_run h w n in (ticked g (calm_input w g)).handler

-- their inputs: a calm call is a list of ticks
unfoldable pub calm_inputs : Handler → Wires → ℕ → List Input
calm_inputs h w zero = []
calm_inputs h w (suc n) = calm_inputs h w n ++ (calm_input w (calm_run h w n) ∷ [])

-- "tick 0 is step 5 of the given state, pairs (0,1)"
abbrev pub given_output : Handler → Output
given_output h =
    record {
      interrupts = interrupts h;
      lines = lines h;
      acknowledge = no_output.acknowledge;
      ping = no_output.ping;
      escalation = no_output.escalation;
    }

-- the outputs of tick n, "the final outputs" of n ticks
unfoldable pub calm_output : Handler → Wires → ℕ → Output
calm_output h w zero = given_output h
calm_output h w (suc n) = let g = calm_run h w n in (ticked g (calm_input w g)).output

-- ── "every tick at which a line changed" ──

-- "as words: lines (4 bits, line 0 first), 28 zeros, tick"
abbrev pub change_layout : List ℕ
change_layout = 1 ∷ 1 ∷ 1 ∷ 1 ∷ 28 ∷ 32 ∷ []

unfoldable pub change_word : ℕ → ℕ → ℕ
change_word on tick = pack change_layout (num (bit on 0) ∷ num (bit on 1) ∷ num (bit on 2) ∷ num (bit on 3) ∷ 0 ∷ tick ∷ [])

-- of one tick: no word if the lines are those of the tick before, and one for a change of several
abbrev pub change : ℕ → ℕ → ℕ → List ℕ
change old new tick = cond (eqb new old) [] (change_word new tick ∷ [])

-- "in order", "(the first is 1)"
unfoldable pub calm_changes : Handler → Wires → ℕ → List ℕ
calm_changes h w zero = []
calm_changes h w (suc n) = calm_changes h w n ++ change (calm_output h w n).lines (calm_output h w (suc n)).lines (suc n)

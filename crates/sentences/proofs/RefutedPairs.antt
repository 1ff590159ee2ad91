-- Wrong output pairs of requests (viii) and (xi) that the sentences refuse, as theorems, as in RefutedReceivers.antt.
-- Assumes nothing.
use Prim.Native.Nat.{ℕ}
use mathlib.Core.Path.{◌≡◌, refl, sym, ap, ◌∙◌}
use mathlib.Core.Bool.{Bool, true, false, false≢true, cond, not, ◌&&◌, ◌||◌}
use native.Mathlib.Omega.{arith}
use lib.Dec.{leb, ltb}
use Rattle.bits.specs.Bits.{bit}
use Rattle.bits.specs.Index.{words_by}
use Rattle.link_rules.specs.Receiver.{acknowledges, is_ready}
use Rattle.link_rules.specs.declared.Handshake.TheVariants.{Ready, Acknowledged, FirstPause, SecondPause}
use Rattle.link_rules.specs.declared.Receiver.{Receiver}
use Rattle.link_rules.specs.declared.Response.TheVariants.{Checking}
use Rattle.rules.specs.Access.{accessed}
use Rattle.rules.specs.Scenes.{rest, none}
use Rattle.rules.specs.State.{words, receiver, with_interrupts}
use Rattle.rules.specs.Tick.{pairs, line_pairs, escalation_pairs, output_of, no_output, tick}
use Rattle.rules.specs.Valid.{valid}
use Rattle.rules.specs.declared.Answer.{Answer}
use Rattle.rules.specs.declared.Handler.{Handler}
use Rattle.rules.specs.declared.Input.{Input}
use Rattle.rules.specs.declared.LinePairs.{LinePairs}
use Rattle.rules.specs.declared.Output.{Output}
use Rattle.rules.specs.declared.Refusal.TheVariants.{BadState}
use Rattle.rules.specs.declared.Ticked.{Ticked}
use Rattle.rules.specs.declared.Wires.{Wires}
use Rattle.rules.proofs.Scenes.{rules}
use Rattle.sentences.specs.Outputs.{Outputs}
use Rattle.sentences.specs.Raw.{positive, negative}
use Rattle.sentences.specs.Tick.{Tick}
use Rattle.sentences.specs.Valid.{Valid}
use Rattle.sentences.proofs.HoldsOutputs.{holds_outputs}
use Rattle.sentences.proofs.LinkParts.{with_senders}
use Rattle.sentences.proofs.OnlyTick.{only_outputs}
use Rattle.sentences.proofs.RefutedReceivers.{standing, at, waiting}
use Rattle.sentences.proofs.RefutedSenders.{was}

-- the outputs with other pairs
abbrev with_pairs : Wires → Wires → Output → Output
with_pairs a p o = record { interrupts = o.interrupts; lines = o.lines; acknowledge = a; ping = p; escalation = o.escalation }

-- outputs of which a wire is another than the rules' is
other_wire : (o : Handler → Handler → Output) (g h : Handler) (f : Output → Bool) → f (o g h) ≡ false → f (output_of g h) ≡ true → ¬ Outputs o
other_wire o g h f p q w = false≢true (sym p ∙ ap f (only_outputs o output_of w holds_outputs g h) ∙ q)

-- acknowledge pairs by where the receivers stand before the tick and after it
abbrev acknowledged_by : (Bool → Bool → Bool) → Handler → Handler → Output
acknowledged_by f g h =
    with_pairs (pairs (λ i. ltb i g.n && f (acknowledges (receiver g i).stands) (acknowledges (receiver h i).stands))) (output_of g h).ping (output_of g h)

-- a rise that is acknowledged in its own tick
pub no_acknowledge_at_once : ¬ Outputs (acknowledged_by ◌||◌)
unfolding rules
no_acknowledge_at_once = other_wire (acknowledged_by ◌||◌) (standing (at Ready)) (standing (at Acknowledged)) (λ o. negative o.acknowledge 0) refl refl

-- an acknowledgement that drops in the tick of the alert's drop
pub no_drop_at_once : ¬ Outputs (acknowledged_by ◌&&◌)
unfolding rules
no_drop_at_once = other_wire (acknowledged_by ◌&&◌) (standing (at Acknowledged)) (standing (at FirstPause)) (λ o. positive o.acknowledge 0) refl refl

-- an acknowledgement that stays through the pause
abbrev lasting : Handler → Handler → Output
lasting g h = with_pairs (pairs (λ i. ltb i g.n && not (is_ready (receiver g i).stands))) (output_of g h).ping (output_of g h)

pub no_acknowledge_in_pause : ¬ Outputs lasting
unfolding rules
no_acknowledge_in_pause = other_wire lasting (standing (at FirstPause)) (standing (at SecondPause)) (λ o. negative o.acknowledge 0) refl refl

-- the level of before the asking
abbrev as_before : Handler → Handler → Output
as_before g h = with_pairs (output_of g h).acknowledge (output_of g g).ping (output_of g h)

pub no_level_of_before : ¬ Outputs as_before
unfolding rules
no_level_of_before = other_wire as_before (standing (at Ready)) (standing waiting) (λ o. positive o.ping 0) refl refl

-- the pair (0,0) instead of (0,1), of every alert, or at the places where no alert can be
abbrev dark : (ℕ → Bool) → Wires → Wires
dark there w = record { pos = w.pos; neg = words_by words (λ i. negative w i && not (there i)) }

abbrev dark_pairs : (ℕ → Bool) → Output → Output
dark_pairs there o = with_pairs (dark there o.acknowledge) (dark there o.ping) o

pub no_pair_00 : ¬ Outputs (λ g h. dark_pairs (λ i. true) (output_of g h))
unfolding rules
no_pair_00 = other_wire _ (standing (at Ready)) (standing (at Ready)) (λ o. negative o.acknowledge 0) refl refl

pub no_pair_00_above : ¬ Outputs (λ g h. dark_pairs (λ i. leb 248 i) (output_of g h))
unfolding rules
no_pair_00_above = other_wire _ (standing (at Ready)) (standing (at Ready)) (λ o. negative o.ping 255) refl refl

-- where a receiver stands, or its level, is shown at N and above too: N is 1
abbrev stands_above : Handler → Handler → Output
stands_above g h = with_pairs (pairs (λ i. acknowledges (receiver g i).stands)) (output_of g h).ping (output_of g h)

pub no_acknowledge_above : ¬ Outputs stands_above
unfolding rules
no_acknowledge_above = other_wire stands_above (standing (at Acknowledged)) (standing (at Acknowledged)) (λ o. negative o.acknowledge 1) refl refl

abbrev levels_above : Handler → Handler → Output
levels_above g h = with_pairs (output_of g h).acknowledge (pairs (λ i. (receiver h i).level)) (output_of g h)

pub no_level_above : ¬ Outputs levels_above
unfolding rules
no_level_above = other_wire levels_above (standing waiting) (standing waiting) (λ o. negative o.ping 255) refl refl

-- ── request (xi): the lines' pairs ──

-- as with_pairs
abbrev with_escalation : LinePairs → Output → Output
with_escalation w o = record { interrupts = o.interrupts; lines = o.lines; acknowledge = o.acknowledge; ping = o.ping; escalation = w }

-- the line itself is sent: a lone tick stays lone and no ping goes out
abbrev lines_sent : Handler → Handler → Output
lines_sent g h = with_escalation (line_pairs (bit (output_of g h).lines)) (output_of g h)

-- every sender's pair was on in the tick that reaches it, and no line is on
abbrev pulsing : Handler
pulsing = with_senders (λ e. was true true Checking true) (standing (at Ready))

pub no_line_for_a_pair : ¬ Outputs lines_sent
unfolding rules
no_line_for_a_pair = other_wire lines_sent pulsing pulsing (λ o. bit o.escalation.pos 3) refl refl

-- the pair of the tick before
abbrev sent_before : Handler → Handler → Output
sent_before g h = with_escalation (escalation_pairs g) (output_of g h)

pub no_pair_a_tick_late : ¬ Outputs sent_before
unfolding rules
no_pair_a_tick_late = other_wire sent_before (standing (at Ready)) pulsing (λ o. bit o.escalation.pos 0) refl refl

-- ── refusal 7 with other outputs ──

abbrev refused_with : (Handler → Output) → Handler → Input → Ticked
refused_with o h x = cond (valid h) (tick h x) (record { handler = h; answer = Answer.Refused BadState; output = o h })

-- INTR_STATE has four bits
abbrev breaking : Handler → Handler
breaking h = with_interrupts (record { state = 16; enable = 0 }) h

abbrev broken : Receiver → Handler
broken t = breaking (standing t)

not_valid : (h : Handler) → ¬ Valid (breaking h)
not_valid h v = omega (arith, v.intr_state)

other_refusal : (o : Handler → Output) (t : Receiver) → negative (o (broken t)).ping 0 ≡ false → ¬ Tick accessed (refused_with o)
unfolding rules
other_refusal o t p w =
    let r = (w (broken t) (rest none)).refused (not_valid (standing t)) in false≢true (sym p ∙ (r.ping.low 0 (omega arith)).1)

-- pairs (0,0)
pub no_refused_pair_00 : ¬ Tick accessed (refused_with (λ h. dark_pairs (λ i. true) no_output))
unfolding rules
no_refused_pair_00 = other_refusal (λ h. dark_pairs (λ i. true) no_output) (at Ready) refl

-- the state's levels
pub no_refused_level : ¬ Tick accessed (refused_with (λ h. output_of h h))
unfolding rules
no_refused_level = other_refusal (λ h. output_of h h) waiting refl

-- request (xi), "7 sends it", (0,1): the state's escalation pairs
pub no_refused_escalation : ¬ Tick accessed (refused_with (λ h. with_escalation (escalation_pairs h) no_output))
unfolding rules
no_refused_escalation w =
    let r = (w (breaking pulsing) (rest none)).refused (not_valid pulsing) in
    false≢true (sym (ap (λ (x : ℕ). bit x 0) r.escalation_positive))

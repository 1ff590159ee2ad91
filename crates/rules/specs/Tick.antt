-- "One tick, in order": steps 3 to 5, and the whole tick.
-- Assumes nothing.
use Rattle.std.specs.Prelude.{ℕ, Bool, false, cond, not, ◌&&◌, ◌||◌, eqb, ltb}
use Rattle.bits.specs.Bits.{bit, bits_of, num}
use Rattle.bits.specs.Index.{each, any_to, place_in, words_by}
use Rattle.class_rules.specs.Class.{drives}
use Rattle.class_rules.specs.Step.{class_event, class_step}
use Rattle.class_rules.specs.declared.Signals.{Signals}
use Rattle.link_rules.specs.Codes.{last_bit}
use Rattle.link_rules.specs.LinePing.{closed_by_line, closing}
use Rattle.link_rules.specs.Pings.{line_after}
use Rattle.link_rules.specs.Receiver.{acknowledges}
use Rattle.link_rules.specs.Senders.{line_count, sent_all}
use Rattle.link_rules.specs.Timer.{is_line, line_of, opens, turned}
use Rattle.link_rules.specs.declared.Drive.{Drive}
use Rattle.link_rules.specs.declared.Meets.{Meets}
use Rattle.rules.specs.Access.{acted, answer_to, effects}
use Rattle.rules.specs.Samples.{heard, assigned, sampled}
use Rattle.rules.specs.State.{words, class_count, class_at, receiver, sender, with_interrupts, with_classes, with_links}
use Rattle.rules.specs.Valid.{valid}
use Rattle.rules.specs.declared.Answer.{Answer}
use Rattle.rules.specs.declared.Effects.{Effects}
use Rattle.rules.specs.declared.Handler.{Handler}
use Rattle.rules.specs.declared.Heard.{Heard}
use Rattle.rules.specs.declared.Input.{Input}
use Rattle.rules.specs.declared.LinePairs.{LinePairs}
use Rattle.rules.specs.declared.Links.{Links}
use Rattle.rules.specs.declared.Output.{Output}
use Rattle.rules.specs.declared.Refusal.TheVariants.{BadState}
use Rattle.rules.specs.declared.Ticked.{Ticked}
use Rattle.rules.specs.declared.Wires.{Wires}

-- ── steps 3 and 4, of the handler g after step 1, what step 2 hears and the effects of step 1 ──

-- class k has an event
unfoldable pub event : Handler → Heard → ℕ → Bool
event g v k = class_event (assigned g v k) (class_at g k)

-- it sets the interrupt bit, after any clearing in step 1
unfoldable pub interrupt_now : Handler → Heard → ℕ → Bool
interrupt_now g v k = bit g.interrupts.state k || event g v k

-- what class k meets
unfoldable pub signals : Handler → Heard → Effects → ℕ → Signals
signals g v e k = record { event = event g v k; interrupt = interrupt_now g v k; clear = bit e.clears k }

-- the registers after steps 2 to 4: the links are those of g
unfoldable pub stepped : Handler → Heard → Effects → Handler
stepped g v e =
    with_classes (each class_count (λ k. class_step (signals g v e k) (class_at g k)))
    (with_interrupts (record { state = bits_of 4 (interrupt_now g v); enable = g.interrupts.enable }) (sampled g v))

-- ── step 5: outputs from the state now reached ──

-- interrupts are INTR_STATE and INTR_ENABLE, bit by bit
unfoldable pub interrupts : Handler → ℕ
interrupts h = bits_of 4 (λ k. bit h.interrupts.state k && bit h.interrupts.enable k)

-- a line is on if any class drives it
unfoldable pub lines : Handler → ℕ
lines h = bits_of 4 (λ e. any_to (λ k. drives (class_at h k) e) class_count)

-- ── the links after the tick, of the handler g after step 1, what step 2 hears and the lines of step 5 ──

-- what line e's sender is given: the line, and whether its ping opens
unfoldable pub driven : Handler → Heard → ℕ → ℕ → Drive
driven g v lit e =
    let t = g.links.turn in
    record { line = bit lit e; ping = opens v.meets t && (is_line t && eqb e (line_of t)) }

-- request (xi): an escalation on the turn's line closes its ping, or keeps it from the wire
unfoldable pub closed_now : Handler → Heard → ℕ → Bool
closed_now g v lit =
    let t = g.links.turn in
    closed_by_line v.checked v.meets t (sender g (line_of t)) (driven g v lit (line_of t))

-- what the timer met in the whole tick
abbrev pub met_by : Handler → Heard → ℕ → Meets
met_by g v lit = closing (closed_now g v lit) v.meets

-- the lines whose ping is open after the tick; the bits from 4 up are no line's
unfoldable pub lines_timed : Handler → Heard → ℕ → ℕ
lines_timed g v lit =
    let was = bit g.links.lines in
    bits_of 32 (λ l. cond (ltb l line_count) (line_after (met_by g v lit) g.links.turn (was l) l) (was l))

unfoldable pub links_after : Handler → Heard → ℕ → Links
links_after g v lit =
    record {
      receivers = v.receivers;
      turn = turned (met_by g v lit) g.links.turn;
      lines = lines_timed g v lit;
      senders = sent_all g.links.senders (driven g v lit);
      right = num v.right;
    }

-- ── the pairs ──

-- request (viii): a pair for each alert, (1,0) where f holds and (0,1) elsewhere
abbrev pub pairs : (ℕ → Bool) → Wires
pairs f = record { pos = words_by words f; neg = words_by words (λ i. not (f i)) }

-- the acknowledge pairs in a tick of the state h, by where its receivers stand before the tick's wires; (0,1) at N and above
unfoldable pub acknowledge_pairs : Handler → Wires
acknowledge_pairs h = pairs (λ i. ltb i h.n && acknowledges (receiver h i).stands)

-- the ping pairs in the tick that reaches the state g: asking has changed their levels; (0,1) at N and above
unfoldable pub ping_pairs : Handler → Wires
ping_pairs g = pairs (λ i. ltb i g.n && (receiver g i).level)

-- request (xi): a pair for each line
abbrev pub line_pairs : (ℕ → Bool) → LinePairs
line_pairs f = record { pos = bits_of line_count f; neg = bits_of line_count (λ e. not (f e)) }

-- the escalation pairs in the tick that reaches the state g: what its senders sent in it
unfoldable pub escalation_pairs : Handler → LinePairs
escalation_pairs g = line_pairs (λ e. last_bit (sender g e).sound.stands)

-- in the tick from h to g
unfoldable pub output_of : Handler → Handler → Output
output_of h g =
    record {
      interrupts = interrupts g;
      lines = lines g;
      acknowledge = acknowledge_pairs h;
      ping = ping_pairs g;
      escalation = escalation_pairs g;
    }

-- refusal 7: interrupts and lines 0, all pairs (0,1)
abbrev pub no_output : Output
no_output =
    record {
      interrupts = 0;
      lines = 0;
      acknowledge = pairs (λ i. false);
      ping = pairs (λ i. false);
      escalation = line_pairs (λ e. false);
    }

-- ── the tick ──

-- what its step 2 hears
unfoldable pub hears : Handler → Input → Heard
hears h x = heard (acted h x.access) x.sample (effects h x.access)

-- alert i has an event in it, enabled or not; its open ping is answered in it
abbrev pub happens_in : Handler → Input → ℕ → Bool
happens_in h x i = place_in (hears h x).events i

abbrev pub answered_in : Handler → Input → ℕ → Bool
answered_in h x i = place_in (hears h x).answers i

-- class k has an event in it, and what the class meets
abbrev pub event_in : Handler → Input → ℕ → Bool
event_in h x k = event (acted h x.access) (hears h x) k

abbrev pub signals_in : Handler → Input → ℕ → Signals
signals_in h x k = signals (acted h x.access) (hears h x) (effects h x.access) k

-- the registers after steps 1 to 4
abbrev pub reached : Handler → Input → Handler
reached h x = stepped (acted h x.access) (hears h x) (effects h x.access)

-- the state after the tick: the links are written last, since no step reads what they become
unfoldable pub after : Handler → Input → Handler
after h x = let g = reached h x in with_links (links_after (acted h x.access) (hears h x) (lines g)) g

-- steps 1 to 5
unfoldable pub tick : Handler → Input → Ticked
tick h x = let g = after h x in record { handler = g; answer = answer_to h x.access; output = output_of h g }

-- refusal 7 comes first: state unchanged, tick not run
unfoldable pub ticked : Handler → Input → Ticked
ticked h x = cond (valid h) (tick h x) (record { handler = h; answer = Answer.Refused BadState; output = no_output })

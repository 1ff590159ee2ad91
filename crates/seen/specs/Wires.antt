-- Request (xi), "Escalation wires", in a list of ticks: the pair of each line as the ticks put it out, and a receiver at its other end.
-- h is the state before the list's first tick, xs are its inputs, and its ticks are counted from 0.
-- Assumes nothing.
use Rattle.std.specs.Prelude.{ℕ, zero, suc, ◌<◌, ◌≡◌, Bool, false, not, ◌&&◌, List, get_or, length, take}
use Rattle.bits.specs.Bits.{bit}
use Rattle.escalation.specs.List.{no_input, no_tick}
use Rattle.laws.specs.Sending.{drive_in}
use Rattle.link_rules.specs.EscalationReceiver.{new_escalation_receiver, escalates, listened}
use Rattle.link_rules.specs.declared.EscalationReceiver.{EscalationReceiver}
use Rattle.rules.specs.Run.{run, ticks}
use Rattle.rules.specs.declared.Handler.{Handler}
use Rattle.rules.specs.declared.Input.{Input}

-- ── line e in tick i ──

-- its pair as sent
abbrev pub sent_positive : Handler → List Input → ℕ → ℕ → Bool
sent_positive h xs e i = bit (get_or (ticks h xs) i no_tick).output.escalation.pos e

abbrev pub sent_negative : Handler → List Input → ℕ → ℕ → Bool
sent_negative h xs e i = bit (get_or (ticks h xs) i no_tick).output.escalation.neg e

-- the line is on, by step 5; a ping of it opens
abbrev pub line_on : Handler → List Input → ℕ → ℕ → Bool
line_on h xs e i = bit (get_or (ticks h xs) i no_tick).output.lines e

abbrev pub ping_opens : Handler → List Input → ℕ → ℕ → Bool
ping_opens h xs e i = (drive_in (run h (take i xs)) (get_or xs i no_input) e).ping

-- ── and before it; before the first tick nothing was on ──

-- its pair was on in the tick before, and so was the line
abbrev pub sent_before : Handler → List Input → ℕ → ℕ → Bool
sent_before h xs e zero = false
sent_before h xs e (suc i) = sent_positive h xs e i

abbrev pub line_before : Handler → List Input → ℕ → ℕ → Bool
line_before h xs e zero = false
line_before h xs e (suc i) = line_on h xs e i

-- the tick before was the first of the line's being on
abbrev pub first_before : Handler → List Input → ℕ → ℕ → Bool
first_before h xs e zero = false
first_before h xs e (suc i) = line_on h xs e i && not (line_before h xs e i)

-- the tick before was a lone one: on in it, off before it and off now
abbrev pub lone_before : Handler → List Input → ℕ → ℕ → Bool
lone_before h xs e i = first_before h xs e i && not (line_on h xs e i)

-- a ping's pulse is on the wire: it opens, the line is off and the pair was off in the tick before
abbrev pub pulse_in : Handler → List Input → ℕ → ℕ → Bool
pulse_in h xs e i = ping_opens h xs e i && (not (line_on h xs e i) && not (sent_before h xs e i))

-- ── a receiver, new before tick 0: ps i and qs i are its positive and negative wire in tick i ──

-- before tick i
unfoldable pub receiver_at : (ℕ → Bool) → (ℕ → Bool) → ℕ → EscalationReceiver
receiver_at ps qs zero = new_escalation_receiver
receiver_at ps qs (suc i) = listened (receiver_at ps qs i) (ps i) (qs i)

-- it sees an escalation in tick i
abbrev pub seen_in : (ℕ → Bool) → (ℕ → Bool) → ℕ → Bool
seen_in ps qs i = escalates (receiver_at ps qs i) (ps i) (qs i)

-- line e's pair is sound: it arrives as sent in every tick of the list. Nothing is asked of any other wire, the line's receive pair among them
pub record Sound (h : Handler) (xs : List Input) (e : ℕ) (ps qs : ℕ → Bool) : Type 0 where
  pub positive : (i : ℕ) → i < length xs → ps i ≡ sent_positive h xs e i
  pub negative : (i : ℕ) → i < length xs → qs i ≡ sent_negative h xs e i

-- Request (xi), "a second statement says that a new receiver on sound wires sees an escalation exactly where its pair is on in this tick and the one before,
-- also while answering a ping, so never in a lone ping": of every list of ticks, and joined with demand 3. proofs/Seen.antt proves it of every list from a
-- new handler whose receivers are new with it, and from every accepted state whose senders are as new.
-- Assumes nothing.
use Rattle.std.specs.Prelude.{ℕ, suc, ◌+◌, ◌-◌, ◌≤◌, ◌<◌, ◌≡◌, ◌⊎◌, Bool, true, false, not, ◌&&◌, ◌||◌, List, get_or, length, take}
use Rattle.class_rules.specs.Class.{line_enable, line_map}
use Rattle.class_rules.specs.declared.Class.{Class}
use Rattle.escalation.specs.Escalation.{phase_start, OfPhase, Starts, DrivenByOther}
use Rattle.escalation.specs.List.{IsTick, before, input_at, given_at, no_input, class_read}
use Rattle.link_rules.specs.EscalationReceiver.{responds_positive, responds_negative}
use Rattle.link_rules.specs.Sender.{new_sender}
use Rattle.link_rules.specs.Senders.{line_count}
use Rattle.link_rules.specs.declared.EscalationReceiver.{EscalationReceiver}
use Rattle.rules.specs.Access.{acted}
use Rattle.rules.specs.Run.{run}
use Rattle.rules.specs.Samples.{receive_positive, receive_negative, line_wrong, occurs}
use Rattle.rules.specs.State.{sender}
use Rattle.rules.specs.Tick.{hears}
use Rattle.rules.specs.Valid.{valid}
use Rattle.rules.specs.declared.Handler.{Handler}
use Rattle.rules.specs.declared.Input.{Input}
use Rattle.seen.specs.Wires.{sent_positive, sent_negative, line_on, sent_before, line_before, first_before, lone_before, pulse_in, receiver_at, seen_in, Sound}

-- ── what is sent on line e ──

pub record Sends (h : Handler) (xs : List Input) (e : ℕ) : Type 0 where
  -- the wires of the pair differ
  pub differs : (i : ℕ) → i < length xs → sent_negative h xs e i ≡ not (sent_positive h xs e i)
  -- "A line on holds the pair, a lone tick lengthened to two; a ping is a one-tick pulse", and nothing else is sent
  pub pair : (i : ℕ) → i < length xs → sent_positive h xs e i ≡ ((line_on h xs e i || first_before h xs e i) || pulse_in h xs e i)

-- ── what a new receiver sees of it ──

-- the receive pair of line e in the input x is what the receiver r answers
pub record ComesBack (x : Input) (e : ℕ) (r : EscalationReceiver) : Type 0 where
  pub positive : receive_positive x.sample.receive e ≡ responds_positive r
  pub negative : receive_negative x.sample.receive e ≡ responds_negative r

pub record Sees (h : Handler) (xs : List Input) (e : ℕ) (ps qs : ℕ → Bool) : Type 0 where
  -- "exactly where its pair is on in this tick and the one before"
  pub exactly : (i : ℕ) → i < length xs → seen_in ps qs i ≡ (sent_positive h xs e i && sent_before h xs e i)
  -- a tick of the line is seen in that tick, or in the next if it is the first of the line's being on
  pub held : (i : ℕ) → i < length xs → line_on h xs e i ≡ true → line_before h xs e i ≡ true → seen_in ps qs i ≡ true
  pub first : (i : ℕ) → suc i < length xs → line_on h xs e i ≡ true → (seen_in ps qs i ≡ true) ⊎ (seen_in ps qs (suc i) ≡ true)
  -- nothing else is seen but the tick after a lone tick ..
  pub only : (i : ℕ) → i < length xs → seen_in ps qs i ≡ true → (line_on h xs e i ≡ true) ⊎ (lone_before h xs e i ≡ true)
  -- .. "so never in a lone ping"
  pub never : (i : ℕ) → i < length xs → line_on h xs e i ≡ false → line_before h xs e i ≡ false → seen_in ps qs i ≡ false
  -- the sender knows the receiver: it is in step with it before every tick and after the last
  pub in_step : (i : ℕ) → i ≤ length xs → receiver_at ps qs i ≡ record { sound = (sender (run h (take i xs)) e).sound; broken = false }
  -- and finds no fault with its answer, where that comes back as it was given
  pub no_fault :
      (i : ℕ) → i < length xs → ComesBack (get_or xs i no_input) e (receiver_at ps qs i)
      → line_wrong (acted (run h (take i xs)) (get_or xs i no_input).access) (get_or xs i no_input).sample e ≡ false

-- ── joined with demand 3: class k, locked with EN and LOCK, starts in tick s; c is the class as read in it, and line e is enabled for it ──

-- "every tick t of the mapped phase" is seen: in t, or in t + 1 if t is the phase's first tick and the list has t + 1. ps and qs count ticks from 0
abbrev pub SeenSoon : ℕ → List Input → Class → ℕ → ℕ → (ℕ → Bool) → (ℕ → Bool) → ℕ → Type 0
SeenSoon first xs c s e ps qs t =
    (seen_in ps qs (t - first) ≡ true)
    ⊎ ((t ≡ s + phase_start c (line_map c e)) × (IsTick first xs (suc t) → seen_in ps qs (suc t - first) ≡ true))

pub record Second (h : Handler) (xs : List Input) : Type 0 where
  pub sends : (e : ℕ) → e < line_count → Sends h xs e
  pub sees : (e : ℕ) (ps qs : ℕ → Bool) → e < line_count → Sound h xs e ps qs → Sees h xs e ps qs
  -- whatever software writes and all other wires show, the receive pairs too
  pub escalation :
      (first k s e : ℕ) (ps qs : ℕ → Bool) → e < line_count → Sound h xs e ps qs → IsTick first xs s
      → Starts (before first h xs s) (input_at first xs s) k → let c = class_read (before first h xs s) (input_at first xs s) k in
      line_enable c e ≡ true → (t : ℕ) → IsTick first xs t → OfPhase c s (line_map c e) t → SeenSoon first xs c s e ps qs t
  -- what is seen besides is another class's, or the tick after a lone tick of the line
  pub besides :
      (first k s e : ℕ) (ps qs : ℕ → Bool) → e < line_count → Sound h xs e ps qs → IsTick first xs s
      → Starts (before first h xs s) (input_at first xs s) k → let c = class_read (before first h xs s) (input_at first xs s) k in
      (t : ℕ) → s ≤ t → IsTick first xs t → ¬ ((line_enable c e ≡ true) × OfPhase c s (line_map c e) t) → seen_in ps qs (t - first) ≡ true
      → DrivenByOther (given_at first h xs t).handler k e ⊎ (lone_before h xs e (t - first) ≡ true)
  -- where every line's pair is sound and its receiver's answer comes back in tick i as it was given, local 3 does not occur in it
  pub no_local_3 :
      (ps qs : ℕ → ℕ → Bool) → ((e : ℕ) → e < line_count → Sound h xs e (ps e) (qs e)) → (i : ℕ) → i < length xs
      → ((e : ℕ) → e < line_count → ComesBack (get_or xs i no_input) e (receiver_at (ps e) (qs e) i))
      → occurs (acted (run h (take i xs)) (get_or xs i no_input).access) (hears (run h (take i xs)) (get_or xs i no_input)) 3 ≡ false

-- ── where it holds: every sender is as new. Refusal 7 asks nothing of senders, and from other accepted states it is false (proofs/SeenExamples) ──

pub record NewSenders (h : Handler) : Type 0 where
  pub accepted : valid h ≡ true
  pub senders : (e : ℕ) → e < line_count → sender h e ≡ new_sender

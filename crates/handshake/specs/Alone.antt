-- Requests (viii), "The whole handshake", and (ix), "Ping timer": in a list of ticks each alert's receiver goes by what the ping timer does with that
-- alert, that it asks for its ping or that this ping fails, and by its wires alone, whatever else comes. proofs/Alone.antt proves it of every list, from
-- every state that refusal 7 does not meet.
-- It speaks in the rules' own words: `run` and `ticks` are the states and outputs, `happens_in` and `answered_in` what each tick computes with, `given_in`,
-- `fails_in` and `closed_if` what the timer does with a receiver (laws), and `received` one receiver in one tick (link_rules).
-- Assumes nothing.
use Rattle.std.specs.Prelude.{ℕ, zero, suc, ◌*◌, ◌≤◌, ◌<◌, ◌≡◌, Bool, false, not, List, get_or, length, take}
use Rattle.escalation.specs.List.{no_input, no_tick}
use Rattle.laws.specs.Pinging
use Rattle.laws.specs.Pinging.{closed_if}
use Rattle.link_rules.specs.Receiver.{new_receiver, received}
use Rattle.link_rules.specs.declared.Given.{Given}
use Rattle.link_rules.specs.declared.Received.{Received}
use Rattle.link_rules.specs.declared.Receiver.{Receiver}
use Rattle.rules.specs.Run.{run, ticks}
use Rattle.rules.specs.Samples.{positive, negative}
use Rattle.rules.specs.State.{words, new_handler, receiver}
use Rattle.rules.specs.Tick.{happens_in, answered_in}
use Rattle.rules.specs.declared.Handler.{Handler}
use Rattle.rules.specs.declared.Input.{Input}
use Rattle.rules.specs.declared.Output.{Output}
use Rattle.rules.specs.declared.Wires.{Wires}

-- ── tick t, counted from 0: h is the state before the list's first tick, xs are its inputs ──

abbrev pub before : Handler → List Input → ℕ → Handler
before h xs t = run h (take t xs)

abbrev pub input_at : List Input → ℕ → Input
input_at xs t = get_or xs t no_input

abbrev pub output_at : Handler → List Input → ℕ → Output
output_at h xs t = (get_or (ticks h xs) t no_tick).output

-- what alert i's receiver is given in it: whether the timer asks for its ping, and its wires; its ping fails in it
abbrev pub given_in : Handler → List Input → ℕ → ℕ → Given
given_in h xs i t = Pinging.given_in (before h xs t) (input_at xs t) i

abbrev pub fails_in : Handler → List Input → ℕ → ℕ → Bool
fails_in h xs i t = Pinging.fails_in (before h xs t) (input_at xs t) i

-- alert i has an event in it; its open ping is answered in it
abbrev pub event_in : Handler → List Input → ℕ → ℕ → Bool
event_in h xs i t = happens_in (before h xs t) (input_at xs t) i

abbrev pub answer_in : Handler → List Input → ℕ → ℕ → Bool
answer_in h xs i t = answered_in (before h xs t) (input_at xs t) i

-- alert i's pair of w is (1,0) where b holds, else (0,1)
abbrev pub IsPair : Wires → ℕ → Bool → Type 0
IsPair w i b = (positive w i ≡ b) × (negative w i ≡ not b)

-- ── one receiver by itself, given gs 0, gs 1, .., and its ping failing in the ticks of which fs says so ──

-- before tick t, r before tick 0: a ping that fails closes
unfoldable pub receiver_at : Receiver → (ℕ → Given) → (ℕ → Bool) → ℕ → Receiver
receiver_at r gs fs zero = r
receiver_at r gs fs (suc t) = closed_if (fs t) (received (gs t) (receiver_at r gs fs t)).receiver

-- what it gives in tick t
abbrev pub received_at : Receiver → (ℕ → Given) → (ℕ → Bool) → ℕ → Received
received_at r gs fs t = received (gs t) (receiver_at r gs fs t)

-- ── an alert below N ──

-- what its receiver gives by itself in tick t
abbrev pub gives_alone : Handler → List Input → ℕ → ℕ → Received
gives_alone h xs i t = received_at (receiver h i) (given_in h xs i) (fails_in h xs i) t

pub record Alone (h : Handler) (xs : List Input) (i : ℕ) : Type 0 where
  -- its receiver before each tick, and after the last
  pub stood : (t : ℕ) → t ≤ length xs → receiver (before h xs t) i ≡ receiver_at (receiver h i) (given_in h xs i) (fails_in h xs i) t
  -- "Acknowledge and ping pairs become outputs"
  pub acknowledge : (t : ℕ) → t < length xs → IsPair (output_at h xs t).acknowledge i (gives_alone h xs i t).acknowledge
  pub ping : (t : ℕ) → t < length xs → IsPair (output_at h xs t).ping i (gives_alone h xs i t).ping
  -- events and answers
  pub event : (t : ℕ) → t < length xs → event_in h xs i t ≡ (gives_alone h xs i t).event
  pub answer : (t : ℕ) → t < length xs → answer_in h xs i t ≡ (gives_alone h xs i t).answer

-- ── an alert at N and above: its wires count for nothing, and it is never pinged ──

pub record Above (h : Handler) (xs : List Input) (i : ℕ) : Type 0 where
  pub stays : (t : ℕ) → t ≤ length xs → receiver (before h xs t) i ≡ receiver h i
  -- "(0,1) .. at N and above"
  pub acknowledge : (t : ℕ) → t < length xs → IsPair (output_at h xs t).acknowledge i false
  pub ping : (t : ℕ) → t < length xs → IsPair (output_at h xs t).ping i false
  pub no_event : (t : ℕ) → t < length xs → event_in h xs i t ≡ false
  pub no_answer : (t : ℕ) → t < length xs → answer_in h xs i t ≡ false

-- ── a new handler of n alerts ──

pub record New (n : ℕ) : Type 0 where
  -- every receiver is ready, with its ping pair at (0,1) and no ping open
  pub receivers : (i : ℕ) → i < words * 64 → receiver (new_handler n) i ≡ new_receiver

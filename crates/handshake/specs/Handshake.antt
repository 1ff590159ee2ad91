-- Requests (viii), "The whole handshake", and (ix), what the ping timer does with an alert, in the handler's own terms: one claim about every list of
-- ticks. proofs/Handshake.antt proves it from every state that refusal 7 does not meet.
-- Assumes nothing.
use Rattle.std.specs.Prelude.{ℕ, suc, ◌+◌, ◌*◌, ◌≤◌, ◌<◌, ◌≡◌, Bool, true, false, cond, not, ◌&&◌, ◌||◌, List, length}
use Rattle.laws.specs.Pinging
use Rattle.link_rules.specs.Pair.{rises, falls, equal}
use Rattle.rules.specs.Access.{value, acted}
use Rattle.rules.specs.Samples.{positive, negative, alert_enabled}
use Rattle.rules.specs.State.{words, receiver}
use Rattle.rules.specs.declared.Field.{Field}
use Rattle.rules.specs.declared.Handler.{Handler}
use Rattle.rules.specs.declared.Input.{Input}
use Rattle.rules.specs.declared.Register.TheVariants.{Alert}
use Rattle.handshake.specs.Alone.{before, input_at, output_at, event_in, answer_in, fails_in, Alone, Above}

-- ── alert i in tick t of the list ──

-- its wires are (1,0), (0,1), or equal; the timer asks for its ping, which opens then
abbrev pub rises_in : List Input → ℕ → ℕ → Bool
rises_in xs i t = rises (positive (input_at xs t).sample.alerts i) (negative (input_at xs t).sample.alerts i)

abbrev pub falls_in : List Input → ℕ → ℕ → Bool
falls_in xs i t = falls (positive (input_at xs t).sample.alerts i) (negative (input_at xs t).sample.alerts i)

abbrev pub equal_in : List Input → ℕ → ℕ → Bool
equal_in xs i t = equal (positive (input_at xs t).sample.alerts i) (negative (input_at xs t).sample.alerts i)

abbrev pub asks_in : Handler → List Input → ℕ → ℕ → Bool
asks_in h xs i t = Pinging.asks_in (before h xs t) (input_at xs t) i

-- a rise is taken: it is an event, or answers the open ping
abbrev pub taken_in : Handler → List Input → ℕ → ℕ → Bool
taken_in h xs i t = event_in h xs i t || answer_in h xs i t

-- a ping is open before it; one is open when its wires are read
abbrev pub open_before : Handler → List Input → ℕ → ℕ → Bool
open_before h xs i t = (receiver (before h xs t) i).pending

abbrev pub open_in : Handler → List Input → ℕ → ℕ → Bool
open_in h xs i t = asks_in h xs i t || open_before h xs i t

-- its acknowledge pair, and its ping pair, is (1,0)
abbrev pub acknowledges_in : Handler → List Input → ℕ → ℕ → Bool
acknowledges_in h xs i t = positive (output_at h xs t).acknowledge i

abbrev pub pings_in : Handler → List Input → ℕ → ℕ → Bool
pings_in h xs i t = positive (output_at h xs t).ping i

-- from tick a on and before tick b no rise is taken; no ping of it fails; none is asked for
abbrev pub NoneTaken : Handler → List Input → ℕ → ℕ → ℕ → Type 0
NoneTaken h xs i a b = (t : ℕ) → a ≤ t → t < b → taken_in h xs i t ≡ false

abbrev pub NoneFailed : Handler → List Input → ℕ → ℕ → ℕ → Type 0
NoneFailed h xs i a b = (t : ℕ) → a ≤ t → t < b → fails_in h xs i t ≡ false

abbrev pub NoneAsked : Handler → List Input → ℕ → ℕ → ℕ → Type 0
NoneAsked h xs i a b = (t : ℕ) → a ≤ t → t < b → asks_in h xs i t ≡ false

-- ── one alert below N ──

pub record OneAlert (h : Handler) (xs : List Input) (i : ℕ) : Type 0 where
  -- the wires of a pair differ
  pub pairs :
      (t : ℕ) → t < length xs
      → (negative (output_at h xs t).acknowledge i ≡ not (acknowledges_in h xs i t)) × (negative (output_at h xs t).ping i ≡ not (pings_in h xs i t))
  -- what is taken is a rise
  pub rise : (t : ℕ) → t < length xs → taken_in h xs i t ≡ true → rises_in xs i t ≡ true
  -- "alert raised, acknowledged in the next tick, alert dropped, acknowledgement dropped in the next", and not before
  pub acknowledged : (t : ℕ) → suc t < length xs → taken_in h xs i t ≡ true → acknowledges_in h xs i (suc t) ≡ true
  pub held : (t : ℕ) → suc t < length xs → acknowledges_in h xs i t ≡ true → falls_in xs i t ≡ false → acknowledges_in h xs i (suc t) ≡ true
  pub dropped : (t : ℕ) → suc t < length xs → acknowledges_in h xs i t ≡ true → falls_in xs i t ≡ true → acknowledges_in h xs i (suc t) ≡ false
  pub unraised : (t : ℕ) → suc t < length xs → acknowledges_in h xs i t ≡ false → taken_in h xs i t ≡ false → acknowledges_in h xs i (suc t) ≡ false
  -- "two ticks of pause, in which a rise waits": rises are taken at least four ticks apart
  pub apart : (t u : ℕ) → u < length xs → taken_in h xs i t ≡ true → taken_in h xs i u ≡ true → t < u → t + 4 ≤ u
  -- a rise, (0,1) in tick t and (1,0) from the next tick until it is taken, is taken in that tick or one of the next two
  pub soon :
      (t : ℕ) → t + 3 < length xs → falls_in xs i t ≡ true → ((u : ℕ) → t < u → u ≤ t + 3 → NoneTaken h xs i (suc t) u → rises_in xs i u ≡ true)
      → (taken_in h xs i (suc t) || (taken_in h xs i (suc (suc t)) || taken_in h xs i (suc (suc (suc t))))) ≡ true
  -- "Equal wires .. hold the receiver where it is": they are no rise, no drop and no tick of the pause
  pub holds :
      (t : ℕ) → t < length xs → equal_in xs i t ≡ true
      → (taken_in h xs i t ≡ false) × ((receiver (before h xs (suc t)) i).stands ≡ (receiver (before h xs t) i).stands)
  -- "A ping opens as an asked one did": "Asking changes the ping pair's level", and nothing else does
  pub level : (t : ℕ) → suc t < length xs → pings_in h xs i (suc t) ≡ cond (asks_in h xs i (suc t)) (not (pings_in h xs i t)) (pings_in h xs i t)
  -- it opens where none of it is open, and only of an alert that step 1 leaves "locked and enabled"
  pub opened : (t : ℕ) → t < length xs → asks_in h xs i t ≡ true → open_before h xs i t ≡ false
  pub pingable :
      (t : ℕ) → t < length xs → asks_in h xs i t ≡ true
      → (value (acted (before h xs t) (input_at xs t).access) (Alert Field.Regwen i) ≡ 0)
      × (value (acted (before h xs t) (input_at xs t).access) (Alert Field.En i) ≡ 1)
  -- "A rise taken while a ping is open answers .. it and is no event; any other is one event, in the tick it is taken"
  pub answer : (t : ℕ) → t < length xs → taken_in h xs i t ≡ true → open_in h xs i t ≡ true → (answer_in h xs i t ≡ true) × (event_in h xs i t ≡ false)
  pub event : (t : ℕ) → t < length xs → taken_in h xs i t ≡ true → open_in h xs i t ≡ false → (event_in h xs i t ≡ true) × (answer_in h xs i t ≡ false)
  -- what fails is an open ping, "unanswered up to and in" that tick
  pub failed : (t : ℕ) → t < length xs → fails_in h xs i t ≡ true → (open_in h xs i t ≡ true) × (taken_in h xs i t ≡ false)
  -- an open ping is open up to and in the tick in which the next rise is taken or it fails, whatever else comes ..
  pub stays :
      (t u : ℕ) → u < length xs → open_in h xs i t ≡ true → t ≤ u → NoneTaken h xs i t u → NoneFailed h xs i t u → open_in h xs i u ≡ true
  -- .. "and closes it": after that none is open until one is asked for
  pub closed :
      (t u : ℕ) → u < length xs → (taken_in h xs i t || fails_in h xs i t) ≡ true → t < u → NoneAsked h xs i (suc t) (suc u) → open_in h xs i u ≡ false
  -- an event sets the alert's CAUSE where step 1 leaves it enabled; without one, in an answer too, and where it is disabled, CAUSE is what step 1 leaves
  pub cause :
      (t : ℕ) → t < length xs → event_in h xs i t ≡ true → alert_enabled (acted (before h xs t) (input_at xs t).access) i ≡ true
      → value (before h xs (suc t)) (Alert Field.Cause i) ≡ 1
  pub no_cause :
      (t : ℕ) → t < length xs → (event_in h xs i t && alert_enabled (acted (before h xs t) (input_at xs t).access) i) ≡ false
      → value (before h xs (suc t)) (Alert Field.Cause i) ≡ value (acted (before h xs t) (input_at xs t).access) (Alert Field.Cause i)

-- ── requests (viii) and (ix), of the list of ticks with inputs xs from the state h ──

pub record Handshake (h : Handler) (xs : List Input) : Type 0 where
  -- each alert's receiver goes by its own pings and wires
  pub alone : (i : ℕ) → i < h.n → Alone h xs i
  pub above : (i : ℕ) → h.n ≤ i → i < words * 64 → Above h xs i
  -- and what comes of that
  pub alerts : (i : ℕ) → i < h.n → OneAlert h xs i

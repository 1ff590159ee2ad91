-- Request (ix), "Ping timer", over lists of ticks: when a ping opens, when it fails, and which local alert occurs then. proofs/Pings.antt proves it of every
-- list, from every state that refusal 7 does not meet. What answers a line's ping and what closes it is said in LinePings.
-- Assumes nothing.
use Rattle.std.specs.Prelude.{ℕ, suc, ◌+◌, ◌/◌, ◌%◌, ◌≤◌, ◌<◌, ◌≡◌, Bool, true, false, cond, ◌&&◌, ◌||◌, List, eqb, length}
use Rattle.bits.specs.Bits.{bit}
use Rattle.laws.specs.Pinging.{meets_in}
use Rattle.link_rules.specs.Timer.{is_line, line_of, opens, fails, ends}
use Rattle.link_rules.specs.declared.Meets.{Meets}
use Rattle.link_rules.specs.declared.Turn.{Turn}
use Rattle.rules.specs.Access.{value, acted}
use Rattle.rules.specs.Samples.{occurs}
use Rattle.rules.specs.State.{is_on}
use Rattle.rules.specs.Tick.{hears}
use Rattle.rules.specs.declared.Field.{Field}
use Rattle.rules.specs.declared.Handler.{Handler}
use Rattle.rules.specs.declared.Input.{Input}
use Rattle.rules.specs.declared.Register.TheVariants.{Only, Local, Alert}
use Rattle.rules.specs.declared.Single.TheVariants.{PingRegwen, PingTimeout}
use Rattle.handshake.specs.Alone.{before, input_at, answer_in, fails_in}
use Rattle.handshake.specs.Handshake.{asks_in}

-- ── tick t of the list: the state after its step 1, what the timer meets in it, and the turn before it ──

abbrev pub read_at : Handler → List Input → ℕ → Handler
read_at h xs t = acted (before h xs t) (input_at xs t).access

abbrev pub meets_at : Handler → List Input → ℕ → Meets
meets_at h xs t = meets_in (before h xs t) (input_at xs t)

abbrev pub turn_at : Handler → List Input → ℕ → Turn
turn_at h xs t = (before h xs t).links.turn

-- it is line e's turn
abbrev pub lines_turn : Handler → List Input → ℕ → ℕ → Bool
lines_turn h xs e t = is_line (turn_at h xs t) && eqb e (line_of (turn_at h xs t))

-- the ping of line e opens in it, fails in it, is answered in it; request (xi): an escalation closes it
abbrev pub line_opens : Handler → List Input → ℕ → ℕ → Bool
line_opens h xs e t = opens (meets_at h xs t) (turn_at h xs t) && lines_turn h xs e t

abbrev pub line_fails : Handler → List Input → ℕ → ℕ → Bool
line_fails h xs e t = fails (meets_at h xs t) (turn_at h xs t) && lines_turn h xs e t

abbrev pub line_answered : Handler → List Input → ℕ → ℕ → Bool
line_answered h xs e t = (meets_at h xs t).answered && lines_turn h xs e t

abbrev pub line_closes : Handler → List Input → ℕ → ℕ → Bool
line_closes h xs e t = (meets_at h xs t).closed && lines_turn h xs e t

-- line e's ping is open before it, and while its answer is read
abbrev pub line_open_before : Handler → List Input → ℕ → ℕ → Bool
line_open_before h xs e t = bit (before h xs t).links.lines e

abbrev pub line_open_in : Handler → List Input → ℕ → ℕ → Bool
line_open_in h xs e t = line_opens h xs e t || line_open_before h xs e t

-- "When 6 becomes 1 or a turn ends, that tick's word sets the next turn"
abbrev pub sets : Handler → List Input → ℕ → Bool
sets h xs t = (meets_at h xs t).begins || ((meets_at h xs t).runs && ends (meets_at h xs t) (turn_at h xs t))

-- local alert j occurs in it
abbrev pub occurs_in : Handler → List Input → ℕ → ℕ → Bool
occurs_in h xs j t = occurs (read_at h xs t) (hears (before h xs t) (input_at xs t)) j

-- from tick a to tick b, both counted, the timeout after step 1 is this
abbrev pub Timeout : Handler → List Input → ℕ → ℕ → ℕ → Type 0
Timeout h xs a b limit = (t : ℕ) → a ≤ t → t ≤ b → value (read_at h xs t) (Only PingTimeout) ≡ limit

-- from tick a on and before tick b it holds in none
abbrev pub None : (ℕ → Bool) → ℕ → ℕ → Type 0
None f a b = (t : ℕ) → a ≤ t → t < b → f t ≡ false

-- ── one line's ping ──

pub record OneLine (h : Handler) (xs : List Input) (e : ℕ) : Type 0 where
  -- it opens where it is not open
  pub opened : (t : ℕ) → t < length xs → line_opens h xs e t ≡ true → line_open_before h xs e t ≡ false
  -- what fails is open, "unanswered up to and in" that tick
  pub failed : (t : ℕ) → t < length xs → line_fails h xs e t ≡ true → (line_open_in h xs e t ≡ true) × (line_answered h xs e t ≡ false)
  -- an open one is open up to and in the tick in which it is answered, fails or is closed by an escalation, whatever else comes ..
  pub stays :
      (t u : ℕ) → u < length xs → line_open_in h xs e t ≡ true → t ≤ u → None (line_answered h xs e) t u → None (line_fails h xs e) t u → None (line_closes h xs e) t u
      → line_open_in h xs e u ≡ true
  -- .. "and closes": after that it is not open until it opens again
  pub closed :
      (t u : ℕ) → u < length xs → (line_answered h xs e t || (line_fails h xs e t || line_closes h xs e t)) ≡ true → t < u
      → None (line_opens h xs e) (suc t) (suc u) → line_open_in h xs e u ≡ false

-- ── request (ix), of the list of ticks with inputs xs from the state h ──

pub record Pings (h : Handler) (xs : List Input) : Type 0 where
  -- once 6 is 1 it stays 1
  pub on_stays : (t u : ℕ) → t ≤ u → u ≤ length xs → is_on (before h xs t) ≡ true → is_on (before h xs u) ≡ true
  -- "the timer alternates alert and escalation pings, alert first, lines 0 to 3 in turn": where a tick sets a turn its number goes up by 1, and else it stays
  pub number :
      (t : ℕ) → t < length xs
      → (turn_at h xs (suc t)).number ≡ cond (meets_at h xs t).begins 0 (cond (sets h xs t) (((turn_at h xs t).number + 1) % 8) (turn_at h xs t).number)
  -- "its low 16 bits plus 1 are the ticks to the ping, its next 8 bits the alert": an alert that is locked and enabled in the tick whose word draws it is
  -- pinged then and not before, whatever software writes ..
  pub pinged :
      (i s : ℕ) → i < h.n → sets h xs s ≡ true → is_line (turn_at h xs (suc s)) ≡ false → (input_at xs s).sample.word / 65536 % 256 ≡ i
      → value (read_at h xs s) (Alert Field.Regwen i) ≡ 0 → value (read_at h xs s) (Alert Field.En i) ≡ 1
      → (k : ℕ) → k ≤ (input_at xs s).sample.word % 65536 → suc s + k < length xs → asks_in h xs i (suc s + k) ≡ eqb k ((input_at xs s).sample.word % 65536)
  -- .. and so is the turn's line
  pub line_pinged :
      (s : ℕ) → sets h xs s ≡ true → is_line (turn_at h xs (suc s)) ≡ true → (k : ℕ) → k ≤ (input_at xs s).sample.word % 65536 → suc s + k < length xs
      → line_opens h xs (line_of (turn_at h xs (suc s))) (suc s + k) ≡ eqb k ((input_at xs s).sample.word % 65536)
  -- "unanswered up to and in the first tick at least the timeout after it, it makes local 0 or 1 occur then and closes": a ping of alert i opened in tick p,
  -- unanswered for k ticks at one timeout, fails in the last of them exactly if k is the timeout ..
  pub alert_fails :
      (i p limit k : ℕ) → i < h.n → 0 < limit → k ≤ limit → p + k < length xs → asks_in h xs i p ≡ true → Timeout h xs p (p + k) limit
      → ((t : ℕ) → p ≤ t → t ≤ p + k → answer_in h xs i t ≡ false) → fails_in h xs i (p + k) ≡ eqb k limit
  -- .. and so does one of line e that no escalation closes before
  pub line_fails_law :
      (e p limit k : ℕ) → 0 < limit → k ≤ limit → p + k < length xs → line_opens h xs e p ≡ true → Timeout h xs p (p + k) limit
      → ((t : ℕ) → p ≤ t → t ≤ p + k → line_answered h xs e t ≡ false) → ((t : ℕ) → p ≤ t → t < p + k → line_closes h xs e t ≡ false) → line_fails h xs e (p + k) ≡ eqb k limit
  -- "at timeout 0 it waits for its answer"
  pub none_fails_at_0 :
      (t : ℕ) → value (read_at h xs t) (Only PingTimeout) ≡ 0 → ((i : ℕ) → fails_in h xs i t ≡ false) × ((e : ℕ) → line_fails h xs e t ≡ false)
  -- local 0 occurs in exactly the ticks in which an alert's ping fails, the turn's, and it is enabled; local 1 in those of a line's
  pub local_0 :
      (t : ℕ) → t < length xs
      → occurs_in h xs 0 t ≡ (fails_in h xs (turn_at h xs t).alert t && eqb (value (read_at h xs t) (Local Field.En 0)) 1)
  pub local_1 :
      (t : ℕ) → t < length xs
      → occurs_in h xs 1 t ≡ (line_fails h xs (line_of (turn_at h xs t)) t && eqb (value (read_at h xs t) (Local Field.En 1)) 1)
  -- the turn's count has the 16 bits of its type in every tick if it has them before the first
  pub counts_fit : h.links.turn.count < 65536 → (t : ℕ) → t ≤ length xs → (turn_at h xs t).count < 65536
  -- once 6 is 1, 4 is 0 and 5 holds a timeout over 0, the turn ends within 65,536 ticks and the timeout, whatever software writes and the wires show
  pub turn_ends :
      (a limit : ℕ) → is_on (before h xs a) ≡ true → value (before h xs a) (Only PingRegwen) ≡ 0 → value (before h xs a) (Only PingTimeout) ≡ limit
      → 0 < limit → (turn_at h xs a).count < 65536 → a + (65536 + limit) ≤ length xs
      → (u : ℕ) × (a ≤ u) × (u < a + (65536 + limit)) × (sets h xs u ≡ true)
  -- each line's ping
  pub lines : (e : ℕ) → e < 4 → OneLine h xs e

-- Request (xi), "Escalation wires", over lists of ticks: when a line's ping is answered, what closes it, and when local 3 occurs. proofs/LinePings.antt
-- proves it of every list, from every state that refusal 7 does not meet.
-- Assumes nothing.
use Rattle.std.specs.Prelude.{ℕ, suc, ◌+◌, ◌≤◌, ◌<◌, ◌≡◌, Bool, true, false, not, ◌&&◌, ◌||◌, List, eqb, length}
use Rattle.bits.specs.Bits.{bit}
use Rattle.bits.specs.Index.{any_to, all_to}
use Rattle.link_rules.specs.Codes.{last_bit}
use Rattle.link_rules.specs.Sender.{new_sender}
use Rattle.link_rules.specs.Senders.{line_count}
use Rattle.link_rules.specs.Timer.{open_now}
use Rattle.rules.specs.Access.{value}
use Rattle.rules.specs.Samples.{checks, says_answered, line_wrong}
use Rattle.rules.specs.State.{sender}
use Rattle.rules.specs.declared.Field.{Field}
use Rattle.rules.specs.declared.Handler.{Handler}
use Rattle.rules.specs.declared.Input.{Input}
use Rattle.rules.specs.declared.Register.TheVariants.{Local}
use Rattle.handshake.specs.Alone.{before, input_at, output_at}
use Rattle.handshake.specs.Pings.{read_at, meets_at, turn_at, lines_turn, line_opens, line_fails, line_answered, line_closes, sets, occurs_in}

-- ── tick t of the list ──

-- its record has receive pairs, and the senders are checked; "older editions run as in (ix), senders unchecked"
abbrev pub checked_at : List Input → ℕ → Bool
checked_at xs t = checks (input_at xs t).sample.receive

-- the receive pair of line e is wrong in it
abbrev pub wrong_at : Handler → List Input → ℕ → ℕ → Bool
wrong_at h xs e t = line_wrong (read_at h xs t) (input_at xs t).sample e

-- the ping of line e is open in it, up to its answer
abbrev pub line_open : Handler → List Input → ℕ → ℕ → Bool
line_open h xs e t = open_now (meets_at h xs t) (turn_at h xs t) && lines_turn h xs e t

-- line e is on in it, by step 5; its pair was on in the tick before
abbrev pub line_on : Handler → List Input → ℕ → ℕ → Bool
line_on h xs e t = bit (output_at h xs t).lines e

abbrev pub pair_was : Handler → List Input → ℕ → ℕ → Bool
pair_was h xs e t = last_bit (sender (before h xs t) e).sound.stands

-- the right answer of line e in it, "what a sound receiver .. sends"
abbrev pub right_answer : Handler → List Input → ℕ → ℕ → Bool
right_answer h xs e t = (sender (before h xs t) e).sound.answer

-- in the n ticks after tick p no receive pair of line e is wrong
abbrev pub all_right : Handler → List Input → ℕ → ℕ → ℕ → Bool
all_right h xs e p n = all_to (λ j. not (wrong_at h xs e (p + suc j))) n

-- a ping of line e opens in tick p and is sent, and the line stays off while it is answered
pub record Pulse (h : Handler) (xs : List Input) (e p : ℕ) : Type 0 where
  pub opens : line_opens h xs e p ≡ true
  pub off_before : pair_was h xs e p ≡ false
  pub off : (t : ℕ) → p ≤ t → t < p + 4 → line_on h xs e t ≡ false

-- the right answers of the four ticks after it are 1, 0, 1, 0
pub record Pattern (h : Handler) (xs : List Input) (e p : ℕ) : Type 0 where
  pub one : right_answer h xs e (p + 1) ≡ true
  pub two : right_answer h xs e (p + 2) ≡ false
  pub three : right_answer h xs e (p + 3) ≡ true
  pub four : right_answer h xs e (p + 4) ≡ false

-- ── request (xi), of the list of ticks with inputs xs from the state h ──

pub record LinePings (h : Handler) (xs : List Input) : Type 0 where
  -- "Equal wires, or a wrong or missing answer, make local 3 occur", of any line, if it is enabled, and nothing else does
  pub local_3 :
      (t : ℕ) → t < length xs
      → occurs_in h xs 3 t ≡ (any_to (λ e. wrong_at h xs e t) line_count && eqb (value (read_at h xs t) (Local Field.En 3)) 1)
  -- "a ping is a one-tick pulse, answered from the next tick with the 1010 pattern": a ping of line e that opens in tick p is, while its turn lasts, answered
  -- in the fourth tick after it if its receive pair is right in all four, and in no other tick
  pub answered :
      (e p k : ℕ) → p + k < length xs → line_opens h xs e p ≡ true → ((t : ℕ) → p ≤ t → t ≤ p + k → checked_at xs t ≡ true)
      → ((t : ℕ) → p ≤ t → t < p + k → sets h xs t ≡ false) → line_answered h xs e (p + k) ≡ (eqb k 4 && all_right h xs e p 4)
  -- in an older record an open ping is answered as the record says, and no escalation closes it
  pub said :
      (e t : ℕ) → t < length xs → checked_at xs t ≡ false
      → (line_answered h xs e t ≡ (line_open h xs e t && says_answered (input_at xs t).sample.receive e)) × (line_closes h xs e t ≡ false)
  -- "A real escalation wins over a ping and closes it ..; a ping due right after one on the wire closes unsent"
  pub closes :
      (e t : ℕ) → t < length xs
      → line_closes h xs e t
      ≡ (checked_at xs t && (line_open h xs e t && (line_on h xs e t || (line_opens h xs e t && pair_was h xs e t))))
  -- an answer, a failure or an escalation ends the turn of an open ping, and nothing else does
  pub ends :
      (e t : ℕ) → t < length xs → line_open h xs e t ≡ true
      → sets h xs t ≡ (line_answered h xs e t || (line_fails h xs e t || line_closes h xs e t))
  -- "lines 0 to 3 in turn": two pings of one line open at least eight ticks apart
  pub apart : (e p q : ℕ) → q < length xs → line_opens h xs e p ≡ true → line_opens h xs e q ≡ true → p < q → p + 8 ≤ q
  -- "answered .. with the 1010 pattern", where its sender starts as new
  pub pattern : (e p : ℕ) → e < line_count → p + 4 < length xs → sender h e ≡ new_sender → Pulse h xs e p → Pattern h xs e p

-- Request (ix), the ping timer: one tick of its turn. The state tells it what is open; what it says opens and closes there.
-- Assumes nothing.
use Rattle.std.specs.Prelude.{ℕ, ◌+◌, ◌-◌, ◌/◌, ◌%◌, Bool, cond, not, ◌&&◌, ◌||◌, eqb, ltb, leb}
use Rattle.link_rules.specs.declared.Meets.{Meets}
use Rattle.link_rules.specs.declared.Turn.{Turn}

-- ── turns ──

-- "the timer alternates alert and escalation pings, alert first, lines 0 to 3 in turn"
abbrev pub is_line : Turn → Bool
is_line t = eqb (t.number % 2) 1

abbrev pub line_of : Turn → ℕ
line_of t = t.number / 2 % 4

-- "When 6 becomes 1 or a turn ends, that tick's word sets the next turn: its low 16 bits plus 1 are the ticks to the ping, its next 8 bits the alert"
abbrev pub drawn : ℕ → ℕ → Turn
drawn number word = record { number = number; alert = word / 65536 % 256; count = word % 65536 }

abbrev pub first_turn : ℕ → Turn
first_turn word = drawn 0 word

abbrev pub next_turn : Turn → ℕ → Turn
next_turn t word = drawn ((t.number + 1) % 8) word

-- ── one tick, in its order ──

-- after step 1, before the wires: the ping is due
abbrev pub is_due : Meets → Turn → Bool
is_due m t = m.runs && (not m.pending && eqb t.count 0)

-- "If the drawn alert isn't locked and enabled when the ping is due, none opens and the turn ends"; "A ping opens as an asked one did"
unfoldable pub opens : Meets → Turn → Bool
opens m t = is_due m t && (is_line t || m.pingable)

-- in this tick the turn's ping is open, up to its answer
unfoldable pub open_now : Meets → Turn → Bool
open_now m t = m.runs && (m.pending || opens m t)

-- the ticks since it opened, at most 65,535, which no timeout is above
abbrev pub age : Meets → Turn → ℕ
age m t = cond m.pending (cond (ltb t.count 65535) (t.count + 1) 65535) 0

-- "unanswered up to and in the first tick at least the timeout after it, it makes local 0 or 1 occur then and closes; at timeout 0 it waits for its answer"
unfoldable pub fails : Meets → Turn → Bool
fails m t = open_now m t && (not m.answered && (ltb 0 m.timeout && leb m.timeout (age m t)))

-- local 0 is raised by an alert's ping, local 1 by a line's
abbrev pub fails_alert : Meets → Turn → Bool
fails_alert m t = fails m t && not (is_line t)

abbrev pub fails_line : Meets → Turn → Bool
fails_line m t = fails m t && is_line t

-- the turn ends in this tick: none opens, or its ping is answered or fails, or, request (xi), an escalation closes it
unfoldable pub ends : Meets → Turn → Bool
ends m t = (is_due m t && not (opens m t)) || (open_now m t && (m.answered || (fails m t || m.closed)))

-- the turn's ping is open after the tick
abbrev pub open_after : Meets → Turn → Bool
open_after m t = open_now m t && not (ends m t)

-- a turn that goes on: its ping grows older, or is a tick nearer
abbrev pub goes_on : Meets → Turn → Turn
goes_on m t = record { number = t.number; alert = t.alert; count = cond (open_now m t) (age m t) (t.count - 1) }

-- the turn after the tick
unfoldable pub turned : Meets → Turn → Turn
turned m t = cond m.begins (first_turn m.word) (cond (not m.runs) t (cond (ends m t) (next_turn t m.word) (goes_on m t)))

-- ── refusal 7: "an open ping that isn't the turn's" ──

-- the ping of alert i may be open, the ping of line e may be open
abbrev pub owns_alert : Bool → Turn → ℕ → Bool
owns_alert runs t i = runs && (not (is_line t) && eqb i t.alert)

abbrev pub owns_line : Bool → Turn → ℕ → Bool
owns_line runs t e = runs && (is_line t && eqb e (line_of t))

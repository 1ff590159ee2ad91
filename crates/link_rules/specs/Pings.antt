-- Requests (viii), (ix) and (xi): the open pings of a handler of n alerts and four lines, whatever holds them: `alerts i` says that the ping of alert
-- i is open, `lines e` that of line e. What the timer is told of them, what a tick leaves of them, and refusal 7's rule.
-- Assumes nothing.
use Rattle.std.specs.Prelude.{ℕ, ◌<◌, ◌≡◌, Bool, true, false, cond, not, ◌&&◌, ◌||◌, eqb, ltb}
use Rattle.link_rules.specs.Timer.{is_line, line_of, opens, open_now, open_after, fails_alert, turned, owns_alert, owns_line}
use Rattle.link_rules.specs.declared.Meets.{Meets}
use Rattle.link_rules.specs.declared.Turn.{Turn}

-- the turn's ping is open; stored entries at N and above are no alert's
abbrev pub pending : ℕ → Turn → (ℕ → Bool) → (ℕ → Bool) → Bool
pending n t alerts lines = cond (is_line t) (lines (line_of t)) (ltb t.alert n && alerts t.alert)

-- the timer asks the receiver of alert i for a ping
abbrev pub asks : Meets → Turn → ℕ → Bool
asks m t i = opens m t && (not (is_line t) && eqb i t.alert)

-- the ping of alert i, open before the tick or not, is open after it: asked for, not answered by a rise that is taken, not failed
abbrev pub alert_after : Meets → Turn → Bool → Bool → ℕ → Bool
alert_after m t was taken i = ((was || asks m t i) && not taken) && not (fails_alert m t && eqb i t.alert)

-- the ping of line e
abbrev pub line_after : Meets → Turn → Bool → ℕ → Bool
line_after m t was e = cond (is_line t && eqb e (line_of t)) (open_after m t) was

-- ── refusal 7: "an open ping that isn't the turn's" ──

pub record Owned (n : ℕ) (runs : Bool) (t : Turn) (alerts lines : ℕ → Bool) : Type 0 where
  pub alert : (i : ℕ) → i < n → alerts i ≡ true → owns_alert runs t i ≡ true
  pub line : (e : ℕ) → e < 4 → lines e ≡ true → owns_line runs t e ≡ true

-- what a tick hands to the timer
pub record Handed (n : ℕ) (m : Meets) (t : Turn) (alerts lines taken : ℕ → Bool) : Type 0 where
  pub is_pending : m.pending ≡ pending n t alerts lines
  pub is_start : m.begins ≡ true → m.runs ≡ false
  -- an alert's ping is answered by a rise that is taken, and no line closes it
  pub is_answer : is_line t ≡ false → m.answered ≡ taken t.alert && open_now m t
  pub is_closed : m.closed ≡ true → is_line t ≡ true
  -- an alert that can be pinged is one
  pub is_alert : m.pingable ≡ true → t.alert < n

-- "States that calls produce never get it": a tick keeps the rule
pub record KeepsOwned (n : ℕ) (m : Meets) (t : Turn) (alerts lines taken : ℕ → Bool) : Type 0 where
  pub keeps :
      Owned n m.runs t alerts lines → Handed n m t alerts lines taken
      → Owned n (m.runs || m.begins) (turned m t) (λ i. alert_after m t (alerts i) (taken i) i) (λ e. line_after m t (lines e) e)

-- what the timer says is open is what the state holds: after a tick the next turn's ping is open exactly if the tick left the turn's ping open
pub record KeepsPending (n : ℕ) (m : Meets) (t : Turn) (alerts lines taken : ℕ → Bool) : Type 0 where
  pub keeps :
      Owned n m.runs t alerts lines → Handed n m t alerts lines taken
      → pending n (turned m t) (λ i. alert_after m t (alerts i) (taken i) i) (λ e. line_after m t (lines e) e) ≡ open_after m t

-- What a tick leaves of the links, in sentences: the alerts' receivers, the ping timer's turn and the lines' senders. They are written last, since request (xi)
-- sends the lines of step 5 on the wires and closes pings by them: no step reads what they become.
-- The state is g after step 1, m after step 4 and h after the tick, s is the tick's sample, f is what step 1 hands on, and lit are the lines of step 5.
-- Assumes nothing.
use Rattle.std.specs.Prelude.{ℕ, ◌≤◌, ◌≡◌, ◌↔◌}
use Rattle.rules.specs.declared.Effects.{Effects}
use Rattle.rules.specs.declared.Handler.{Handler}
use Rattle.rules.specs.declared.Sample.{Sample}
use Rattle.sentences.specs.LinePings.{RightNow}
use Rattle.sentences.specs.Receivers.{Received}
use Rattle.sentences.specs.Senders.{Sent}
use Rattle.sentences.specs.Timer.{Timed}
use Rattle.sentences.specs.Valid.{Valid}

pub record Linked (g : Handler) (s : Sample) (f : Effects) (lit : ℕ) (m h : Handler) : Type 0 where
  -- request (viii): "Replace the edge receiver by the synchronous one"
  pub receivers : Received g s f h
  -- request (ix): the turn and the lines' pings
  pub timer_turn : Timed g s f lit h
  -- request (xi): "Turn each line into the differential sender"
  pub senders : Sent g f lit h
  -- the answers to the open ping were right
  pub right : (h.links.right ≡ 1) ↔ RightNow g f s.receive
  pub right_bit : h.links.right ≤ 1
  -- a reading: N, the stages and every register stay
  pub n : h.n ≡ m.n
  pub classes : h.classes ≡ m.classes
  pub alerts : h.alerts ≡ m.alerts
  pub locals : h.locals ≡ m.locals
  pub interrupts : h.interrupts ≡ m.interrupts
  pub timer : h.timer ≡ m.timer
  pub stages : h.stages ≡ m.stages

-- of every state that refusal 7 does not meet
abbrev pub LinkStep : (Handler → Sample → Effects → ℕ → Handler → Handler) → Type 0
LinkStep link = (g : Handler) (s : Sample) (f : Effects) (lit : ℕ) (m : Handler) → Valid g → Linked g s f lit m (link g s f lit m)

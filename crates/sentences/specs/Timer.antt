-- Requests (ix) and (xi): the ping timer's turn and the lines' pings after a tick, in sentences: raw fields and plain comparisons, and no definition of the
-- rules. The state is g after step 1 and h after the tick, s is the tick's sample, f is what step 1 hands on, and lit are the lines of step 5.
-- Assumes nothing.
use Rattle.std.specs.Prelude.{ℕ, ◌+◌, ◌/◌, ◌%◌, ◌≤◌, ◌<◌, ◌≡◌, ◌↔◌, ◌⊎◌, true, false}
use Rattle.rules.specs.declared.Effects.{Effects}
use Rattle.rules.specs.declared.Handler.{Handler}
use Rattle.rules.specs.declared.Sample.{Sample}
use Rattle.sentences.specs.LinePings.{Escalated}
use Rattle.sentences.specs.Raw.{line_pending}
use Rattle.sentences.specs.Receivers.{TurnAnswered, Fails}
use Rattle.sentences.specs.Turns.{LinesTurn, turn_line, Runs, TurnOpen, Due, Opens, OpenNow}

-- "none opens and the turn ends"; a turn ends too when its ping is answered or fails; request (xi): or an escalation closes it
abbrev pub Ends : Handler → Sample → Effects → ℕ → Type 0
Ends g s f lit = (Due g f × ¬ Opens g f) ⊎ (OpenNow g f × (TurnAnswered g s f ⊎ (Fails g s f ⊎ Escalated g f s.receive lit)))

-- "that tick's word sets the next turn: its low 16 bits plus 1 are the ticks to the ping, its next 8 bits the alert"
pub record Drawn (s : Sample) (h : Handler) : Type 0 where
  pub count : h.links.turn.count ≡ s.word % 65536
  pub alert : h.links.turn.alert ≡ s.word / 65536 % 256

-- the turn goes on
pub record GoesOn (g : Handler) (f : Effects) (h : Handler) : Type 0 where
  pub number : h.links.turn.number ≡ g.links.turn.number
  pub alert : h.links.turn.alert ≡ g.links.turn.alert
  -- a tick nearer to its ping
  pub nearer : ¬ OpenNow g f → h.links.turn.count + 1 ≡ g.links.turn.count
  -- the ticks since it opened: 0 in its own, then one more in each, staying at 65,535, which no timeout is above
  pub opened : Opens g f → h.links.turn.count ≡ 0
  pub older : TurnOpen g → g.links.turn.count < 65535 → h.links.turn.count ≡ g.links.turn.count + 1
  pub oldest : TurnOpen g → 65535 ≤ g.links.turn.count → h.links.turn.count ≡ 65535

pub record Timed (g : Handler) (s : Sample) (f : Effects) (lit : ℕ) (h : Handler) : Type 0 where
  -- "When 6 becomes 1": "alert first"
  pub begins : f.begins ≡ true → Drawn s h
  pub first : f.begins ≡ true → h.links.turn.number ≡ 0
  -- a reading: while 6 is 0 nothing changes the turn
  pub off : f.begins ≡ false → ¬ Runs g f → h.links.turn ≡ g.links.turn
  -- "or a turn ends": "alternates alert and escalation pings, .. lines 0 to 3 in turn"
  pub next : Runs g f → Ends g s f lit → Drawn s h
  pub following : Runs g f → Ends g s f lit → h.links.turn.number ≡ (g.links.turn.number + 1) % 8
  -- a reading: nothing else ends it
  pub goes_on : Runs g f → ¬ Ends g s f lit → GoesOn g f h
  -- the turn's line: its ping is open from its opening until the turn ends
  pub turn_line_law : LinesTurn g → (line_pending h (turn_line g) ≡ true) ↔ (OpenNow g f × ¬ Ends g s f lit)
  -- a reading: no other line's ping changes; the bits from 4 up are no line's
  pub other_line : (e : ℕ) → e < 32 → ¬ (LinesTurn g × (e ≡ turn_line g)) → line_pending h e ≡ line_pending g e
  pub line_bits : h.links.lines ≤ 4294967295

-- A tick in which the alerts rest but classes and senders can move, from the state after step 1: the access has no effects, and the links only wait and
-- send.
-- Assumes nothing.
use Rattle.std.specs.Prelude.{ℕ, ◌≡◌, List}
use Rattle.class_rules.specs.declared.Class.{Class}
use Rattle.link_rules.specs.Senders.{sent_all}
use Rattle.link_rules.specs.declared.Senders.{Senders}
use Rattle.rules.specs.declared.Handler.{Handler}
use Rattle.rules.specs.declared.Interrupts.{Interrupts}
use Rattle.rules.specs.declared.Timer.{Timer}
use Rattle.samples.specs.Rest.{waited, with_sent, driven}
use Rattle.handler.specs.QuietTick.{with_moved, moved_by}
use Rattle.handler.specs.RestTick.{rested}
use Rattle.handler.specs.declared.moving.Moving.{Moving}
use Rattle.handler.specs.declared.moving.Moving.TheVariants.{Rests, Moves}
use Rattle.handler.specs.declared.tick.Finished.{Finished}

-- such a tick of h, by what it moves and puts out
abbrev pub moved_to : Handler → Moving → Finished
moved_to h (Rests count interrupts) = rested h count interrupts
moved_to h (Moves count senders m) =
    record { handler = with_moved (with_sent senders count h.links) m h; interrupts = m.interrupts; lines = m.lines }

-- what it moves and puts out: steps 3 to 5 with nothing assigned and no clear, and the senders send the lines of step 5
abbrev pub moving_by : Timer → ℕ → Senders → List Class → Interrupts → Moving
moving_by c count senders classes x =
    let m = moved_by classes x in Moves (waited c count) (sent_all senders (driven m.lines)) m

-- r is that, or the count alone where the rest stays and no line is on
abbrev pub MovesBy : Timer → ℕ → Senders → List Class → Interrupts → Moving → Type 0
MovesBy c count senders classes x (Rests t i) =
    moving_by c count senders classes x ≡ Moves t senders (record { classes = classes; state = x.state; interrupts = i; lines = 0 })
MovesBy c count senders classes x (Moves t v m) = Moves t v m ≡ moving_by c count senders classes x

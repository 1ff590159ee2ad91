-- Steps 2 to 5 of a tick, of the state g that step 1 left with its effects, as a word of a trace needs them: without the pairs.
-- Assumes nothing.
use Rattle.std.specs.Prelude.{false}
use Rattle.rules.specs.Samples.{heard}
use Rattle.rules.specs.State.{with_links}
use Rattle.rules.specs.Tick.{stepped, interrupts, lines, links_after}
use Rattle.rules.specs.declared.Effects.{Effects}
use Rattle.rules.specs.declared.Handler.{Handler}
use Rattle.rules.specs.declared.Heard.{Heard}
use Rattle.rules.specs.declared.Sample.{Sample}
use Rattle.rules.specs.declared.Ticked.{Ticked}
use Rattle.handler.specs.declared.tick.Finished.{Finished}

-- step 1 clears no class, raises nothing and does not start the ping timer
abbrev pub no_effects : Effects
no_effects = record { clears = 0; raises = 0; begins = false }

-- the end of a tick: interrupts and lines from the state now reached
abbrev pub ends : Handler → Finished
ends g = record { handler = g; interrupts = interrupts g; lines = lines g }

-- the state k with the links after what was heard and its own lines
abbrev pub relinked : Handler → Heard → Handler → Handler
relinked g v k = with_links (links_after g v (lines k)) k

unfoldable pub finished : Handler → Effects → Sample → Finished
finished g e s = let v = heard g s e in ends (relinked g v (stepped g v e))

-- the same of a whole tick
abbrev pub finished_of : Ticked → Finished
finished_of t = record { handler = t.handler; interrupts = t.output.interrupts; lines = t.output.lines }

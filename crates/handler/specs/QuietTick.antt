-- A tick without effects of its access, in which no alert has an event or equal wires, from the state after step 1.
-- Assumes nothing.
use Rattle.std.specs.Prelude.{List}
use Rattle.class_rules.specs.declared.Class.{Class}
use Rattle.rules.specs.State.{with_interrupts, with_classes, with_links}
use Rattle.rules.specs.declared.Handler.{Handler}
use Rattle.rules.specs.declared.Interrupts.{Interrupts}
use Rattle.rules.specs.declared.Links.{Links}
use Rattle.samples.specs.Linked.{linked_by}
use Rattle.samples.specs.declared.pace.Met.{Met}
use Rattle.handler.specs.Classes.{classes_by, interrupts_by}
use Rattle.laws.specs.OutputMasks.{interrupts_on, lines_on}
use Rattle.handler.specs.declared.quiet.Moved.{Moved}
use Rattle.handler.specs.declared.tick.Finished.{Finished}

-- what such a tick moves, put into the state h
abbrev pub with_moved : Links → Moved → Handler → Handler
with_moved links m h = with_links links (with_classes m.classes (with_interrupts (record { state = m.state; enable = h.interrupts.enable }) h))

-- steps 3 to 5 of these classes and interrupts with nothing assigned and no clear
abbrev pub moved_by : List Class → Interrupts → Moved
moved_by before x =
    let cs = classes_by before x.state 0 0 in
    let i = interrupts_by before x.state 0 in
    record {
      classes = cs;
      state = i;
      interrupts = interrupts_on i x.enable;
      lines = lines_on cs;
    }

-- such a tick leaves v for the links in step 2, and moves and puts out what m says
abbrev pub ended : Handler → Met → Moved → Finished
ended h v m = record { handler = with_moved (linked_by h.links v m.lines) m h; interrupts = m.interrupts; lines = m.lines }

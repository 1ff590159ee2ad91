-- `go_on` meets its contract: a quiet tick writes what it moves.
-- Assumes nothing.
use mathlib.Core.Path.{ap, ap₂, ◌∙◌}
use Rattle.rules.specs.declared.Handler.{Handler}
use Rattle.rules.specs.declared.Links.{Links}
use Rattle.handler.specs.QuietTick.{with_moved, ended}
use Rattle.handler.specs.declared.quiet.Moved.{Moved}
use Rattle.handler.specs.declared.tick.Finished.{Finished}
use Rattle.batch.specs.declared.Shown.{Shown}
use Rattle.batch.proofs.go_on.Goals as goal

pub returns-in-Some : goal.returns-in-Some
returns-in-Some c =
    let g = c.args.g.now in
    let m = c.moved_by-moved.result in
    let e = c.move_on-in-Some.ensures in
    ap₂ {C = Finished} (λ (h : Handler) (r : Shown). record { handler = h; interrupts = r.interrupts; lines = r.lines }) e.state e.shown
    ∙ ap (λ (l : Links). record { handler = with_moved l m g; interrupts = m.interrupts; lines = m.lines }) c.link-g.ensures
    ∙ ap (λ (n : Moved). ended g c.in-Some.met n) c.moved_by-moved.ensures
    ∙ c.in-Some.ensures

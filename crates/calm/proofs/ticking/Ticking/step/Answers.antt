-- `step` meets its contract.
-- Assumes nothing.
use mathlib.Core.Path.{refl, ap, ◌∙◌}
use borrow.Author.Rules.{rules}
use Rattle.handler.specs.Answered.{answered}
use Rattle.handler.specs.declared.tick.Answered.{Answered}
use Rattle.rules.specs.Tick.{ticked}
use Rattle.rules.specs.declared.Input.{Input}
use Rattle.calm.proofs.Walking.{next_valid, next_off, next_lines, next_entry, next_room}
use Rattle.calm.proofs.ticking.Ticking.step.Goals as goal

pub note-requires : goal.note-requires
unfolding answered
note-requires g c =
    let b = c.args.self.now in
    let ran = c.tick-t.ensures ∙ ap (λ (x : Input). answered (ticked b.handler x)) c.input.ensures in
    let shown = ap (λ (r : Answered). r.output.lines) ran in
    (search rules, (c.requires, λ d. next_entry b.handler b.wires b.good b.off g.row.MOST b.changes b.on b.lit b.room (λ e. d (shown ∙ e))))

pub invariant_of-self : goal.invariant_of-self
unfolding answered
invariant_of-self g c =
    let b = c.args.self.now in
    let ran = c.tick-t.ensures ∙ ap (λ (x : Input). answered (ticked b.handler x)) c.input.ensures in
    rw (c.note.ensures, ran)
    (record {
      good = next_valid b.handler b.wires b.good b.off;
      off = next_off b.handler b.wires b.good b.off;
      lit = next_lines b.handler b.wires b.good b.off;
      room = next_room b.handler b.wires b.good b.off g.row.MOST b.changes b.on b.lit b.room c.args.number;
    })

pub returns : goal.returns
unfolding answered
returns g c =
    let b = c.args.self.now in
    let ran = c.tick-t.ensures ∙ ap (λ (x : Input). answered (ticked b.handler x)) c.input.ensures in
    record {
      handler = ap (λ (r : Answered). r.handler) ran;
      output = ap (λ (r : Answered). r.output) ran;
      wires = refl;
      words = c.note.ensures;
    }

-- `moving::moving_of` meets its contract: the facts that its calls ensure, put together.
-- Assumes nothing.
use mathlib.Core.Path.{◌≡◌, sym, ◌∙◌}
use mathlib.Core.Bool.{◌&&◌}
use borrow.Author.Rules.{rules}
use borrow.Author.Tests.{ltb-true}
use lib.ListN.{length}
use Rattle.bits.proofs.IndexLaws.{and-true}
use Rattle.rules.specs.State.{most, local_count}
use Rattle.samples.proofs.NewSenders.{new_from}
use Rattle.handler.specs.declared.moving.Moving.TheVariants.{Rests, Moves}
use Rattle.handler.proofs.MovingTicks.{moves_tick, moving_from}
use Rattle.handler.proofs.RestTicks.{staying}
use Rattle.handler.proofs.moving.moving_of.Goals as goal

-- in both, the columns have their lengths by their types
pub returns-then-still-new : goal.returns-then-still-new
returns-then-still-new c =
    let h = c.args.h in
    let alerts_long : length h.alerts.cause ≡ most = search (c.well_formed.0.1.1.1.1.1.0, rules) in
    let locals_long : length h.locals.cause ≡ local_count = search (c.well_formed.0.1.1.1.1.1.1.0, rules) in
    let d = and-true c.does_only_send.result c.are_none.result c.if-not-does_only_send-are_none.false in
    let t = and-true (c.are_still-still.result && c.are_new-new.result) _ c.if-still-new.true in
    let q = and-true c.are_still-still.result c.are_new-new.result t.0 in
    moves_tick h _ c.args.s c.requires alerts_long locals_long (c.does_only_send.ensures d.0) (c.are_none.ensures d.1) (Rests c.wait-next.result c.interrupts_on-interrupts.result)
    (staying h.timer h.links.turn.count h.links.senders h.classes h.interrupts _ _ c.are_still-still.ensures.1 (sym c.are_still-still.ensures.0 ∙ q.0) (ltb-true _ _ t.1)
    (new_from _ (sym c.are_new-new.ensures ∙ q.1)) c.wait-next.ensures c.interrupts_on-interrupts.ensures)

pub returns : goal.returns
returns c =
    let h = c.args.h in
    let alerts_long : length h.alerts.cause ≡ most = search (c.well_formed.0.1.1.1.1.1.0, rules) in
    let locals_long : length h.locals.cause ≡ local_count = search (c.well_formed.0.1.1.1.1.1.1.0, rules) in
    let d = and-true c.does_only_send.result c.are_none.result c.if-not-does_only_send-are_none.false in
    moves_tick h _ c.args.s c.requires alerts_long locals_long (c.does_only_send.ensures d.0) (c.are_none.ensures d.1) (Moves c.wait-next.result c.send-senders.result c.moved_by-moved.result)
    (moving_from h.timer h.links.turn.count h.links.senders h.classes h.interrupts _ _ c.moved_by-moved.result c.wait-next.ensures c.send-senders.ensures c.moved_by-moved.ensures)

-- `Session::take_turns` meets its contract: the next turn goes on where those before it left off.
-- Assumes nothing.
use Rattle.std.proofs.Common.{refl, ◌∙◌}
use Rattle.replay.proofs.TurnLaws.{turned_none, turned_then}
use Rattle.replay.proofs.session.Session.take_turns.Goals as goal

pub loop-init : goal.loop-init
loop-init g c = (refl, turned_none _ _ _ _ _ c.args.self.now.short refl)

pub returns-then-not-take_turn : goal.returns-then-not-take_turn
returns-then-not-take_turn g c =
    let so_far = c.loop.invariant in
    turned_then _ _ _ _ _ _ so_far.1 _ so_far.0 _ _ _ c.take_turn.ensures.turned

pub loop-preserved : goal.loop-preserved
loop-preserved g c =
    let so_far = c.loop.invariant in
    (c.take_turn.ensures.edition ∙ so_far.0, turned_then _ _ _ _ _ _ so_far.1 _ so_far.0 _ _ _ c.take_turn.ensures.turned)

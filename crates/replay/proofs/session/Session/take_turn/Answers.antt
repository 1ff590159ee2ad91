-- `Session::take_turn` meets its contract: what was kept and what came are run together.
-- Assumes nothing.
use Rattle.std.proofs.Common.{◌+◌, ◌≤◌, length, arith, rules}
use Rattle.std.proofs.lemmas.Slice.{take-put_mid_below}
use Rattle.replay.proofs.TurnLaws.{turned_none, turned_read}
use Rattle.replay.proofs.session.Session.take_turn.Goals as goal

pub returns-in-Ok-clause-turned : goal.returns-in-Ok-clause-turned
returns-in-Ok-clause-turned g c =
    let s = c.args.self.now in
    let l : s.rest ≤ length s.buffer = search rules in
    let more : s.rest ≤ s.rest + c.in-Ok.count = omega arith in
    turned_read _ _ _ _ _ _ more (take-put_mid_below s.rest _ s.buffer _ s.rest (omega arith) l) _ _ _ c.run_whole.ensures.ran

pub returns-in_default-clause-turned : goal.returns-in_default-clause-turned
returns-in_default-clause-turned g c =
    let s = c.args.self.now in
    let l : s.rest ≤ length s.buffer = search rules in
    turned_none _ _ _ _ _ s.short (take-put_mid_below s.rest _ s.buffer _ s.rest (omega arith) l)

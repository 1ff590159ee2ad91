-- `does_only_send` meets its contract: the facts of its calls, put together.
-- Assumes nothing.
use mir.Syntax.{w8}
use mir.Val.{Fits}
use Rattle.samples.proofs.RestingLinks.{sends_from}
use Rattle.samples.proofs.rest.does_only_send.Goals as goal

pub returns : goal.returns
returns c =
    let o = c in
    let p = o in
    let l = p in
    let b = l in
    let a = b.args in
    let f : Fits w8 a.k.turn.alert = o.struct_known-1.given.1.0.1.0 in
    λ e. sends_from a.n a.k a.c a.s _ _ _ _ f.fits l.are_still-still.ensures p.none_set.ensures o.wrong_lines-sound.ensures c.does_wait.ensures e

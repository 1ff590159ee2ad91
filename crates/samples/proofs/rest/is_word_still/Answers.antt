-- `is_word_still` meets its contract: the word's bits, place by place.
-- Assumes nothing.
use borrow.Author.Rules.{rules}
use borrow.Author.Tests.{eqb-true}
use lib.ListN.{get_or}
use mir.Syntax.{w64}
use mir.Val.{Fits}
use Rattle.samples.proofs.RestingWords.{word_rests}
use Rattle.samples.proofs.rest.is_word_still.Goals as goal

pub returns : goal.returns
returns c =
    let a = c.args in
    let f : Fits w64 (get_or a.w.neg a.v 0) = search rules in
    λ e. word_rests a.n a.r a.w a.v c.live.result c.live.ensures f.fits (eqb-true _ _ e)

-- `text::put_line` meets its contract: the store of digit j, and the newline behind the 16 digits.
-- Assumes nothing.
use Rattle.std.proofs.Common.{◌≡◌, arith}
use Rattle.text.proofs.LineLaws.{own_line, put_own_digit}
use Rattle.text.proofs.put_line.Goals as goal

pub loop-j-preserved : goal.loop-j-preserved
loop-j-preserved c = rw (c.loop-j.invariant, c.digit.ensures) (put_own_digit _ _ _ c.requires c.loop-j-test.true)

pub returns : goal.returns
returns c = let e : c.loop-j.j ≡ 16 = omega arith in rw (c.loop-j.invariant, e) (own_line _ _ c.requires)

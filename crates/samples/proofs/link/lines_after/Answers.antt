-- `link::lines_after` meets its contract.
-- Assumes nothing.
use Prim.Native.Nat.{◌<◌, ◌^◌}
use Rattle.samples.proofs.LineMasks.{line_set, line_cleared, no_line}
use borrow.Author.Rules.{rules}
use Rattle.samples.proofs.link.lines_after.Goals as goal

pub returns-then-pend : goal.returns-then-pend
returns-then-pend c =
    let a = c.args in
    let h : a.lines < 2 ^ 32 = search rules in
    rw (c.if-pend.true, c.if-line.true) (line_set a.lines a.e h c.requires)

pub returns-else-pend : goal.returns-else-pend
returns-else-pend c =
    let a = c.args in
    let h : a.lines < 2 ^ 32 = search rules in
    rw (c.if-pend.false, c.if-line.true) (line_cleared a.lines a.e h c.requires)

pub returns-else-line : goal.returns-else-line
returns-else-line c =
    let a = c.args in
    let h : a.lines < 2 ^ 32 = search rules in
    rw c.if-line.false (no_line a.lines a.e h c.requires a.pend)

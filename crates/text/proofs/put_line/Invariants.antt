-- The first j digits stand at their places, all else is as it was.
use Rattle.std.proofs.Common.{◌≡◌}
use Rattle.std.proofs.Math.Seq.{paste}
use Rattle.text.specs.HexLines.{line_of}
use Rattle.text.proofs.put_line.Given as goal

abbrev pub invariant-loop-j : goal.invariant-loop-j
invariant-loop-j l = l.line ≡ paste l.initial.line 0 (line_of l.word) l.j

-- The lines of the first i words, then what was there.
use Rattle.std.proofs.Common.{◌*◌, ◌≡◌, ◌++◌, take, drop}
use Rattle.text.specs.HexLines.{lines_of}
use Rattle.text.proofs.hex_lines.Given as goal

abbrev pub invariant-loop-i : goal.invariant-loop-i
invariant-loop-i l = l.out ≡ lines_of (take l.i l.words) ++ drop (17 * l.i) l.initial.out

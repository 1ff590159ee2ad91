-- `text::hex_lines` meets its contract: the line of word i behind the others.
-- Assumes nothing.
use Rattle.std.proofs.Common.{arith, rules, sym, ◌≡◌, ◌+◌, ◌*◌, ◌-◌}
use Rattle.std.proofs.lemmas.Slice.{put_mid-paste}
use Rattle.text.proofs.LineLaws.{length_line, put_next}
use Rattle.text.specs.HexLines.{lines_of}
use Rattle.text.proofs.hex_lines.Goals as goal

pub loop-i-init : goal.loop-i-init
unfolding lines_of
loop-i-init c = search rules

pub loop-i-preserved : goal.loop-i-preserved
loop-i-preserved c =
    let s = c.loop-i in
    let k : 17 ≡ 17 * s.i + 17 - 17 * s.i = omega arith in
    rw (put_mid-paste (17 * s.i) _ s.out _ _ 17 c.put_line.ensures k (sym (length_line _)), s.invariant) (put_next _ _ _ (omega arith) (omega arith))

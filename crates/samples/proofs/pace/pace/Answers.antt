-- `pace::pace` meets its contract.
-- Assumes nothing.
use mathlib.Core.Path.{refl, sym}
use Rattle.std.proofs.Common.{rules, ◌<◌}
use Rattle.bits.proofs.BitLaws.{bit_zero}
use Rattle.samples.proofs.Pacing.{paced_by}
use Rattle.samples.proofs.pace.pace.Goals as goal

pub returns : goal.returns
returns c =
    let a = c.args in
    let small : a.k.turn.alert < 256 = search rules in
    paced_by a.n a.k a.c a.begins a.pingable a.s _ _ _ _ _ _ _ _ _ _ _ _ _ _
    (record {
      is_begun = c.begin-begun.ensures;
      received = c.receive_all.ensures;
      is_right = sym (bit_zero a.k.right);
      are_wrong = c.wrong_lines-wrong.ensures;
      is_told = c.is_line_answered-told_line.ensures;
      is_answered = c.is_answered-answered.ensures;
      small = small;
      meets = refl;
      is_failing = c.does_fail-fails.ensures;
      is_line_law = c.is_line-line.ensures;
      is_checked = c.is_checked-checked.ensures;
      is_number = c.line_of.ensures.0;
      is_off = c.is_line_set-off.ensures;
      closes = c.closed.ensures;
      is_stay = c.stays_right.ensures;
    })

-- `link::link` meets its contract.
-- Assumes nothing.
use mathlib.Core.Path.{refl, ◌∙◌}
use Rattle.masks.proofs.MaskFolds.{num_byte}
use Rattle.samples.proofs.Linking.{linked}
use Rattle.samples.proofs.link.link.Goals as goal

pub returns : goal.returns
returns c =
    let p = c in
    let m = p in
    let l = m in
    let a = l.args in
    linked a.k a.v a.lit _ _ _ _ _ _ _ _ _ _ _ _ _ _
    (record {
      is_number = l.line_of-e.ensures.0;
      is_line_law = m.is_line-line.ensures;
      is_on_law = m.is_line_set.ensures;
      is_last = m.is_line_set-2.ensures;
      is_closed = m.is_closed-closed.ensures;
      is_met = refl;
      is_open = p.is_open.ensures;
      is_ending = p.does_end.ensures;
      is_opening = p.does_open.ensures;
      are_pings = p.ping_mask-pings.ensures;
      turns = c.turn.ensures;
      marks = c.lines_after.ensures;
      sends = c.send.ensures;
      is_right = c.from.ensures ∙ num_byte a.v.right;
    })

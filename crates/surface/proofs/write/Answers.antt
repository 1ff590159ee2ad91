-- `write` gives each part of what `tarravane_record` promises.
-- Assumes nothing.
use borrow.Author.Rules.{rules}
use Rattle.surface.proofs.WriteParts.{write_parts}
use mathlib.Core.Path.{◌≡◌, ◌∙◌}
use mir.Facts.{to_z-of_z}
use mir.Syntax.{w64}
use mir.Val.{to_z, of_z}
use Rattle.everything.proofs.Said.{record_said}
use Rattle.surface.proofs.write.Goals as goal

pub returns : goal.returns
returns c =
    let e = write_parts _ _ _ _ c.tarravane_record.ensures.wrote c.tarravane_record.ensures.readback c.tarravane_record.ensures.writtenback in
    record {
      said = record_said _ _ _ _ (search rules);
      value = (let f : to_z w64 (of_z w64 c.tarravane_record.result) ≡ c.tarravane_record.result = to_z-of_z {w = w64} (search rules) in f) ∙ e.0;
      bytes = e.1.0;
      inputs = e.1.1.0;
      numbers = e.1.1.1.0;
      writtenback = e.1.1.1.1;
    }

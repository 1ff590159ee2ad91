-- `bytes::put_half` meets its contract: four bytes are written over.
-- Assumes nothing.
use mathlib.Core.Path.{◌∙◌}
use native.Mathlib.Omega.{arith}
use Rattle.bits.specs.Fields.{unpack}
use Rattle.writer.proofs.StoreLaws.{put_part, four_bytes}
use Rattle.writer.proofs.bytes.put_half.Goals as goal

pub returns : goal.returns
unfolding unpack
returns c = put_part _ _ _ c.args.at _ (c.copy_from_slice.ensures.after ∙ c.to_be_bytes.ensures ∙ four_bytes c.args.x) (omega arith) c.requires

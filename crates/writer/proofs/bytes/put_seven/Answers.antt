-- `bytes::put_seven` meets its contract: the first seven of eight bytes are written over.
-- Assumes nothing.
use mathlib.Core.Path.{ap, ◌∙◌}
use native.Mathlib.Omega.{arith}
use lib.ListN.{take}
use Rattle.bits.specs.Fields.{unpack}
use Rattle.writer.proofs.StoreLaws.{put_part, seven_bytes}
use Rattle.writer.proofs.bytes.put_seven.Goals as goal

pub returns : goal.returns
unfolding unpack
returns c = put_part _ _ _ c.args.at _ (c.copy_from_slice.ensures.after ∙ ap (take 7) c.to_be_bytes.ensures ∙ seven_bytes c.args.w) (omega arith) c.requires

-- `bytes::put_word` meets its contract: eight bytes are written over.
-- Assumes nothing.
use mathlib.Core.Path.{◌∙◌}
use native.Mathlib.Omega.{arith}
use Rattle.bits.specs.Fields.{unpack}
use Rattle.writer.proofs.StoreLaws.{put_part, eight_bytes}
use Rattle.writer.proofs.bytes.put_word.Goals as goal

pub returns : goal.returns
unfolding unpack
returns c = put_part _ _ _ c.args.at _ (c.copy_from_slice.ensures.after ∙ c.to_be_bytes.ensures ∙ eight_bytes c.args.w) (omega arith) c.requires

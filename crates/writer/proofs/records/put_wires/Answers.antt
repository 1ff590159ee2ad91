-- `records::put_wires` meets its contract: three words, and seven bytes.
-- Assumes nothing.
use Prim.Native.Nat.{◌+◌, ◌*◌}
use Rattle.rules.specs.State.{words}
use Rattle.writer.specs.Lent.{word_at}
use Rattle.writer.proofs.StoreLaws.{put_set}
use Rattle.writer.proofs.records.put_wires.Goals as goal

pub returns-clause-wrote : goal.returns-clause-wrote
returns-clause-wrote c =
    let a = c.args in
    put_set _ _ _ a.at (word_at a.list.now a.i) (λ v. (c.type_inv.list (a.i * words + v)).fits) c.put_words.ensures c.put_seven.ensures

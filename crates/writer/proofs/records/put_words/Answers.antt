-- `records::put_words` meets its contract: one more word stands in each turn.
-- Assumes nothing.
use Prim.Native.Nat.{◌+◌, ◌*◌}
use native.Mathlib.Numerals.{add-one}
use borrow.Author.Rules.{rules}
use Rattle.rules.specs.State.{words}
use Rattle.writer.specs.Lent.{word_at}
use Rattle.writer.specs.EntryParts.{word_bytes}
use Rattle.writer.proofs.StoreLaws.{put_word_next}
use Rattle.writer.proofs.records.put_words.Goals as goal

pub loop-v-init : goal.loop-v-init
unfolding word_bytes
loop-v-init c = search rules

pub loop-v-preserved : goal.loop-v-preserved
loop-v-preserved c =
    let i = c.args.i in
    rw add-one (
    put_word_next c.args.out.now c.loop-v.out _ c.args.at c.loop-v.v (word_at c.args.list.now i)
    (λ v. (c.type_inv.list (i * words + v)).fits) c.loop-v.invariant c.put_word.ensures
    )

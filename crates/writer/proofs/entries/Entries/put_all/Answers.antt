-- `Entries::put_all` meets its contract: one more record stands in each turn.
-- Assumes nothing.
use Prim.Native.Nat.{◌<◌}
use lib.ListN.{length}
use native.Mathlib.Omega.{arith}
use borrow.Author.Rules.{rules}
use borrow.Author.Tests.{not-false}
use Rattle.trace_rules.specs.Writer.{records_of}
use Rattle.writer.proofs.EntryLists.{put_next, put_end}
use Rattle.bits.proofs.IndexLaws.{none_at}
use Rattle.writer.proofs.entries.Entries.put_all.Goals as goal

pub loop-i-init : goal.loop-i-init
unfolding records_of
loop-i-init c = search rules

pub put_record-requires : goal.put_record-requires
put_record-requires c =
    let more : c.loop-i.i < length c.args.self.now.lists.kinds = omega arith in
    (more, omega arith, not-false _ (none_at _ _ _ c.requires.each_recordable more))

pub loop-i-preserved : goal.loop-i-preserved
loop-i-preserved c = put_next _ _ _ _ _ (omega arith) c.loop-i.invariant c.put_record.ensures

pub returns : goal.returns
returns c = put_end _ _ _ c.loop-i.i (omega arith) c.requires.room c.loop-i.invariant

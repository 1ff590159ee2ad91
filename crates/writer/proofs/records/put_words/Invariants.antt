use mathlib.Core.Path.{◌≡◌}
use lib.Seq.{sets}
use Rattle.writer.specs.Lent.{word_at}
use Rattle.writer.specs.EntryParts.{word_bytes}
use Rattle.writer.proofs.records.put_words.Given as goal

abbrev pub invariant-loop-v : goal.invariant-loop-v
invariant-loop-v l = l.out ≡ sets l.initial.out l.at (word_bytes l.v (word_at l.list l.i))

-- What the examples of traces compute with.
-- Assumes nothing.
use Prim.Native.Nat.{ℕ}
use Rattle.trace_rules.specs.Batch.{admits, batch_verdict, batch_of, batch}
use Rattle.trace_rules.specs.Edition.{edition_by, carried64, carried248}
use Rattle.trace_rules.specs.Record.{access_of, answers_of, positives_of, negatives_of, answer_bits, pair_bits, held_in, input_of, record_of, recordable, inputs_of}
use Rattle.trace_rules.specs.Word.{word_by, word_of}
use Rattle.trace_rules.specs.Writer.{records_of, any_unrecordable, write_verdict, write_of, write}

-- names every definition of traces that an example computes with: `unfolding rules traces` opens them all
unfoldable pub traces : ℕ → ℕ
unfolding edition_by carried64 carried248 access_of answers_of positives_of negatives_of answer_bits pair_bits held_in input_of word_by word_of record_of recordable inputs_of admits batch_verdict batch_of batch records_of any_unrecordable write_verdict write_of write
traces n = n

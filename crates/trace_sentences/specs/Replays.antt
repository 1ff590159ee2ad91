-- A library that ticks, reads records, fills words and runs batches: all that stands behind "Traces".
-- Assumes nothing.
use Rattle.std.specs.Prelude.{ℕ, List, ℤ}
use Rattle.rules.specs.declared.Answer.{Answer}
use Rattle.trace_rules.specs.declared.Edition.{Edition}
use Rattle.rules.specs.declared.Handler.{Handler}
use Rattle.rules.specs.declared.Input.{Input}
use Rattle.rules.specs.declared.Ticked.{Ticked}
use Rattle.sentences.specs.Whole.{Whole}
use Rattle.trace_sentences.specs.BatchTicks.{Batches}
use Rattle.trace_sentences.specs.RecordBits.{Reader}
use Rattle.trace_sentences.specs.Words.{Words}

pub record Replays (state : Edition → Handler → List ℕ → List ℕ → Handler) (answer : Edition → Handler → List ℕ → List ℕ → ℤ)
    (list : Edition → Handler → List ℕ → List ℕ → List ℕ) : Type 0 where
  -- "One tick, in order", and the number of each answer
  pub tick : Handler → Input → Ticked
  pub number : Answer → ℤ
  pub ticks : Whole tick number
  -- the word of a tick
  pub word : Ticked → ℕ
  pub words : Words number word
  -- the access and sample of a record
  pub read : Edition → List ℕ → Input
  pub reads : Reader read
  -- a batch is its records' ticks
  pub batches : Batches tick word read state answer list

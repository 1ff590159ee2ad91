-- "Traces": a trace given as two batches.
-- Assumes nothing.
use Rattle.std.specs.Prelude.{ℕ, List, ◌++◌, map, take, drop}
use Rattle.rules.specs.Answer.{number}
use Rattle.trace_rules.specs.Batch.{Batched, batch}
use Rattle.rules.specs.Run.{run, ticks}
use Rattle.rules.specs.declared.Answer.{Answer}
use Rattle.trace_rules.specs.declared.Edition.{Edition}
use Rattle.rules.specs.declared.Handler.{Handler}
use Rattle.trace_rules.specs.Word.{word_of}
use Rattle.trace_rules.specs.Record.{inputs_of, record_count}

-- what a batch gives that is not refused: the state after its ticks, and a word for each, the later words as they were
abbrev pub of_ticks : Edition → Handler → List ℕ → List ℕ → Batched
of_ticks e h bytes out =
    record {
      handler = run h (inputs_of e bytes);
      answer = number Answer.Done;
      out = map word_of (ticks h (inputs_of e bytes)) ++ drop (record_count e bytes) out;
    }

-- what a batch gives, with the words ws before its own
abbrev pub behind : List ℕ → Batched → Batched
behind ws s = record { handler = s.handler; answer = s.answer; out = ws ++ s.out }

-- after a batch of n records that gave f: the batch of b on the state that it left and the words after its n
abbrev pub followed : Edition → ℕ → Batched → List ℕ → Batched
followed e n f b = behind (take n f.out) (batch e f.handler b (drop n f.out))

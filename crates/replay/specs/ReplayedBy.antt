-- "prints each word": the text of the records that some bytes hold whole.
-- Assumes nothing.
use Rattle.std.specs.Prelude.{ℕ, ◌*◌, ◌≡◌, List, ◌++◌, map, drop}
use Rattle.rules.specs.Run.{run, ticks}
use Rattle.trace_rules.specs.declared.Edition.{Edition}
use Rattle.rules.specs.declared.Handler.{Handler}
use Rattle.trace_rules.specs.Word.{word_of}
use Rattle.trace_rules.specs.Record.{inputs_of, record_count}
use Rattle.text.specs.HexLines.{lines_of}
use Rattle.replay.specs.declared.records.Replayed.{Replayed}

-- the state after the records' ticks, the count of the text's bytes, and the buffer, which has the lines of the ticks' words and then
-- what it had
pub record ReplayedBy (e : Edition) (h : Handler) (bytes text : List ℕ) (r : Replayed) (left : List ℕ) : Type 0 where
  pub handler : r.handler ≡ run h (inputs_of e bytes)
  pub written : r.written ≡ 17 * record_count e bytes
  pub lines : left ≡ lines_of (map word_of (ticks h (inputs_of e bytes))) ++ drop (17 * record_count e bytes) text

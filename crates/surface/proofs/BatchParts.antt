-- The parts of what a batch gives, once over the edition.
-- Assumes nothing.
use Prim.Native.Nat.{ℕ}
use mathlib.Core.Path.{◌≡◌, ap, ◌∙◌}
use mathlib.Core.List.{List, map}
use lib.ListN.{length, take, drop, length-map}
use lib.Seq.{take_at, drop_at}
use Rattle.batch.specs.BatchedBy.{BatchedBy}
use Rattle.batch.specs.declared.Batched.{Batched}
use Rattle.laws.proofs.Tick.Runs.{length_ticks}
use Rattle.rules.specs.Run.{run, ticks}
use Rattle.rules.specs.declared.Handler.{Handler}
use Rattle.rules.specs.declared.Input.{Input}
use Rattle.trace_rules.specs.Batch.{batch, batch_of, batch_answer, batch_verdict}
use Rattle.trace_rules.specs.Word.{word_of}
use Rattle.trace_rules.specs.declared.Edition.{Edition}
use Rattle.surface.specs.CallParts.{ran_by, Words, LaterWords}

module _ (e : Edition) (h : Handler) (bytes out : List ℕ) (r : Batched) (left : List ℕ) (b : BatchedBy e h bytes out r left) where
  abbrev xs : List Input
  xs = ran_by e h bytes out

  pub state_part : r.handler ≡ run h xs
  unfolding batch batch_of
  state_part = b.handler

  pub answer_part : r.answer ≡ batch_answer (batch_verdict e h bytes out)
  unfolding batch batch_of
  answer_part = b.answer

  a_word_each : length (map word_of (ticks h xs)) ≡ length xs
  a_word_each = length-map (ticks h xs) word_of ∙ length_ticks h xs

  pub words_part : Words e h bytes out left
  unfolding batch batch_of
  words_part = ap (take (length xs)) b.words ∙ take_at (map word_of (ticks h xs)) (drop (length xs) out) (length xs) a_word_each

  pub later_part : LaterWords e h bytes out left
  unfolding batch batch_of
  later_part = ap (drop (length xs)) b.words ∙ drop_at (map word_of (ticks h xs)) (drop (length xs) out) (length xs) a_word_each

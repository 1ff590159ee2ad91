-- "Traces": a batch fills a lent list of 64-bit words, one per record. Its refusals are of "Numbers that come back".
-- Assumes nothing.
use Rattle.std.specs.Prelude.{ℕ, ◌%◌, Bool, not, ◌&&◌, ◌||◌, List, [], ◌∷◌, ◌++◌, map, eqb, leb, ltb, ℤ, length, drop, Ok, Err}
use Rattle.rules.specs.Answer.{Case, first_of, number, Verdict}
use Rattle.trace_rules.specs.Edition.{record_bytes, alerts, has_timer}
use Rattle.trace_rules.specs.Record.{record_count, inputs_of}
use Rattle.rules.specs.Run.{run, ticks}
use Rattle.rules.specs.State.{is_on}
use Rattle.rules.specs.Valid.{valid}
use Rattle.trace_rules.specs.Word.{word_of}
use Rattle.rules.specs.declared.Answer.{Answer}
use Rattle.trace_rules.specs.declared.Edition.{Edition}
use Rattle.rules.specs.declared.Handler.{Handler}
use Rattle.rules.specs.declared.Input.{Input}
use Rattle.rules.specs.declared.Refusal.TheVariants.{BadState, BadLength, ShortList}

-- a state that the ticks of an edition's batch may start from; request (iii): "an old batch answers 7 to a handler of more than 64 alerts";
-- request (ix): "an older batch answers 7 where the timer is on"
unfoldable pub admits : Edition → Handler → Bool
admits e h = valid h && (leb h.n (alerts e) && (has_timer e || not (is_on h)))

-- for a batch the order is 7, 8, 9
abbrev pub batch_cases : Edition → Handler → List ℕ → List ℕ → List Case
batch_cases e h bytes out =
    record { refusal = BadState; holds = not (admits e h) }
    ∷ record { refusal = BadLength; holds = not (eqb (length bytes % record_bytes e) 0) }
    ∷ record { refusal = ShortList; holds = ltb (length out) (record_count e bytes) }
    ∷ []

unfoldable pub batch_verdict : Edition → Handler → List ℕ → List ℕ → Verdict
batch_verdict e h bytes out = first_of (batch_cases e h bytes out)

-- the ticks of a batch: those of its records, and none if it is refused
abbrev pub batch_inputs : Edition → Verdict → List ℕ → List Input
batch_inputs e (Ok tt) bytes = inputs_of e bytes
batch_inputs e (Err m) bytes = []

-- a batch that isn't refused answers 0
abbrev pub batch_answer : Verdict → ℤ
batch_answer (Ok tt) = number Answer.Done
batch_answer (Err m) = number (Answer.Refused m)

-- what a batch gives: the answer, the state, and the lent list, of which later words stay as they were
pub record Batched : Type 0 where
  pub handler : Handler
  pub answer : ℤ
  pub out : List ℕ

unfoldable pub batch_of : Edition → Verdict → Handler → List ℕ → List ℕ → Batched
batch_of e v h bytes out =
    let xs = batch_inputs e v bytes in
    record {
      handler = run h xs;
      answer = batch_answer v;
      out = map word_of (ticks h xs) ++ drop (length xs) out;
    }

unfoldable pub batch : Edition → Handler → List ℕ → List ℕ → Batched
batch e h bytes out = batch_of e (batch_verdict e h bytes out) h bytes out

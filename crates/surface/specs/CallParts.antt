-- The parts of what the boundary's calls give back, each said by itself.
-- Assumes nothing.
use Rattle.std.specs.Prelude.{ℕ, ◌*◌, ◌≤◌, ◌<◌, ◌≡◌, true, List, ◌++◌, map, get_or, length, take, drop, Ok}
use Rattle.calm_rules.specs.Call.{call_words}
use Rattle.rules.specs.Run.{ticks}
use Rattle.rules.specs.declared.Handler.{Handler}
use Rattle.rules.specs.declared.Input.{Input}
use Rattle.rules.specs.Answer.{Verdict}
use Rattle.rules.specs.declared.Wires.{Wires}
use Rattle.trace_rules.specs.Batch.{batch_verdict, batch_inputs}
use Rattle.trace_rules.specs.Edition.{newest, record_bytes}
use Rattle.trace_rules.specs.Record.{kind_of, register_of, value_of, inputs_of}
use Rattle.trace_rules.specs.Word.{word_of}
use Rattle.trace_rules.specs.Writer.{WellFormed, AllSame, write_verdict}
use Rattle.trace_rules.specs.declared.Edition.{Edition}
use Rattle.writer.specs.Lent.{Lent, input_at, list_of, even}

-- ── a batch, from the edition, the state, the bytes and the lent list at entry ──

-- the inputs of its ticks, none where it is refused
abbrev pub ran_by : Edition → Handler → List ℕ → List ℕ → List Input
ran_by e h bytes out = batch_inputs e (batch_verdict e h bytes out) bytes

-- every word that it wrote, and every later word of the list that it left
abbrev pub Words : Edition → Handler → List ℕ → List ℕ → List ℕ → Type 0
Words e h bytes out left = take (length (ran_by e h bytes out)) left ≡ map word_of (ticks h (ran_by e h bytes out))

abbrev pub LaterWords : Edition → Handler → List ℕ → List ℕ → List ℕ → Type 0
LaterWords e h bytes out left = drop (length (ran_by e h bytes out)) left ≡ drop (length (ran_by e h bytes out)) out

-- ── a calm call, from the state, the wires, the ticks and the lent list at entry ──

abbrev pub CalmWords : Handler → Wires → ℕ → List ℕ → List ℕ → Type 0
CalmWords h w n list left = take (length (call_words h w n list)) left ≡ call_words h w n list

abbrev pub CalmLater : Handler → Wires → ℕ → List ℕ → List ℕ → Type 0
CalmLater h w n list left = drop (length (call_words h w n list)) left ≡ drop (length (call_words h w n list)) list

-- ── the writer, of a list that is not refused ──

-- "Reading what was written gives the same accesses and samples", and the accesses have the numbers that were lent
abbrev pub SameInputs : Lent → List ℕ → List ℕ → Type 0
SameInputs l out left =
    even l ≡ true → write_verdict newest (list_of l) out ≡ Ok tt
    → AllSame newest (list_of l) (inputs_of newest (take (length l.kinds * record_bytes newest) left))

abbrev pub SameNumbers : Lent → List ℕ → Type 0
SameNumbers l out =
    even l ≡ true → write_verdict newest (list_of l) out ≡ Ok tt → (i : ℕ) → i < length l.kinds
    → (kind_of (input_at l i).access ≡ get_or l.kinds i 0)
    × (register_of (input_at l i).access ≡ get_or l.registers i 0)
    × (value_of (input_at l i).access ≡ get_or l.values i 0)

-- "writing what was read gives the same bytes for every well-formed record"
abbrev pub SameBytes : Lent → List ℕ → List ℕ → Type 0
SameBytes l out left =
    (bytes : List ℕ) → WellFormed newest bytes → even l ≡ true → list_of l ≡ inputs_of newest bytes → length bytes ≤ length out
    → left ≡ bytes ++ drop (length bytes) out

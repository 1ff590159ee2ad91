-- "Traces": the word of a tick.
-- Assumes nothing.
use Rattle.std.specs.Prelude.{ℕ, List, [], ◌∷◌}
use Rattle.bits.specs.Bits.{bit, num}
use Rattle.bits.specs.Fields.{pack}
use Rattle.rules.specs.Answer.{refusal_number}
use Rattle.rules.specs.declared.Answer.{Answer}
use Rattle.rules.specs.declared.Ticked.{Ticked}

-- interrupts (4 bits, class 0 first), lines (4, line 0 first), refusal number (4), 20 zeros, read value or 0

abbrev pub word_layout : List ℕ
word_layout = 1 ∷ 1 ∷ 1 ∷ 1 ∷ 1 ∷ 1 ∷ 1 ∷ 1 ∷ 4 ∷ 20 ∷ 32 ∷ []

abbrev pub refusal_of : Answer → ℕ
refusal_of Answer.Done = 0
refusal_of (Answer.Value v) = 0
refusal_of (Answer.Refused m) = refusal_number m

abbrev pub read_of : Answer → ℕ
read_of Answer.Done = 0
read_of (Answer.Value v) = v
read_of (Answer.Refused m) = 0

abbrev pub word_fields : ℕ → ℕ → Answer → List ℕ
word_fields interrupts lines a =
    num (bit interrupts 0)
    ∷ num (bit interrupts 1)
    ∷ num (bit interrupts 2)
    ∷ num (bit interrupts 3)
    ∷ num (bit lines 0)
    ∷ num (bit lines 1)
    ∷ num (bit lines 2)
    ∷ num (bit lines 3)
    ∷ refusal_of a
    ∷ 0
    ∷ read_of a
    ∷ []

-- the word by interrupts, lines and answer: of the outputs it shows these two alone
unfoldable pub word_by : ℕ → ℕ → Answer → ℕ
word_by interrupts lines a = pack word_layout (word_fields interrupts lines a)

unfoldable pub word_of : Ticked → ℕ
word_of t = word_by t.output.interrupts t.output.lines t.answer

-- "Traces": what the program prints for any input, in sentences: bytes and literal numbers, and no definition of the rules.
-- Assumes nothing.
use Rattle.std.specs.Prelude.{ℕ, ◌≤◌, ◌<◌, ◌≡◌, ◌⊎◌, List, [], ◌∷◌, ℤ}
use Rattle.rules.specs.declared.Answer.{Answer}
use Rattle.rules.specs.declared.Handler.{Handler}
use Rattle.rules.specs.declared.Input.{Input}
use Rattle.rules.specs.declared.Made.{Made}
use Rattle.rules.specs.declared.Ticked.{Ticked}
use Rattle.sentences.specs.Making.{Making}
use Rattle.sentences.specs.Whole.{Whole}
use Rattle.trace_rules.specs.declared.Edition.{Edition}
use Rattle.trace_sentences.specs.RecordBits.{form, Reader}
use Rattle.trace_sentences.specs.Words.{Words}
use Rattle.replay_sentences.specs.Texts.{refused_text, TextIs}

-- what is printed where the input has N at the place for it, and these bytes behind it
pub record StartIs (made : ℕ → Made) (tick : Handler → Input → Ticked) (word : Ticked → ℕ) (read : Edition → List ℕ → Input) (e : Edition) (n : ℕ) (bytes text : List ℕ)
    : Type 0 where
  -- "a .. refused N prints `refused` and a newline only": "N is 0 or over 64"; request (iii): "6 .. read 248", "other inputs are read as before with N up to 64"
  pub refused : (n ≡ 0) ⊎ ((form e).alerts < n) → text ≡ refused_text
  -- "one byte N, then records": a new handler for N alerts
  pub runs : 1 ≤ n → n ≤ (form e).alerts → TextIs tick word read e (made n).handler bytes text

pub record Program (prints : List ℕ → List ℕ) : Type 0 where
  -- a new handler, a tick with the number of its answer, the word of a tick and what a record holds: those of document 01's sentences
  pub made : ℕ → Made
  pub making : Making made
  pub tick : Handler → Input → Ticked
  pub number : Answer → ℤ
  pub ticks : Whole tick number
  pub word : Ticked → ℕ
  pub words : Words number word
  pub read : Edition → List ℕ → Input
  pub reads : Reader read
  -- "a missing .. N prints `refused` and a newline only": of no byte, or of a first byte that is no N and none behind it
  pub missing : prints [] ≡ refused_text
  pub missing_n : (first : ℕ) → 253 ≤ first → first ≤ 255 → prints (first ∷ []) ≡ refused_text
  -- "The program reads from standard input one byte N, then records"; request (iii): "other inputs are read as before"
  pub others : (n : ℕ) (bytes : List ℕ) → n ≤ 252 → StartIs made tick word read Edition.Alerts64 n bytes (prints (n ∷ bytes))
  -- request (iii): "A program input whose first byte is 255 holds N next and new records"
  pub at_255 : (n : ℕ) (bytes : List ℕ) → StartIs made tick word read Edition.Alerts248 n bytes (prints (255 ∷ n ∷ bytes))
  -- request (ix): "Records grow to 75 bytes .., first byte 254"
  pub at_254 : (n : ℕ) (bytes : List ℕ) → StartIs made tick word read Edition.Pings n bytes (prints (254 ∷ n ∷ bytes))
  -- request (xi): "In records four receive pairs .. replace the answer byte, first byte 253"
  pub at_253 : (n : ℕ) (bytes : List ℕ) → StartIs made tick word read Edition.Wires n bytes (prints (253 ∷ n ∷ bytes))

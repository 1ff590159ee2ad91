-- "Traces": the text that the program prints, by place, in sentences: bytes and literal numbers, and no definition of the rules. A byte of text is its number: 48 is `0`,
-- 97 is `a`, 10 is the newline.
-- Assumes nothing.
use Rattle.std.specs.Prelude.{ℕ, suc, ◌+◌, ◌-◌, ◌*◌, ◌/◌, ◌%◌, ◌^◌, ◌≤◌, ◌<◌, ◌≡◌, ◌≢◌, List, [], ◌∷◌, get_or, length}
use Rattle.rules.specs.declared.Handler.{Handler}
use Rattle.rules.specs.declared.Input.{Input}
use Rattle.rules.specs.declared.Ticked.{Ticked}
use Rattle.trace_rules.specs.declared.Edition.{Edition}
use Rattle.trace_sentences.specs.BatchTicks.{count, record_of}
use Rattle.trace_sentences.specs.RecordBits.{form}

-- `refused` and a newline
abbrev pub refused_text : List ℕ
refused_text = 114 ∷ 101 ∷ 102 ∷ 117 ∷ 115 ∷ 101 ∷ 100 ∷ 10 ∷ []

-- "lower-case hex digits": c is the digit of x, a number below 16
pub record HexDigit (x c : ℕ) : Type 0 where
  -- `0` to `9`
  pub to_9 : x ≤ 9 → c ≡ 48 + x
  -- `a` to `f`
  pub from_10 : 10 ≤ x → c ≡ 97 + (x - 10)

-- "each word as 16 lower-case hex digits and a newline": the word w stands in the text from place p on
pub record LineAt (text : List ℕ) (p w : ℕ) : Type 0 where
  -- "Most significant bit first": digit j has the word's bits 63 - 4 * j to 60 - 4 * j
  pub digit : (j : ℕ) → j < 16 → HexDigit (w / 2 ^ (60 - 4 * j) % 16) (get_or text (p + j) 0)
  pub newline : get_or text (p + 16) 0 ≡ 10

-- "`cut` and a newline", from place p on, and nothing behind it
pub record CutAt (text : List ℕ) (p : ℕ) : Type 0 where
  pub letter_c : get_or text p 0 ≡ 99
  pub letter_u : get_or text (p + 1) 0 ≡ 117
  pub letter_t : get_or text (p + 2) 0 ≡ 116
  pub newline : get_or text (p + 3) 0 ≡ 10
  pub end : length text ≡ p + 4

-- "then records, and prints each word": the bytes are those behind N, h is the state in which the first record finds the handler. What a tick leaves, its word and what a
-- record holds are given
pub record TextIs (tick : Handler → Input → Ticked) (word : Ticked → ℕ) (read : Edition → List ℕ → Input) (e : Edition) (h : Handler) (bytes text : List ℕ) : Type 0 where
  -- the states on the way: the first is the one given, each next is left by the tick of its record
  pub states : ℕ → Handler
  pub first : states 0 ≡ h
  pub next : (i : ℕ) → i < count e bytes → states (suc i) ≡ (tick (states i) (read e (record_of e bytes i))).handler
  -- a line of 17 bytes for each whole record, in order
  pub line : (i : ℕ) → i < count e bytes → LineAt text (17 * i) (word (tick (states i) (read e (record_of e bytes i))))
  -- "Rest bytes at the end print `cut` and a newline", and else nothing stands behind the lines
  pub whole : length bytes % (form e).bytes ≡ 0 → length text ≡ 17 * count e bytes
  pub cut : length bytes % (form e).bytes ≢ 0 → CutAt text (17 * count e bytes)

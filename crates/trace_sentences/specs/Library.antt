-- All that a library's callers can call, but for the boot and for hearing, which is in call_sentences: two that satisfy the sentences cannot be told apart by any sequence of calls.
-- The state is the caller's, so a call takes the state that the call before it left.
-- Assumes nothing.
use Rattle.std.specs.Prelude.{ℕ, ◌≤◌, ◌<◌, ◌≡◌, List, [], ◌∷◌, ℤ, get_or, length}
use Rattle.trace_rules.specs.declared.Edition.{Edition}
use Rattle.rules.specs.declared.Handler.{Handler}
use Rattle.rules.specs.declared.Input.{Input}
use Rattle.rules.specs.declared.Made.{Made}
use Rattle.rules.specs.declared.Output.{Output}
use Rattle.rules.specs.declared.Wires.{Wires}
use Rattle.sentences.specs.Making.{Making}
use Rattle.trace_sentences.specs.Replays.{Replays}
use Rattle.trace_sentences.specs.Writers.{Arrays, entry, Writer}

-- the functions that a caller sees
pub record Library : Type 0 where
  pub new : ℕ → Made
  pub tick : Handler → Input → Handler
  pub output : Handler → Input → Output
  pub answer : Handler → Input → ℤ
  pub batch_state : Edition → Handler → List ℕ → List ℕ → Handler
  pub batch_answer : Edition → Handler → List ℕ → List ℕ → ℤ
  pub batch_list : Edition → Handler → List ℕ → List ℕ → List ℕ
  pub write_answer : List Input → List ℕ → ℤ
  pub write_buffer : List Input → List ℕ → List ℕ

-- they satisfy the sentences
pub record Satisfies (l : Library) : Type 0 where
  pub making : Making l.new
  pub replays : Replays l.batch_state l.batch_answer l.batch_list
  -- the tick that is called is the tick of the batches
  pub tick : (h : Handler) (x : Input) → l.tick h x ≡ (replays.tick h x).handler
  pub output : (h : Handler) (x : Input) → l.output h x ≡ (replays.tick h x).output
  pub answer : (h : Handler) (x : Input) → l.answer h x ≡ replays.number (replays.tick h x).answer
  pub writer : Writer l.write_answer l.write_buffer

-- ── calls, what each gives back, and the state that it leaves ──

pub data Call : Type 0 where
  make : ℕ → Call
  step : Input → Call
  replay : Edition → List ℕ → List ℕ → Call
  record_all : List Input → List ℕ → Call

-- what the C types can hold
pub data Typed : Call → Type 0 where
  any_count : {n : ℕ} → Typed (make n)
  any_input : {x : Input} → Typed (step x)
  all_bytes : {e : Edition} {bytes out : List ℕ} → ((i : ℕ) → get_or bytes i 0 ≤ 255) → Typed (replay e bytes out)
  all_arrays : {xs : List Input} {buffer : List ℕ} → ((i : ℕ) → i < length xs → Arrays (entry xs i)) → Typed (record_all xs buffer)

pub data AllTyped : List Call → Type 0 where
  none : AllTyped []
  one : {c : Call} {cs : List Call} → Typed c → AllTyped cs → AllTyped (c ∷ cs)

-- what a caller gets: the number, the outputs of a tick, and the words or bytes in what it lent
pub record Got : Type 0 where
  pub number : ℤ
  pub output : Output
  pub lent : List ℕ

-- a call that runs no tick has no outputs: interrupts and lines 0, all pairs (0,1)
abbrev pub low : Wires
low =
    record {
      pos = 0 ∷ 0 ∷ 0 ∷ 0 ∷ [];
      neg = 18446744073709551615 ∷ 18446744073709551615 ∷ 18446744073709551615 ∷ 18446744073709551615 ∷ [];
    }

abbrev pub off : Output
off = record { interrupts = 0; lines = 0; acknowledge = low; ping = low; escalation = record { pos = 0; neg = 15 } }

abbrev pub got : Library → Handler → Call → Got
got l h (make n) = record { number = (l.new n).answer; output = off; lent = [] }
got l h (step x) = record { number = l.answer h x; output = l.output h x; lent = [] }
got l h (replay e bytes out) = record { number = l.batch_answer e h bytes out; output = off; lent = l.batch_list e h bytes out }
got l h (record_all xs buffer) = record { number = l.write_answer xs buffer; output = off; lent = l.write_buffer xs buffer }

abbrev pub leaves : Library → Handler → Call → Handler
leaves l h (make n) = (l.new n).handler
leaves l h (step x) = l.tick h x
leaves l h (replay e bytes out) = l.batch_state e h bytes out
leaves l h (record_all xs buffer) = h

-- all that a sequence of calls gives
unfoldable pub all : Library → Handler → List Call → List Got
all l h [] = []
all l h (c ∷ cs) = got l h c ∷ all l (leaves l h c) cs

-- and the state that it leaves
unfoldable pub last : Library → Handler → List Call → Handler
last l h [] = h
last l h (c ∷ cs) = last l (leaves l h c) cs

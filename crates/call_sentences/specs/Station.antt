-- All that a station can call, in C's own numbers: a library whose calls satisfy the sentences.
-- Assumes nothing.
use Rattle.std.specs.Prelude.{ℕ, ◌≤◌, ◌≡◌, List, [], ◌∷◌, ℤ, pos, get_or}
use Rattle.boundary.specs.declared.Wired.{Wired}
use Rattle.link_rules.specs.declared.LineReceivers.{LineReceivers}
use Rattle.link_rules.specs.declared.Listened.{Listened}
use Rattle.trace_rules.specs.declared.Edition.{Edition}
use Rattle.rules.specs.declared.Handler.{Handler}
use Rattle.rules.specs.declared.Input.{Input}
use Rattle.rules.specs.declared.Made.{Made}
use Rattle.rules.specs.declared.Output.{Output}
use Rattle.trace_sentences.specs.Library.{Library, Satisfies, off}
use Rattle.call_sentences.specs.Arguments.{TickInputs, Lists, Words, WriteCalls}
use Rattle.call_sentences.specs.Hearing.{Told, Hears}
use Rattle.call_sentences.specs.Receiving.{Receiving}

pub record Station : Type 0 where
  pub new : ℕ → Made
  pub tick_state : Handler → ℕ → ℕ → ℕ → Wired → Handler
  pub tick_answer : Handler → ℕ → ℕ → ℕ → Wired → ℤ
  pub tick_output : Handler → ℕ → ℕ → ℕ → Wired → Output
  pub hear_told : Handler → ℕ → ℕ → ℕ → Wired → Told
  pub hear_answer : Handler → ℕ → ℕ → ℕ → Wired → ℤ
  pub batch_state : Edition → Handler → List ℕ → List ℕ → Handler
  pub batch_answer : Edition → Handler → List ℕ → List ℕ → ℤ
  pub batch_list : Edition → Handler → List ℕ → List ℕ → List ℕ
  pub write_answer : Lists → List ℕ → ℤ
  pub write_buffer : Lists → List ℕ → List ℕ
  pub receive : LineReceivers → ℕ → ℕ → Listened

pub record Sound (c : Station) : Type 0 where
  -- a library of the sentences stands behind it
  pub behind : Library
  pub sound : Satisfies behind
  pub new : (n : ℕ) → c.new n ≡ behind.new n
  -- a tick is the library's, of the input that the numbers name
  pub input : ℕ → ℕ → ℕ → Wired → Input
  pub inputs : TickInputs input
  pub tick_state : (h : Handler) (k r v : ℕ) (w : Wired) → c.tick_state h k r v w ≡ behind.tick h (input k r v w)
  pub tick_answer : (h : Handler) (k r v : ℕ) (w : Wired) → c.tick_answer h k r v w ≡ behind.answer h (input k r v w)
  pub tick_output : (h : Handler) (k r v : ℕ) (w : Wired) → c.tick_output h k r v w ≡ behind.output h (input k r v w)
  -- what that tick hears, and its answer
  pub hear_told : (h : Handler) (k r v : ℕ) (w : Wired) → Hears sound.replays.ticks.step1 h (input k r v w) (c.hear_told h k r v w)
  pub hear_answer : (h : Handler) (k r v : ℕ) (w : Wired) → c.hear_answer h k r v w ≡ behind.answer h (input k r v w)
  -- a batch is the library's
  pub batch_state : (e : Edition) (h : Handler) (bytes out : List ℕ) → c.batch_state e h bytes out ≡ behind.batch_state e h bytes out
  pub batch_answer : (e : Edition) (h : Handler) (bytes out : List ℕ) → c.batch_answer e h bytes out ≡ behind.batch_answer e h bytes out
  pub batch_list : (e : Edition) (h : Handler) (bytes out : List ℕ) → c.batch_list e h bytes out ≡ behind.batch_list e h bytes out
  pub writes : WriteCalls c.write_answer c.write_buffer
  pub receives : Receiving c.receive

-- ── calls ──

pub data Call : Type 0 where
  make : ℕ → Call
  step : ℕ → ℕ → ℕ → Wired → Call
  hear : ℕ → ℕ → ℕ → Wired → Call
  replay : Edition → List ℕ → List ℕ → Call
  write : Lists → List ℕ → Call
  listen : LineReceivers → ℕ → ℕ → Call

-- bytes are bytes, wires are in words of 64 bits and entropy words have 32: what the C types say
pub data Typed : Call → Type 0 where
  any_count : {n : ℕ} → Typed (make n)
  any_step : {k r v : ℕ} {w : Wired} → Typed (step k r v w)
  any_hear : {k r v : ℕ} {w : Wired} → Typed (hear k r v w)
  all_bytes : {e : Edition} {bytes out : List ℕ} → ((i : ℕ) → get_or bytes i 0 ≤ 255) → Typed (replay e bytes out)
  all_words : {l : Lists} {buffer : List ℕ} → Words l → Typed (write l buffer)
  any_listen : {r : LineReceivers} {p m : ℕ} → Typed (listen r p m)

pub data AllTyped : List Call → Type 0 where
  none : AllTyped []
  one : {c : Call} {cs : List Call} → Typed c → AllTyped cs → AllTyped (c ∷ cs)

-- what a caller gets back: the number, the outputs of a tick, what it hears, what was lent, what the lines' receivers give; and the state that the call leaves
pub record Got : Type 0 where
  pub number : ℤ
  pub output : Output
  pub told : Told
  pub lent : List ℕ
  pub listened : Listened
  pub state : Handler

-- a call that is not asked what a tick hears tells nothing
abbrev pub untold : Told
untold = record { events = []; answers = []; locals = 0 }

-- one that is not of the lines' receivers gives nothing of them
abbrev pub unlistened : Listened
unlistened = record { receivers = record { last = 0; deep = 0; answer = 0; broken = 0 }; positive = 0; negative = 0; seen = 0 }

abbrev pub got : Station → Handler → Call → Got
got c h (make n) = record { number = (c.new n).answer; output = off; told = untold; lent = []; listened = unlistened; state = (c.new n).handler }
got c h (step k r v w) = record { number = c.tick_answer h k r v w; output = c.tick_output h k r v w; told = untold; lent = []; listened = unlistened; state = c.tick_state h k r v w }
got c h (hear k r v w) = record { number = c.hear_answer h k r v w; output = off; told = c.hear_told h k r v w; lent = []; listened = unlistened; state = h }
got c h (replay e bytes out) =
    record { number = c.batch_answer e h bytes out; output = off; told = untold; lent = c.batch_list e h bytes out; listened = unlistened; state = c.batch_state e h bytes out }
got c h (write l buffer) = record { number = c.write_answer l buffer; output = off; told = untold; lent = c.write_buffer l buffer; listened = unlistened; state = h }
got c h (listen r p m) = record { number = pos 0; output = off; told = untold; lent = []; listened = c.receive r p m; state = h }

-- all that a sequence of calls gives, each on the state that the one before it left
unfoldable pub all : Station → Handler → List Call → List Got
all c h [] = []
all c h (x ∷ xs) = got c h x ∷ all c (got c h x).state xs

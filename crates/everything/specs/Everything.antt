-- Everything: all sentences of documents 01 and 02, joined. A library is what a caller in C can call, in C's own numbers; one of which this record holds is as the
-- documents say, in every call. proofs/ shows that what the boundary's contracts cite is such a library (`holds_everything`), and that no sequence of calls tells two of
-- them apart (`only_everything`), so that no sentence is missing. Each field names the page whose sentences it takes; no page cites a definition of the rules.
-- Assumes nothing.
use Rattle.std.specs.Prelude.{ℕ, ◌≡◌, List, ℤ}
use Rattle.batch.specs.declared.Batched.{Batched}
use Rattle.boot_sentences.specs.Boots.{Installer}
use Rattle.boundary.specs.declared.Wired.{Wired}
use Rattle.call_sentences.specs.Arguments.{TickInputs, Lists, WriteCalls}
use Rattle.call_sentences.specs.Hearing.{told_of, Hears}
use Rattle.call_sentences.specs.Receiving.{Receiving}
use Rattle.calm_rules.specs.declared.Calmed.{Calmed}
use Rattle.calm_sentences.specs.Calms.{Calms}
use Rattle.dump_rules.specs.declared.Content.{Content}
use Rattle.dump_sentences.specs.Dumpers as dumpers
use Rattle.handler.specs.declared.account.Account.{Account}
use Rattle.handler.specs.declared.tick.Answered.{Answered}
use Rattle.link_rules.specs.declared.LineReceivers.{LineReceivers}
use Rattle.link_rules.specs.declared.Listened.{Listened}
use Rattle.policy.specs.declared.Installed.{Installed}
use Rattle.rules.specs.declared.Answer.{Answer}
use Rattle.rules.specs.declared.Handler.{Handler}
use Rattle.rules.specs.declared.Input.{Input}
use Rattle.rules.specs.declared.Made.{Made}
use Rattle.rules.specs.declared.Ticked.{Ticked}
use Rattle.rules.specs.declared.Wires.{Wires}
use Rattle.sentences.specs.Making.{Making}
use Rattle.sentences.specs.Whole.{Whole}
use Rattle.trace_rules.specs.declared.Edition.{Edition}
use Rattle.trace_sentences.specs.BatchTicks.{Batches}
use Rattle.trace_sentences.specs.RecordBits.{Reader}
use Rattle.trace_sentences.specs.Words.{Words}

-- the calls of include/tarravane.h: what each gives back, and apart from it what it leaves in the list or buffer that it was lent
pub record Library : Type 0 where
  -- tarravane_new, _tick, _hear: an access goes in as kind, register and value
  pub new : ℕ → Made
  pub tick : Handler → ℕ → ℕ → ℕ → Wired → Answered
  pub hear : Handler → ℕ → ℕ → ℕ → Wired → Account
  -- tarravane_batch_24, _70, _pings, _wires: the bytes, and the lent list of words
  pub batch : Edition → Handler → List ℕ → List ℕ → Batched
  pub batch_words : Edition → Handler → List ℕ → List ℕ → List ℕ
  -- tarravane_record: the ticks as eight lists, and the lent buffer
  pub write : Lists → List ℕ → ℤ
  pub write_bytes : Lists → List ℕ → List ℕ
  -- tarravane_receive: the four receivers, and the positive and negative wires of their pairs
  pub receive : LineReceivers → ℕ → ℕ → Listened
  -- tarravane_install: the lifecycle's number
  pub install : ℕ → Handler → Installed
  -- tarravane_calm: the wires, the ticks, and the lent list of changes
  pub calm : Handler → Wires → ℕ → List ℕ → Calmed
  pub calm_words : Handler → Wires → ℕ → List ℕ → List ℕ
  -- tarravane_dump and _read_dump: the lent buffer; the bytes
  pub dump : Handler → List ℕ → ℤ
  pub dump_bytes : Handler → List ℕ → List ℕ
  pub read_dump_law : List ℕ → Content

pub record Everything (l : Library) : Type 0 where
  -- ── a new handler: sentences Making ──
  pub making : Making l.new
  -- ── "One tick, in order", with the access in it and the one signed number that comes back: sentences Whole, over all pages of that folder ──
  pub tick : Handler → Input → Ticked
  pub number : Answer → ℤ
  pub ticks : Whole tick number
  -- ── a call of a tick is the tick of what its numbers name: call_sentences Arguments ──
  pub input : ℕ → ℕ → ℕ → Wired → Input
  pub inputs : TickInputs input
  pub tick_state : (h : Handler) (k r v : ℕ) (w : Wired) → (l.tick h k r v w).handler ≡ (tick h (input k r v w)).handler
  pub tick_answer : (h : Handler) (k r v : ℕ) (w : Wired) → (l.tick h k r v w).answer ≡ number (tick h (input k r v w)).answer
  pub tick_output : (h : Handler) (k r v : ℕ) (w : Wired) → (l.tick h k r v w).output ≡ (tick h (input k r v w)).output
  -- ── what that tick hears, and its answer: call_sentences Hearing ──
  pub hears : (h : Handler) (k r v : ℕ) (w : Wired) → Hears ticks.step1 h (input k r v w) (told_of (l.hear h k r v w))
  pub hear_answer : (h : Handler) (k r v : ℕ) (w : Wired) → (l.hear h k r v w).answer ≡ number (tick h (input k r v w)).answer
  -- ── "Traces": the word of a tick, the access and sample of a record in each edition, and a batch, which is its records' ticks: trace_sentences Words,
  -- RecordBits, BatchTicks ──
  pub word : Ticked → ℕ
  pub words : Words number word
  pub read : Edition → List ℕ → Input
  pub reads : Reader read
  pub batches : Batches tick word read (λ e h bytes out. (l.batch e h bytes out).handler) (λ e h bytes out. (l.batch e h bytes out).answer) l.batch_words
  -- ── request (ii), the writer, as it is called: call_sentences Arguments over trace_sentences Writers ──
  pub writes : WriteCalls l.write l.write_bytes
  -- ── request (xi), receivers at the lines' ends: call_sentences Receiving ──
  pub receives : Receiving l.receive
  -- ── request (vi), the boot: boot_sentences Boots, over all pages of that folder ──
  pub installs : Installer l.install
  -- ── request (xii), calm ticks in one go: calm_sentences Calms, over all pages of that folder ──
  pub calms : Calms l.calm l.calm_words
  -- ── request (xiv), the dump and its reader: dump_sentences Dumpers, over all pages of that folder ──
  pub dumps : dumpers.Writer l.dump l.dump_bytes
  pub dump_reads : dumpers.Reader l.read_dump_law

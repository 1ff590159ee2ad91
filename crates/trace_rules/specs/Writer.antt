-- Request (ii): a trace writer for a list of accesses and samples, with a record for each, into a lent buffer.
-- Assumes nothing.
use Rattle.std.specs.Prelude.{ℕ, ◌*◌, ◌%◌, ◌^◌, ◌<◌, ◌≡◌, Bool, false, cond, not, ◌||◌, List, [], ◌∷◌, ◌++◌, ltb, ℤ, pos, get_or, length, drop, replicate, Ok, Err}
use Rattle.bits.specs.Bits.{bits_of}
use Rattle.bits.specs.Fields.{Fit}
use Rattle.bits.specs.Index.{place_in}
use Rattle.rules.specs.Answer.{Case, first_of, number, Verdict}
use Rattle.rules.specs.Access.{malformed}
use Rattle.trace_rules.specs.Edition.{record_bytes, alerts, has_timer}
use Rattle.trace_rules.specs.Record.{held_in, record_of, recordable, record_count, record_at}
use Rattle.rules.specs.Samples.{receive_positive, receive_negative, says_answered}
use Rattle.rules.specs.State.{words}
use Rattle.rules.specs.declared.Access.{Access}
use Rattle.rules.specs.declared.Answer.{Answer}
use Rattle.trace_rules.specs.declared.Edition.{Edition}
use Rattle.trace_rules.specs.declared.Edition.TheVariants.{Alerts64, Alerts248, Pings, Wires}
use Rattle.rules.specs.declared.Input.{Input}
use Rattle.rules.specs.declared.Receive.{Receive}
use Rattle.rules.specs.declared.Receive.TheVariants.{Pairs, Answers}
use Rattle.rules.specs.declared.Refusal.TheVariants.{NoRecord, ShortBuffer}

-- a record for each
unfoldable pub records_of : Edition → List Input → List ℕ
records_of e [] = []
records_of e (x ∷ xs) = record_of e x ++ records_of e xs

-- one of them has an access that no well-formed record holds
unfoldable pub any_unrecordable : Edition → List Input → Bool
any_unrecordable e [] = false
any_unrecordable e (x ∷ xs) = not (recordable e x.access) || any_unrecordable e xs

-- 10 for such an access, 11 for a buffer too short; 10 comes first
abbrev pub write_cases : Edition → List Input → List ℕ → List Case
write_cases e xs buffer =
    record { refusal = NoRecord; holds = any_unrecordable e xs }
    ∷ record { refusal = ShortBuffer; holds = ltb (length buffer) (length xs * record_bytes e) }
    ∷ []

unfoldable pub write_verdict : Edition → List Input → List ℕ → Verdict
write_verdict e xs buffer = first_of (write_cases e xs buffer)

-- what writing gives: the answer, and the lent buffer
pub record Written : Type 0 where
  pub answer : ℤ
  pub buffer : List ℕ

-- success answers the bytes written, and later bytes stay; refused, the lent buffer keeps its bytes
unfoldable pub write_of : Edition → Verdict → List Input → List ℕ → Written
write_of e (Ok tt) xs buffer =
    record {
      answer = pos (length xs * record_bytes e);
      buffer = records_of e xs ++ drop (length xs * record_bytes e) buffer;
    }
write_of e (Err m) xs buffer = record { answer = number (Answer.Refused m); buffer = buffer }

unfoldable pub write : Edition → List Input → List ℕ → Written
write e xs buffer = write_of e (write_verdict e xs buffer) xs buffer

-- ── what the theorems on reading and writing speak of ──

-- bytes that are whole records, none of them malformed
pub record WellFormed (e : Edition) (bytes : List ℕ) : Type 0 where
  pub whole : length bytes % record_bytes e ≡ 0
  pub byte : (i : ℕ) → get_or bytes i 0 < 2 ^ 8
  pub formed : (i : ℕ) → i < record_count e bytes → malformed (held_in e (record_at e bytes i)).access ≡ false

-- some well-formed record holds the access
abbrev pub HeldBy : Edition → Access → Type 0
HeldBy e a = (bytes : List ℕ) × (length bytes ≡ record_bytes e) × WellFormed e bytes × ((held_in e bytes).access ≡ a)

-- a sample as the handler's type has it: words of 64 for the positive and for the negative wires, an entropy word of 32 bits
pub record Wired (x : Input) : Type 0 where
  pub positive : Fit (replicate words 64) x.sample.alerts.pos
  pub negative : Fit (replicate words 64) x.sample.alerts.neg
  pub word : x.sample.word < 2 ^ 32

-- what an edition's record keeps of what comes back from the four lines: the receive pairs, or which lines' ping is answered, or nothing
abbrev pub keeps : Edition → Receive → Receive
keeps Alerts64 r = Answers 0
keeps Alerts248 r = Answers 0
keeps Pings r = Answers (bits_of 4 (says_answered r))
keeps Wires r = Pairs (bits_of 4 (receive_positive r)) (bits_of 4 (receive_negative r))

-- y is x as an edition's record gives it back: the same access, the same pair of wires of each alert that the edition speaks of, where it has the
-- timer the same word, else word 0, and what it keeps of the lines
pub record SameRead (e : Edition) (x y : Input) : Type 0 where
  pub access : y.access ≡ x.access
  pub positive : (i : ℕ) → i < alerts e → place_in y.sample.alerts.pos i ≡ place_in x.sample.alerts.pos i
  pub negative : (i : ℕ) → i < alerts e → place_in y.sample.alerts.neg i ≡ place_in x.sample.alerts.neg i
  pub word : y.sample.word ≡ cond (has_timer e) x.sample.word 0
  pub receive : y.sample.receive ≡ keeps e x.sample.receive

-- the same of each of a list
pub data AllSame (e : Edition) : List Input → List Input → Type 0 where
  no_more : AllSame e [] []
  and : {x y : Input} {xs ys : List Input} → SameRead e x y → AllSame e xs ys → AllSame e (x ∷ xs) (y ∷ ys)

pub data AllWired : List Input → Type 0 where
  none : AllWired []
  one : {x : Input} {xs : List Input} → Wired x → AllWired xs → AllWired (x ∷ xs)

-- Request (xiv), "The dump after a theft": writer and reader, in sentences: literal numbers and raw fields, and no definition of the rules.
-- Assumes nothing.
use Rattle.std.specs.Prelude.{ℕ, ◌≤◌, ◌<◌, ◌≡◌, ◌≢◌, List, [], ◌++◌, ℤ, pos, neg_ℤ, get_or, length}
use Rattle.dump_rules.specs.declared.Content.{Content}
use Rattle.rules.specs.declared.Handler.{Handler}
use Rattle.sentences.specs.Valid.{Valid}
use Rattle.dump_sentences.specs.Contents.{Shows, Nothing}
use Rattle.dump_sentences.specs.DumpBytes.{DumpOf}

-- ── the writer: h is the state, buffer the lent buffer; a is the answer, left the buffer after ──

-- "The writer refuses with 7, then 11, as in (ii)"; request (ii): "the lent buffer keeps its bytes"
pub record Refuses (m : ℕ) (buffer : List ℕ) (a : ℤ) (left : List ℕ) : Type 0 where
  pub answer : a ≡ neg_ℤ (pos m)
  pub bytes : left ≡ buffer

pub record Wrote (dump buffer : List ℕ) (a : ℤ) (left : List ℕ) : Type 0 where
  -- "as in (ii)": "Success answers the bytes written; later bytes stay"
  pub answer : a ≡ pos (length dump)
  pub bytes : (i : ℕ) → i < length dump → get_or left i 0 ≡ get_or dump i 0
  pub later : (i : ℕ) → length dump ≤ i → get_or left i 0 ≡ get_or buffer i 0
  pub lent : length left ≡ length buffer

pub record Writer (answer : Handler → List ℕ → ℤ) (left : Handler → List ℕ → List ℕ) : Type 0 where
  -- the dump of every state that refusal 7 does not meet
  pub dump : Handler → List ℕ
  pub dumps : (h : Handler) → Valid h → DumpOf h (dump h)
  -- "7, then 11"
  pub refused_7 : (h : Handler) (buffer : List ℕ) → ¬ Valid h → Refuses 7 buffer (answer h buffer) (left h buffer)
  pub refused_11 : (h : Handler) (buffer : List ℕ) → Valid h → length buffer < length (dump h) → Refuses 11 buffer (answer h buffer) (left h buffer)
  pub writes : (h : Handler) (buffer : List ℕ) → Valid h → length (dump h) ≤ length buffer → Wrote (dump h) buffer (answer h buffer) (left h buffer)

-- ── the reader ──

-- the bytes are a dump: of a state that refusal 7 does not meet
abbrev pub IsDump : List ℕ → Type 0
IsDump bytes = (h : Handler) × Valid h × DumpOf h bytes

-- "a cut start of a dump": some bytes behind them make them a dump
abbrev pub IsCut : List ℕ → Type 0
IsCut bytes = (rest : List ℕ) × (rest ≢ []) × IsDump (bytes ++ rest)

pub record ReadIs (bytes : List ℕ) (c : Content) : Type 0 where
  -- "a dump read back shows what the state held", whichever state it is the dump of
  pub dump : (h : Handler) → Valid h → DumpOf h bytes → Shows h c
  -- "the reader shows nothing of anything else: 17 for a cut start of a dump or no bytes, 16 for the rest"
  pub cut : IsCut bytes → Nothing 17 c
  pub rest : ¬ IsDump bytes → ¬ IsCut bytes → Nothing 16 c

pub record Reader (read : List ℕ → Content) : Type 0 where
  pub reads : (bytes : List ℕ) → ((i : ℕ) → get_or bytes i 0 ≤ 255) → ReadIs bytes (read bytes)
  -- "or no bytes"
  pub no_bytes : Nothing 17 (read [])
  -- "each shown content has one dump"
  pub one_dump :
      (a b : List ℕ) → ((i : ℕ) → get_or a i 0 ≤ 255) → ((i : ℕ) → get_or b i 0 ≤ 255) → (read a).answer ≡ pos 0 → read a ≡ read b → a ≡ b

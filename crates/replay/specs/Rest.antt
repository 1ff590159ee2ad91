-- "Rest bytes": those after the last whole record. They are kept, since the next read may complete the record.
-- Assumes nothing.
use Rattle.std.specs.Prelude.{ℕ, ◌*◌, ◌<◌, ◌≡◌, List, ◌++◌, take, drop}
use Rattle.trace_rules.specs.Edition.{record_bytes}
use Rattle.rules.specs.Run.{run}
use Rattle.trace_rules.specs.declared.Edition.{Edition}
use Rattle.rules.specs.declared.Handler.{Handler}
use Rattle.trace_rules.specs.Record.{inputs_of, record_count}

abbrev pub rest_of : Edition → List ℕ → List ℕ
rest_of e bytes = drop (record_count e bytes * record_bytes e) bytes

-- the first n bytes of a buffer are the rest of some bytes
pub record Kept (e : Edition) (bytes : List ℕ) (n : ℕ) (buffer : List ℕ) : Type 0 where
  pub rest : take n buffer ≡ rest_of e bytes
  pub short : n < record_bytes e

-- the whole records of some bytes are run, and the rest is kept
pub record Ran (e : Edition) (h : Handler) (bytes : List ℕ) (handler : Handler) (n : ℕ) (buffer : List ℕ) : Type 0 where
  pub state : handler ≡ run h (inputs_of e bytes)
  pub kept : Kept e bytes n buffer

-- A turn, or several: some bytes came behind those that were kept, and both are run. Which bytes come, no contract can say.
pub record Turned (e : Edition) (h : Handler) (kept : List ℕ) (handler : Handler) (n : ℕ) (buffer : List ℕ) : Type 0 where
  pub came : List ℕ
  pub ran : Ran e h (kept ++ came) handler n buffer

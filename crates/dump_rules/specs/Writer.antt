-- Request (xiv): the writer. "The writer refuses with 7, then 11, as in (ii)": either leaves the lent buffer's bytes; success answers the bytes
-- written, and later bytes stay.
-- Assumes nothing.
use Rattle.std.specs.Prelude.{ℕ, ◌≡◌, cond, List, ◌++◌, ltb, ℤ, pos, neg_ℤ, length, drop}
use Rattle.rules.specs.Valid.{valid}
use Rattle.rules.specs.declared.Handler.{Handler}
use Rattle.dump_rules.specs.Dump.{dump_of}
use Rattle.dump_rules.specs.Shown.{shown}
use Rattle.dump_rules.specs.declared.Unwritten.{Unwritten}
use Rattle.dump_rules.specs.declared.Unwritten.TheVariants.{BadState, ShortBuffer}

-- the answer, and the lent buffer after it
pub record Dumped : Type 0 where
  pub answer : ℤ
  pub buffer : List ℕ

abbrev pub unwritten_number : Unwritten → ℕ
unwritten_number BadState = 7
unwritten_number ShortBuffer = 11

abbrev pub unwritten : Unwritten → List ℕ → Dumped
unwritten u buffer = record { answer = neg_ℤ (pos (unwritten_number u)); buffer = buffer }

-- the dump at the start of the buffer
abbrev pub written : List ℕ → List ℕ → Dumped
written dump buffer = record { answer = pos (length dump); buffer = dump ++ drop (length dump) buffer }

-- 7 comes before 11
unfoldable pub write_dump : Handler → List ℕ → Dumped
write_dump h buffer =
    cond (valid h)
    (cond (ltb (length buffer) (length (dump_of (shown h)))) (unwritten ShortBuffer buffer) (written (dump_of (shown h)) buffer))
    (unwritten BadState buffer)

-- what code gives is that
pub record WroteDump (h : Handler) (buffer : List ℕ) (r : ℤ) (left : List ℕ) : Type 0 where
  pub answer : r ≡ (write_dump h buffer).answer
  pub bytes : left ≡ (write_dump h buffer).buffer

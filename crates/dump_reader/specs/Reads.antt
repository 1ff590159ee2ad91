-- A reader that has moved on over a format.
-- Assumes nothing.
use Rattle.std.specs.Prelude.{ℕ, ◌≡◌, Bool, Result, Ok, Err, drop}
use Rattle.formats.specs.BitList.{bits_of_bytes, filled}
use Rattle.formats.specs.Format.{Format, field}
use Rattle.dump_rules.specs.declared.Unread.{Unread}
use Rattle.dump_reader.specs.Steps.{step_at}
use Rattle.dump_reader.specs.declared.reader.Reader.{Reader}

-- the answer, with the place that the reader has come to
abbrev pub placed : {A : Type 0} → ℕ → Result A Unread → Result ℕ Unread
placed at (Ok a) = Ok at
placed at (Err e) = Err e

-- in the same bytes it has come to that place
pub record Came {A : Type 0} (end : Result ℕ Unread) (from to : Reader) (r : Result A Unread) : Type 0 where
  pub bytes : to.bytes.now ≡ from.bytes.now
  pub place : placed to.at r ≡ end

-- to where the format ends
abbrev pub Reads : {A B : Type 0} → Format A → Reader → Reader → Result B Unread → Type 0
Reads f from to r = Came (step_at f from.bytes.now from.at) from to r

-- over a format that begins with a number of w bits, which it answers
pub record ReadsFirst {A : Type 0} (f : Format A) (w : ℕ) (from to : Reader) (r : Result ℕ Unread) : Type 0 where
  pub reads : Reads f from to r
  pub value : (v : ℕ) → r ≡ Ok v → v ≡ filled w (drop from.at (bits_of_bytes from.bytes.now))

abbrev pub ReadsNumber : ℕ → (ℕ → Bool) → Reader → Reader → Result ℕ Unread → Type 0
ReadsNumber w ok = ReadsFirst (field w ok) w

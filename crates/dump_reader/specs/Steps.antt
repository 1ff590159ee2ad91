-- Reading by places: where a format ends, in bits of the bytes.
-- Assumes nothing.
use Rattle.std.specs.Prelude.{ℕ, ◌+◌, ◌-◌, Bool, cond, List, leb, length, drop, Result, Ok, Err}
use Rattle.formats.specs.BitList.{bits_of_bytes}
use Rattle.formats.specs.Format.{Outcome, got, cut, wrong, Format}
use Rattle.dump_rules.specs.Reader.{Seen, shows, cut_start, no_dump}
use Rattle.dump_rules.specs.declared.Unread.{Unread}
use Rattle.dump_rules.specs.declared.Unread.TheVariants.{CutDump, NoDump}

abbrev pub step_of : {A : Type 0} → ℕ → Outcome A → Result ℕ Unread
step_of t (got a rest) = Ok (t - length rest)
step_of t cut = Err CutDump
step_of t wrong = Err NoDump

-- where a format that begins at a bit ends
unfoldable pub step_at : {A : Type 0} → Format A → List ℕ → ℕ → Result ℕ Unread
step_at f bytes at = step_of (length (bits_of_bytes bytes)) (f.read (drop at (bits_of_bytes bytes)))

-- a field of w bits, where what is there of it is fine
abbrev pub step_by : ℕ → ℕ → ℕ → Bool → Result ℕ Unread
step_by bits at w fine = cond fine (cond (leb w (bits - at)) (Ok (at + w)) (Err CutDump)) (Err NoDump)

abbrev pub judged_of : Seen → Result (Unit {0}) Unread
judged_of (shows s) = Ok tt
judged_of cut_start = Err CutDump
judged_of no_dump = Err NoDump

-- What the examples of the program compute with.
-- Assumes nothing.
use Prim.Native.Nat.{ℕ}
use mathlib.Core.List.{List, [], ◌∷◌, ◌++◌}
use Rattle.bits.specs.Fields.{to_bytes, unpack}
use Rattle.text.specs.HexLines.{line_of, lines_of}
use Rattle.replay_rules.specs.Prints.{words_text, end_text, records_text, takes, start_text, behind_text, prints}
use Rattle.replay_rules.specs.Turns.{joined, turn_texts, start_texts}

-- names every definition of the program that an example computes with: `unfolding rules traces texts` opens them all
unfoldable pub texts : ℕ → ℕ
unfolding line_of lines_of unpack words_text end_text records_text takes start_text behind_text prints joined turn_texts start_texts
texts n = n

-- document 01's two records: a read of 321, a write of 1023
abbrev pub reads321 : List ℕ
reads321 = to_bytes 24 0x541000000000000000000000000000008000000000000000

abbrev pub writes1023 : List ℕ
writes1023 = to_bytes 24 0xbff000000000000000000000000000008000000000000000

-- N = 1 and both
abbrev pub document : List ℕ
document = 1 ∷ (reads321 ++ writes1023)

-- a record of 75 bytes that reads 1281, class A's CTRL, all alerts at rest, by its last byte: four zero bits and four answers, or four receive pairs
abbrev pub new_read : ℕ → List ℕ
new_read last = to_bytes 4 0x68080000 ++ (to_bytes 70 0 ++ (last ∷ []))

-- `000000000000393c`, `0010000000000000` and `0050000000000000`, each with its newline
abbrev pub line393c : List ℕ
line393c = 48 ∷ 48 ∷ 48 ∷ 48 ∷ 48 ∷ 48 ∷ 48 ∷ 48 ∷ 48 ∷ 48 ∷ 48 ∷ 48 ∷ 51 ∷ 57 ∷ 51 ∷ 99 ∷ 10 ∷ []

abbrev pub line_refused1 : List ℕ
line_refused1 = 48 ∷ 48 ∷ 49 ∷ 48 ∷ 48 ∷ 48 ∷ 48 ∷ 48 ∷ 48 ∷ 48 ∷ 48 ∷ 48 ∷ 48 ∷ 48 ∷ 48 ∷ 48 ∷ 10 ∷ []

abbrev pub line_refused5 : List ℕ
line_refused5 = 48 ∷ 48 ∷ 53 ∷ 48 ∷ 48 ∷ 48 ∷ 48 ∷ 48 ∷ 48 ∷ 48 ∷ 48 ∷ 48 ∷ 48 ∷ 48 ∷ 48 ∷ 48 ∷ 10 ∷ []

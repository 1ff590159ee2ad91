-- "Traces": what the program prints, by the bytes of its input. Texts are bytes too: 48 is `0`, 97 is `a`, 10 ends a line.
-- Assumes nothing.
use Rattle.std.specs.Prelude.{ℕ, ◌%◌, Bool, cond, not, ◌&&◌, List, [], ◌∷◌, ◌++◌, map, eqb, leb, length}
use Rattle.rules.specs.Run.{ticks}
use Rattle.rules.specs.State.{new_handler}
use Rattle.rules.specs.declared.Handler.{Handler}
use Rattle.text.specs.HexLines.{lines_of}
use Rattle.trace_rules.specs.Edition.{record_bytes, alerts}
use Rattle.trace_rules.specs.Record.{inputs_of}
use Rattle.trace_rules.specs.Word.{word_of}
use Rattle.trace_rules.specs.declared.Edition.{Edition}

-- "prints each word as 16 lower-case hex digits and a newline": the words of the ticks of the records that the bytes hold whole, from a state
unfoldable pub words_text : Edition → Handler → List ℕ → List ℕ
words_text e h bytes = lines_of (map word_of (ticks h (inputs_of e bytes)))

-- `cut` and a newline
abbrev pub cut_text : List ℕ
cut_text = 99 ∷ 117 ∷ 116 ∷ 10 ∷ []

-- `refused` and a newline
abbrev pub refused_text : List ℕ
refused_text = 114 ∷ 101 ∷ 102 ∷ 117 ∷ 115 ∷ 101 ∷ 100 ∷ 10 ∷ []

-- "Rest bytes at the end print `cut` and a newline": by how many they are
unfoldable pub end_text : ℕ → List ℕ
end_text rest = cond (eqb rest 0) [] cut_text

-- the records behind N
unfoldable pub records_text : Edition → Handler → List ℕ → List ℕ
records_text e h bytes = words_text e h bytes ++ end_text (length bytes % record_bytes e)

-- "a handler is made for N alerts, 1 to 64"; request (iii): "Raise N" to 248, "other inputs are read as before with N up to 64"
unfoldable pub takes : Edition → ℕ → Bool
takes e n = not (eqb n 0) && leb n (alerts e)

-- "a missing or refused N prints `refused` and a newline only"
unfoldable pub start_text : Edition → ℕ → List ℕ → List ℕ
start_text e n bytes = cond (takes e n) (records_text e (new_handler n) bytes) refused_text

unfoldable pub behind_text : Edition → List ℕ → List ℕ
behind_text e [] = refused_text
behind_text e (n ∷ bytes) = start_text e n bytes

-- "The program reads from standard input one byte N, then records"; request (iii): "a program input whose first byte is 255 holds N next and new
-- records"; request (ix): "first byte 254"; request (xi): "first byte 253"
unfoldable pub prints : List ℕ → List ℕ
prints [] = refused_text
prints (first ∷ bytes) =
    cond (eqb first 255) (behind_text Edition.Alerts248 bytes)
    (cond (eqb first 254) (behind_text Edition.Pings bytes)
    (cond (eqb first 253) (behind_text Edition.Wires bytes) (start_text Edition.Alerts64 first bytes)))

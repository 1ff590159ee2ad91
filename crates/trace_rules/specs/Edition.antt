-- "Traces": what is known of a trace's form, edition by edition. The edition of 248 alerts is request (iii)'s, that of pings request (ix)'s,
-- that of receive wires request (xi)'s.
-- Assumes nothing.
use Rattle.std.specs.Prelude.{ℕ, ◌+◌, ◌-◌, ◌*◌, ◌/◌, ◌%◌, Bool, true, false, cond, List, [], ◌∷◌, eqb, ltb}
use Rattle.rules.specs.Map.{stride, class_base, within, number_of}
use Rattle.trace_rules.specs.declared.Edition.{Edition}
use Rattle.trace_rules.specs.declared.Edition.TheVariants.{Alerts64, Alerts248, Pings, Wires}
use Rattle.rules.specs.declared.Register.TheVariants.{Unassigned}

-- the edition that the trace writer writes
abbrev pub newest : Edition
newest = Edition.Wires

-- the edition of a program's input, by its first byte; N is that byte itself, or the one behind a 255, a 254 or a 253
unfoldable pub edition_by : ℕ → Edition
edition_by first =
    cond (eqb first 255) Edition.Alerts248
    (cond (eqb first 254) Edition.Pings (cond (eqb first 253) Edition.Wires Edition.Alerts64))

-- the bytes of a record
abbrev pub record_bytes : Edition → ℕ
record_bytes Alerts64 = 24
record_bytes Alerts248 = 70
record_bytes Pings = 75
record_bytes Wires = 75

-- the bits of its register, and the zero bits behind it
abbrev pub register_bits : Edition → ℕ
register_bits Alerts64 = 10
register_bits Alerts248 = 11
register_bits Pings = 11
register_bits Wires = 11

abbrev pub zero_bits : Edition → ℕ
zero_bits Alerts64 = 20
zero_bits Alerts248 = 19
zero_bits Pings = 19
zero_bits Wires = 19

-- the most alerts that it speaks of: a record has a positive and a negative wire of each
abbrev pub alerts : Edition → ℕ
alerts Alerts64 = 64
alerts Alerts248 = 248
alerts Pings = 248
alerts Wires = 248

-- the widths of the fields that it has behind the wires; request (ix): "by the word, four zero bits and four answer bits"; request (xi): "four receive
-- pairs .. replace the answer byte", so that there are no zero bits behind the word
abbrev pub tail : Edition → List ℕ
tail Alerts64 = []
tail Alerts248 = []
tail Pings = 32 ∷ 4 ∷ 4 ∷ []
tail Wires = 32 ∷ 0 ∷ 8 ∷ []

-- whether it has the ping timer: its registers, the entropy word, and what answers the lines' pings
abbrev pub has_timer : Edition → Bool
has_timer Alerts64 = false
has_timer Alerts248 = false
has_timer Pings = true
has_timer Wires = true

-- whether it has the lines' receive pairs, by which the senders are checked
abbrev pub has_pairs : Edition → Bool
has_pairs Alerts64 = false
has_pairs Alerts248 = false
has_pairs Pings = false
has_pairs Wires = true

-- request (ix): "older editions keep their words": registers 4, 5 and 6 are unassigned in them
abbrev pub without_timer : ℕ → ℕ
without_timer r = cond (within 4 3 r) (number_of Unassigned) r

-- document 01's numbers: below 64 as they are, the timer's apart; the four fields of the alerts from 64, 128, 192 and 256 on, 64 alerts each;
-- the classes from 320 on; all other numbers are unassigned, also where they mean something now
unfoldable pub carried64 : ℕ → ℕ
carried64 r =
    cond (ltb r 64) (without_timer r)
    (cond (ltb r 320) (r / 64 * stride + r % 64) (cond (ltb r 384) (class_base + (r - 320)) (number_of Unassigned)))

-- the map's own numbers, the timer's apart
unfoldable pub carried248 : ℕ → ℕ
carried248 r = without_timer r

-- the map's number of the register that the edition numbers r; from request (ix) on an edition has the map's own
abbrev pub carry : Edition → ℕ → ℕ
carry Alerts64 r = carried64 r
carry Alerts248 r = carried248 r
carry Pings r = r
carry Wires r = r

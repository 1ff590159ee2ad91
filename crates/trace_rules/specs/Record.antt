-- "Traces": a record's access and sample, and the record of an access and sample.
-- Assumes nothing.
use Rattle.std.specs.Prelude.{ℕ, ◌+◌, ◌-◌, ◌*◌, ◌/◌, ◌%◌, ◌^◌, Bool, true, false, cond, ◌&&◌, List, [], ◌∷◌, ◌++◌, eqb, get_or, length, take, drop, replicate}
use Rattle.bits.specs.Bits.{bit, bits_of, fits, word_of}
use Rattle.bits.specs.Fields.{pack, unpack, of_bytes, to_bytes}
use Rattle.bits.specs.Index.{each}
use Rattle.trace_rules.specs.Edition.{record_bytes, register_bits, zero_bits, alerts, tail, carry}
use Rattle.rules.specs.Samples.{receive_positive, receive_negative, says_answered}
use Rattle.rules.specs.State.{words}
use Rattle.rules.specs.declared.Access.{Access}
use Rattle.rules.specs.declared.Access.TheVariants.{Nothing, Read, Write, Malformed}
use Rattle.trace_rules.specs.declared.Edition.{Edition}
use Rattle.trace_rules.specs.declared.Edition.TheVariants.{Alerts64, Alerts248, Pings, Wires}
use Rattle.rules.specs.declared.Input.{Input}
use Rattle.rules.specs.declared.Receive.{Receive}
use Rattle.rules.specs.declared.Receive.TheVariants.{Pairs, Answers}
use Rattle.rules.specs.declared.Sample.{Sample}

-- ── a record, most significant bit first ──

abbrev pub value_bits : ℕ
value_bits = 32

-- 2 bits kind, the register, zero bits, 32 bits value
abbrev pub head : Edition → List ℕ
head e = 2 ∷ register_bits e ∷ zero_bits e ∷ value_bits ∷ []

-- the positive wires with alert 0 first, the negative wires
abbrev pub wires : Edition → List ℕ
wires e = alerts e ∷ alerts e ∷ []

abbrev pub layout : Edition → List ℕ
layout e = head e ++ (wires e ++ tail e)

-- kind: 0 none, 1 read, 2 write; malformed: kind 3, a read with a value, kind 0 with a register or value
unfoldable pub access_of : ℕ → ℕ → ℕ → Access
access_of kind register value =
    cond (eqb kind 0) (cond (eqb register 0 && eqb value 0) Access.Nothing Access.Malformed)
    (cond (eqb kind 1) (cond (eqb value 0) (Access.Read register) Access.Malformed)
    (cond (eqb kind 2) (Access.Write register value) Access.Malformed))

-- whether all zero bits of a record are zero, by the fields hs of its head and ts of its tail: where it has zero bits behind the word, those too
abbrev pub clear : List ℕ → List ℕ → Bool
clear hs ts = eqb (get_or hs 2 0) 0 && eqb (get_or ts 1 0) 0

-- malformed too: a nonzero bit among the zero bits
abbrev pub access_in : List ℕ → List ℕ → Access
access_in hs ts = cond (clear hs ts) (access_of (get_or hs 0 0) (get_or hs 1 0) (get_or hs 3 0)) Access.Malformed

-- n wires as words of 64, the first wire at the highest bit of the first word, and back
abbrev pub wire_words : ℕ → ℕ → List ℕ
wire_words n wires = unpack (replicate words 64) (wires * 2 ^ (64 * words - n))

abbrev pub wires_of : ℕ → List ℕ → ℕ
wires_of n ws = pack (replicate words 64) ws / 2 ^ (64 * words - n)

-- the entropy word, by the fields ts of the tail: without it word 0
abbrev pub word_in : List ℕ → ℕ
word_in ts = get_or ts 0 0

-- request (ix): "four answer bits, line 0 first"; in a sample line 0 is lowest
unfoldable pub answers_of : ℕ → ℕ
answers_of x = bits_of 4 (λ l. bit x (3 - l))

-- request (xi): "four receive pairs, line 0 and positive wire first"; in a sample line 0 is lowest, in the positive wires and in the negative ones
unfoldable pub positives_of : ℕ → ℕ
positives_of x = bits_of 4 (λ l. bit x (7 - 2 * l))

unfoldable pub negatives_of : ℕ → ℕ
negatives_of x = bits_of 4 (λ l. bit x (7 - (2 * l + 1)))

-- what comes back from the lines, by the last field of the tail; "older editions run as in (ix), senders unchecked", and the oldest have no answer
abbrev pub receive_of : Edition → ℕ → Receive
receive_of Alerts64 x = Answers 0
receive_of Alerts248 x = Answers 0
receive_of Pings x = Answers (answers_of x)
receive_of Wires x = Pairs (positives_of x) (negatives_of x)

-- by the fields of the head, the wires and the tail
abbrev pub input_of_parts : Edition → List ℕ → List ℕ → List ℕ → Input
input_of_parts e hs ws ts =
    record {
      access = access_in hs ts;
      sample =
          record {
            alerts = record { pos = wire_words (alerts e) (get_or ws 0 0); neg = wire_words (alerts e) (get_or ws 1 0) };
            word = word_in ts;
            receive = receive_of e (get_or ts 2 0);
          };
    }

abbrev pub input_of_fields : Edition → List ℕ → Input
input_of_fields e fs = input_of_parts e (take 4 fs) (take 2 (drop 4 fs)) (drop 6 fs)

-- what a record's bytes hold, with the edition's own register number
unfoldable pub held_in : Edition → List ℕ → Input
held_in e bytes = input_of_fields e (unpack (layout e) (of_bytes bytes))

abbrev pub carried : Edition → Access → Access
carried e Nothing = Access.Nothing
carried e (Read r) = Access.Read (carry e r)
carried e (Write r v) = Access.Write (carry e r) v
carried e Malformed = Access.Malformed

-- the access and sample of a record's bytes
unfoldable pub input_of : Edition → List ℕ → Input
input_of e bytes = record { access = carried e (held_in e bytes).access; sample = (held_in e bytes).sample }

-- ── the record of an access and sample (request (ii)) ──

abbrev pub kind_of : Access → ℕ
kind_of Nothing = 0
kind_of (Read r) = 1
kind_of (Write r v) = 2
kind_of Malformed = 3

abbrev pub register_of : Access → ℕ
register_of Nothing = 0
register_of (Read r) = r
register_of (Write r v) = r
register_of Malformed = 0

abbrev pub value_of : Access → ℕ
value_of Nothing = 0
value_of (Read r) = 0
value_of (Write r v) = v
value_of Malformed = 0

-- the fields of the head, the wires and the tail
abbrev pub head_fields : Access → List ℕ
head_fields a = kind_of a ∷ register_of a ∷ 0 ∷ value_of a ∷ []

abbrev pub wire_fields : Edition → Sample → List ℕ
wire_fields e s = wires_of (alerts e) s.alerts.pos ∷ wires_of (alerts e) s.alerts.neg ∷ []

-- four answer bits, line 0 first
unfoldable pub answer_bits : Receive → ℕ
answer_bits r = word_of 4 (says_answered r)

-- four receive pairs, line 0 and positive wire first
unfoldable pub pair_bits : Receive → ℕ
pair_bits r = word_of 8 (λ i. cond (eqb (i % 2) 0) (receive_positive r (i / 2)) (receive_negative r (i / 2)))

abbrev pub tail_fields : Edition → Sample → List ℕ
tail_fields Alerts64 s = []
tail_fields Alerts248 s = []
tail_fields Pings s = s.word ∷ 0 ∷ answer_bits s.receive ∷ []
tail_fields Wires s = s.word ∷ 0 ∷ pair_bits s.receive ∷ []

abbrev pub fields_of_input : Edition → Input → List ℕ
fields_of_input e x = head_fields x.access ++ (wire_fields e x.sample ++ tail_fields e x.sample)

-- the bytes of the record
unfoldable pub record_of : Edition → Input → List ℕ
record_of e x = to_bytes (record_bytes e) (pack (layout e) (fields_of_input e x))

-- whether a well-formed record holds the access
unfoldable pub recordable : Edition → Access → Bool
recordable e Nothing = true
recordable e (Read r) = fits (register_bits e) r
recordable e (Write r v) = fits (register_bits e) r && fits value_bits v
recordable e Malformed = false

-- ── records one after another ──

-- how many records the bytes hold, record i's bytes, and the inputs of them all
abbrev pub record_count : Edition → List ℕ → ℕ
record_count e bytes = length bytes / record_bytes e

abbrev pub record_at : Edition → List ℕ → ℕ → List ℕ
record_at e bytes i = take (record_bytes e) (drop (i * record_bytes e) bytes)

unfoldable pub inputs_of : Edition → List ℕ → List Input
inputs_of e bytes = each (record_count e bytes) (λ i. input_of e (record_at e bytes i))

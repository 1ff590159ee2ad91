-- The parts of a record that the code reads one after another.
-- Assumes nothing.
use Rattle.std.specs.Prelude.{ℕ, ◌+◌, ◌-◌, ◌/◌, ◌%◌, ◌^◌, List, [], ◌∷◌, get_or, take, drop}
use Rattle.bits.specs.Fields.{total, unpack, of_bytes}
use Rattle.trace_rules.specs.Edition.{alerts, tail}
use Rattle.rules.specs.declared.Wires.{Wires}
use Rattle.trace_rules.specs.Record.{head, wire_words}
use Rattle.trace_rules.specs.declared.Edition.{Edition}
use Rattle.trace.specs.declared.record.Head.{Head}
use Rattle.trace.specs.declared.record.Tail.{Tail}

-- the bytes of the positive wires, and of the negative ones
abbrev pub wire_bytes : Edition → ℕ
wire_bytes e = alerts e / 8

-- n positive wires in m bytes from a place on, and the negative ones behind them
abbrev pub wires_from : ℕ → ℕ → ℕ → List ℕ → Wires
wires_from n m at xs = record { pos = wire_words n (of_bytes (take m (drop at xs))); neg = wire_words n (of_bytes (take m (drop (at + m) xs))) }

-- the bytes behind the wires
abbrev pub tail_bytes : Edition → ℕ
tail_bytes e = total (tail e) / 8

-- the head in a record's first 64 bits, where the register field begins at bit at: kind, register, zero bits, value
abbrev pub head_at : ℕ → ℕ → Head
head_at at first = record { kind = first / 2 ^ 62; register = first / 2 ^ at % 2 ^ (62 - at); zeros = first / 2 ^ 32 % 2 ^ (at - 32); value = first % 2 ^ 32 }

-- the same by the edition's layout; and its fields
abbrev pub head_of : Edition → ℕ → Head
head_of e first =
    let fs = unpack (head e) first in
    record { kind = get_or fs 0 0; register = get_or fs 1 0; zeros = get_or fs 2 0; value = get_or fs 3 0 }

abbrev pub fields_of : Head → List ℕ
fields_of h = h.kind ∷ h.register ∷ h.zeros ∷ h.value ∷ []

-- the fields behind the wires, by the number that they make: word, zero bits, and what comes back from the lines; all 0 where there are none
abbrev pub tail_of : Edition → ℕ → Tail
tail_of e rest =
    let ts = unpack (tail e) rest in
    record { word = get_or ts 0 0; zeros = get_or ts 1 0; lines = get_or ts 2 0 }

abbrev pub behind_of : Tail → List ℕ
behind_of t = t.word ∷ t.zeros ∷ t.lines ∷ []

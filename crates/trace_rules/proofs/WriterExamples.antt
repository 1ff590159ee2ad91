-- Worked examples that pin the trace writer of request (ii), by computation: it writes the newest record, request (xi)'s of 75 bytes.
-- Assumes nothing.
use Prim.Native.Nat.{ℕ, ◌+◌, ◌-◌, ◌*◌, ◌^◌}
use mathlib.Core.Path.{◌≡◌, refl}
use mathlib.Core.Bool.{true, false}
use mathlib.Core.List.{List, [], ◌∷◌, ◌++◌, map}
use lib.IntN.{pos}
use lib.ListN.{get_or, replicate}
use Rattle.bits.specs.Fields.{of_bytes}
use Rattle.bits.specs.Index.{each}
use Rattle.trace_rules.specs.Edition.{newest}
use Rattle.trace_rules.specs.Record.{record_of, recordable}
use Rattle.trace_rules.specs.Writer.{write}
use Rattle.rules.specs.declared.Access.{Access}
use Rattle.trace_rules.specs.declared.Edition.TheVariants.{Alerts64, Alerts248, Pings}
use Rattle.rules.specs.declared.Input.{Input}
use Rattle.rules.specs.declared.Receive.{Receive}
use Rattle.rules.specs.declared.Receive.TheVariants.{Pairs}
use Rattle.rules.specs.Scenes.{refused, ones, wire, sampling, timing, wired}
use Rattle.rules.proofs.Scenes.{rules}
use Rattle.trace_rules.proofs.TraceScenes.{traces}

-- ── one record, its bytes written out ──

-- the wires of the two records of document 01: alert 0 at (0,1), and the receive pairs at rest, which are 0x55
abbrev quiet : Access → Input
quiet a = wired 0 (wire 0) a

abbrev reads1281 : List ℕ
reads1281 = 0x68 ∷ 0x08 ∷ replicate 37 0 ++ 0x80 ∷ replicate 34 0 ++ 0x55 ∷ []

abbrev writes2047 : List ℕ
writes2047 = 0xBF ∷ 0xF8 ∷ replicate 37 0 ++ 0x80 ∷ replicate 34 0 ++ 0x55 ∷ []

two_records : (record_of newest (quiet (Access.Read 1281)) ≡ reads1281) × (record_of newest (quiet (Access.Write 2047 0)) ≡ writes2047)
unfolding rules traces
two_records = (refl, refl)

-- kind, register and value, each at its place, all wires at 0
abbrev low : Access → Input
low a = sampling 0 (Pairs 0 0) 0 0 a

places : (record_of newest (low Access.Nothing) ≡ replicate 75 0)
    × (record_of newest (low (Access.Read 1)) ≡ 0x40 ∷ 0x08 ∷ replicate 73 0)
    × (record_of newest (low (Access.Read 1024)) ≡ 0x60 ∷ replicate 74 0)
    × (record_of newest (low (Access.Write 0 1)) ≡ 0x80 ∷ replicate 6 0 ++ 1 ∷ replicate 67 0)
    × (record_of newest (low (Access.Write 0 (2 ^ 31))) ≡ 0x80 ∷ 0 ∷ 0 ∷ 0 ∷ 0x80 ∷ replicate 70 0)
unfolding rules traces
places = (refl, refl, refl, refl, refl)

-- alert 0 comes first among the positive and among the negative wires, and alert 247 last; places 248 to 255 are no wires
wires_in_order : (record_of newest (wired (wire 0) (wire 247) Access.Nothing) ≡ replicate 8 0 ++ 0x80 ∷ replicate 60 0 ++ 1 ∷ replicate 4 0 ++ 0x55 ∷ [])
    × (record_of newest (wired (wire 247) (wire 0) Access.Nothing) ≡ replicate 38 0 ++ 1 ∷ 0x80 ∷ replicate 34 0 ++ 0x55 ∷ [])
    × (record_of newest (wired 255 255 Access.Nothing) ≡ replicate 74 0 ++ 0x55 ∷ [])
unfolding rules traces
wires_in_order = (refl, refl, refl)

-- request (ix): the word behind the wires, at both its ends
words_in_order : (record_of newest (sampling 1 (Pairs 0 0) 0 0 Access.Nothing) ≡ replicate 73 0 ++ 1 ∷ 0 ∷ [])
    × (record_of newest (sampling (2 ^ 31) (Pairs 0 0) 0 0 Access.Nothing) ≡ replicate 70 0 ++ 0x80 ∷ replicate 4 0)
unfolding rules traces
words_in_order = (refl, refl)

-- request (xi): "four receive pairs, line 0 and positive wire first", each wire alone
abbrev last_of : Receive → ℕ
last_of r = get_or (record_of newest (sampling 0 r 0 0 Access.Nothing)) 74 0

pairs_in_order : (map (λ (p : ℕ). last_of (Pairs p 0)) (1 ∷ 2 ∷ 4 ∷ 8 ∷ 15 ∷ []) ≡ 0x80 ∷ 0x20 ∷ 0x08 ∷ 0x02 ∷ 0xAA ∷ [])
    × (map (λ (m : ℕ). last_of (Pairs 0 m)) (1 ∷ 2 ∷ 4 ∷ 8 ∷ 15 ∷ []) ≡ 0x40 ∷ 0x10 ∷ 0x04 ∷ 0x01 ∷ 0x55 ∷ [])
    × (last_of (Pairs 13 7) ≡ 0xDE)
unfolding rules traces
pairs_in_order = (refl, refl, refl)

-- bits 4 and up of them are left out
no_line : (map (λ (p : ℕ). last_of (Pairs p 0)) (16 ∷ 0xFFFFFFF0 ∷ 0xFFFFFFFF ∷ []) ≡ 0 ∷ 0 ∷ 0xAA ∷ [])
    × (map (λ (m : ℕ). last_of (Pairs 0 m)) (16 ∷ 0xFFFFFFF0 ∷ 0xFFFFFFFF ∷ []) ≡ 0 ∷ 0 ∷ 0x55 ∷ [])
unfolding rules traces
no_line = (refl, refl)

-- every field full: only the 19 bits are zero
full : record_of newest (sampling (2 ^ 32 - 1) (Pairs (2 ^ 32 - 1) (2 ^ 32 - 1)) ones ones (Access.Write 2047 (2 ^ 32 - 1))) ≡ 0xBF ∷ 0xF8 ∷ 0 ∷ 0 ∷ replicate 71 0xFF
unfolding rules traces
full = refl

-- most significant byte first: register 0x155, value 0x01020304, bytes 5 to 66 as wires, 67 to 70 as the word, and 71 as the receive pairs
abbrev wires_from : ℕ → ℕ
wires_from b = of_bytes (each 31 (λ i. b + i)) * 2 ^ 8

bytes_in_order : record_of newest (sampling 0x43444546 (Pairs 8 13) (wires_from 5) (wires_from 36) (Access.Write 341 0x01020304))
    ≡ 0x8A ∷ 0xA8 ∷ 0 ∷ 0 ∷ 1 ∷ 2 ∷ 3 ∷ 4 ∷ each 67 (λ i. 5 + i)
unfolding rules traces
bytes_in_order = refl

-- the record of request (ix) has the answers, line 0 first, four zero bits before them; bits 4 and up of them are left out
abbrev answers_in : ℕ → ℕ
answers_in a = get_or (record_of Pings (timing 0 a 0 0 Access.Nothing)) 74 0

answers_in_order : map answers_in (1 ∷ 2 ∷ 4 ∷ 8 ∷ 13 ∷ 16 ∷ 0xFFFFFFF0 ∷ 0xFFFFFFFF ∷ []) ≡ 8 ∷ 4 ∷ 2 ∷ 1 ∷ 11 ∷ 0 ∷ 0 ∷ 15 ∷ []
unfolding rules traces
answers_in_order = refl

-- the records of older editions have no place for a word, an answer or a receive pair
no_place : (u : ℕ) (r : Receive) (p m : ℕ) (x : Access) → (record_of Alerts64 (sampling u r p m x) ≡ record_of Alerts64 (wired p m x)) × (record_of Alerts248 (sampling u r p m x) ≡ record_of Alerts248 (wired p m x))
unfolding record_of
no_place u r p m x = (refl, refl)

-- ── "an access that no well-formed record holds" ──

held : (recordable newest Access.Nothing ≡ true)
    × (recordable newest (Access.Read 2047) ≡ true)
    × (recordable newest (Access.Write 2047 (2 ^ 32 - 1)) ≡ true)
unfolding rules traces
held = (refl, refl, refl)

not_held : (recordable newest (Access.Read 2048) ≡ false)
    × (recordable newest (Access.Read 65535) ≡ false)
    × (recordable newest (Access.Write 2048 0) ≡ false)
    × (recordable newest (Access.Write 0 (2 ^ 32)) ≡ false)
    × (recordable newest Access.Malformed ≡ false)
unfolding rules traces
not_held = (refl, refl, refl, refl, refl)

-- ── writing ──

-- "Success answers the bytes written; later bytes stay"
success : (write newest (quiet (Access.Read 1281) ∷ quiet (Access.Write 2047 0) ∷ []) (replicate 150 7 ++ 8 ∷ 9 ∷ [])
    ≡ record { answer = pos 150; buffer = reads1281 ++ writes2047 ++ 8 ∷ 9 ∷ [] })
    × (write newest (quiet (Access.Read 1281) ∷ []) (replicate 75 7) ≡ record { answer = pos 75; buffer = reads1281 })
    × (write newest [] (7 ∷ 8 ∷ []) ≡ record { answer = pos 0; buffer = 7 ∷ 8 ∷ [] })
    × (write newest [] [] ≡ record { answer = pos 0; buffer = [] })
unfolding rules traces
success = (refl, refl, refl, refl)

-- "the lent buffer keeps its bytes .. when too short, refused with 11"
too_short : (write newest (quiet (Access.Read 1281) ∷ []) (replicate 74 7) ≡ record { answer = refused 11; buffer = replicate 74 7 })
    × (write newest (quiet (Access.Read 1281) ∷ quiet (Access.Write 2047 0) ∷ []) (replicate 149 7) ≡ record { answer = refused 11; buffer = replicate 149 7 })
    × (write newest (quiet Access.Nothing ∷ []) [] ≡ record { answer = refused 11; buffer = [] })
unfolding rules traces
too_short = (refl, refl, refl)

-- "an access that no well-formed record holds is refused with 10 and the lent buffer keeps its bytes", whichever of the list it is
no_record : (write newest (quiet (Access.Read 1281) ∷ quiet (Access.Write 2047 0) ∷ quiet (Access.Read 2048) ∷ []) (replicate 225 7)
    ≡ record { answer = refused 10; buffer = replicate 225 7 })
    × (write newest (quiet Access.Malformed ∷ quiet (Access.Read 1281) ∷ []) (replicate 160 7) ≡ record { answer = refused 10; buffer = replicate 160 7 })
unfolding rules traces
no_record = (refl, refl)

-- "10 comes first"
order : (write newest (quiet (Access.Read 1281) ∷ quiet Access.Malformed ∷ []) (replicate 74 7) ≡ record { answer = refused 10; buffer = replicate 74 7 })
    × (write newest (quiet (Access.Write 0 (2 ^ 32)) ∷ []) [] ≡ record { answer = refused 10; buffer = [] })
unfolding rules traces
order = (refl, refl)

-- Worked examples that pin request (xi) in traces, by computation: the record of 75 bytes with receive pairs and its batch, and what older editions
-- have of the senders.
-- Assumes nothing.
use Prim.Native.Nat.{ℕ, ◌+◌, ◌*◌, ◌-◌, ◌^◌}
use mathlib.Core.Path.{◌≡◌, refl}
use mathlib.Core.List.{List, [], ◌∷◌, ◌++◌, map}
use lib.IntN.{ℤ, pos}
use lib.ListN.{set, replicate}
use Rattle.bits.specs.Fields.{to_bytes}
use Rattle.link_rules.specs.declared.Turn.{Turn}
use Rattle.trace_rules.specs.Batch.{Batched, batch}
use Rattle.trace_rules.specs.Edition.{edition_by, newest, carry}
use Rattle.trace_rules.specs.Record.{input_of}
use Rattle.rules.specs.State.{new_handler, with_timer, with_locals}
use Rattle.rules.specs.declared.Access.{Access}
use Rattle.trace_rules.specs.declared.Edition.{Edition}
use Rattle.trace_rules.specs.declared.Edition.TheVariants.{Alerts64, Alerts248, Pings, Wires}
use Rattle.rules.specs.declared.Handler.{Handler}
use Rattle.rules.specs.declared.Receive.{Receive}
use Rattle.rules.specs.declared.Receive.TheVariants.{Pairs}
use Rattle.rules.specs.declared.Sample.{Sample}
use Rattle.rules.specs.Scenes.{refused}
use Rattle.rules.proofs.Scenes.{rules}
use Rattle.trace_rules.proofs.TraceScenes.{traces}

-- "first byte 253"; request (ix): "first byte 254"; request (iii): "first byte is 255"; "other inputs are read as before"
first_bytes : map edition_by (0 ∷ 1 ∷ 64 ∷ 65 ∷ 252 ∷ 253 ∷ 254 ∷ 255 ∷ [])
    ≡ Alerts64 ∷ Alerts64 ∷ Alerts64 ∷ Alerts64 ∷ Alerts64 ∷ Wires ∷ Pings ∷ Alerts248 ∷ []
unfolding rules traces
first_bytes = refl

-- ── the record of 75 bytes ──

-- of a first and a second 32-bit half, positive and negative wires, an entropy word and a last byte
abbrev bytes : ℕ → ℕ → ℕ → ℕ → ℕ → ℕ → List ℕ
bytes a b p m u l = to_bytes 75 (((((a * 2 ^ 32 + b) * 2 ^ 248 + p) * 2 ^ 248 + m) * 2 ^ 32 + u) * 2 ^ 8 + l)

abbrev access_in : ℕ → ℕ → ℕ → Access
access_in a b l = (input_of newest (bytes a b 0 0 0 l)).access

abbrev sample_in : ℕ → ℕ → ℕ → ℕ → Sample
sample_in p m u l = (input_of newest (bytes 0 0 p m u l)).sample

abbrev receive_in : ℕ → Receive
receive_in l = (sample_in 0 0 0 l).receive

-- the first 74 bytes are those of the record before
kinds : (access_in 0 0 0 ≡ Access.Nothing)
    × (access_in 0x68080000 0 0 ≡ Access.Read 1281)
    × (access_in 0x7FF80000 0 0 ≡ Access.Read 2047)
    × (access_in 0xA8280000 0x10000 0 ≡ Access.Write 1285 65536)
    × (access_in 0xBFF80000 0xFFFFFFFF 0 ≡ Access.Write 2047 4294967295)
unfolding rules traces
kinds = (refl, refl, refl, refl, refl)

malformed : (map (λ (n : ℕ). access_in n 0 0x55) (0xC0000000 ∷ 0x80040000 ∷ 0x80000001 ∷ 0x00040000 ∷ 0x00000001 ∷ 0x00080000 ∷ []) ≡ replicate 6 Access.Malformed)
    × (access_in 0x68080000 1 0x55 ≡ Access.Malformed)
    × (access_in 0 1 0x55 ≡ Access.Malformed)
unfolding rules traces
malformed = (refl, refl, refl)

wires : ((sample_in (2 ^ 247) 1 0 0).alerts.pos ≡ 2 ^ 63 ∷ 0 ∷ 0 ∷ 0 ∷ [])
    × ((sample_in (2 ^ 247) 1 0 0).alerts.neg ≡ 0 ∷ 0 ∷ 0 ∷ 2 ^ 8 ∷ [])
    × ((sample_in 0 0 (2 ^ 32 - 1) 255).alerts.neg ≡ replicate 4 0)
unfolding rules traces
wires = (refl, refl, refl)

words : (map (λ (u : ℕ). (sample_in 0 0 u 0).word) (0 ∷ 1 ∷ 0x12345678 ∷ 0x80000000 ∷ 0xFFFFFFFF ∷ []) ≡ 0 ∷ 1 ∷ 0x12345678 ∷ 0x80000000 ∷ 0xFFFFFFFF ∷ [])
    × ((sample_in (2 ^ 248 - 1) (2 ^ 248 - 1) 0 255).word ≡ 0)
    × ((sample_in 0 0 (2 ^ 32 - 1) 0).receive ≡ Pairs 0 0)
unfolding rules traces
words = (refl, refl, refl)

-- "four receive pairs, line 0 and positive wire first": p0 n0 p1 n1 p2 n2 p3 n3 from the most significant bit; each wire alone, all at rest, all on,
-- all equal, and one byte of several
pairs : (map receive_in (0x80 ∷ 0x20 ∷ 0x08 ∷ 0x02 ∷ []) ≡ Pairs 1 0 ∷ Pairs 2 0 ∷ Pairs 4 0 ∷ Pairs 8 0 ∷ [])
    × (map receive_in (0x40 ∷ 0x10 ∷ 0x04 ∷ 0x01 ∷ []) ≡ Pairs 0 1 ∷ Pairs 0 2 ∷ Pairs 0 4 ∷ Pairs 0 8 ∷ [])
    × (map receive_in (0x55 ∷ 0xAA ∷ 0 ∷ 0xFF ∷ 0x47 ∷ []) ≡ Pairs 0 15 ∷ Pairs 15 0 ∷ Pairs 0 0 ∷ Pairs 15 15 ∷ Pairs 8 13 ∷ [])
unfolding rules traces
pairs = (refl, refl, refl)

-- no bit of it is a zero bit: none makes a write, a read or no access malformed
no_zero_bits : (map (access_in 0x80000000 0) (1 ∷ 2 ∷ 4 ∷ 8 ∷ 0x10 ∷ 0x20 ∷ 0x40 ∷ 0x80 ∷ 0xFF ∷ []) ≡ replicate 9 (Access.Write 0 0))
    × (map (access_in 0x68080000 0) (1 ∷ 2 ∷ 4 ∷ 8 ∷ 0x10 ∷ 0x20 ∷ 0x40 ∷ 0x80 ∷ 0xFF ∷ []) ≡ replicate 9 (Access.Read 1281))
    × (map (access_in 0 0) (1 ∷ 2 ∷ 4 ∷ 8 ∷ 0x10 ∷ 0x20 ∷ 0x40 ∷ 0x80 ∷ 0xFF ∷ []) ≡ replicate 9 Access.Nothing)
unfolding rules traces
no_zero_bits = (refl, refl, refl)

-- ── batches of it ──

abbrev given : Batched → ℤ
given b = b.answer

abbrev runs : Handler → List ℕ → Batched
runs h records = batch newest h records (replicate 6 7)

-- "8 reads 75"; 7 and 9 as before
abbrev uneven : ℕ → ℤ
uneven n = given (batch newest (new_handler 1) (replicate n 0) (replicate 9 7))

refusals : (map uneven (1 ∷ 3 ∷ 5 ∷ 15 ∷ 25 ∷ 70 ∷ 74 ∷ 76 ∷ 100 ∷ []) ≡ replicate 9 (refused 8))
    × (map uneven (0 ∷ 75 ∷ 150 ∷ []) ≡ replicate 3 (pos 0))
    × (given (batch newest (new_handler 249) [] []) ≡ refused 7)
    × (given (batch newest (new_handler 248) [] []) ≡ pos 0)
    × (batch newest (new_handler 1) (replicate 150 0) (7 ∷ []) ≡ record { handler = new_handler 1; answer = refused 9; out = 7 ∷ [] })
unfolding rules traces
refusals = (refl, refl, refl, refl, refl)

-- the registers of the timer are reached, and numbers are the map's own
reached : (map (λ (a : ℕ). (runs (new_handler 1) (bytes a 0 0 0 0 0x55)).out) (0x40200000 ∷ 0x40280000 ∷ 0x40300000 ∷ [])
    ≡ (1 ∷ replicate 5 7) ∷ (0 ∷ replicate 5 7) ∷ (0 ∷ replicate 5 7) ∷ [])
    × (map (carry newest) (0 ∷ 4 ∷ 5 ∷ 6 ∷ 64 ∷ 320 ∷ 384 ∷ 2047 ∷ []) ≡ 0 ∷ 4 ∷ 5 ∷ 6 ∷ 64 ∷ 320 ∷ 384 ∷ 2047 ∷ [])
unfolding rules traces
reached = (refl, refl)

-- ── the senders, checked and unchecked ──

-- local 3 is enabled; its cause, register 43, read in the second tick
abbrev watching : Handler
watching = with_locals (record { regwen = replicate 7 1; en = set (replicate 7 0) 3 1; class = replicate 7 0; cause = replicate 7 0 }) (new_handler 1)

abbrev cause_after : Edition → List ℕ → List ℕ → List ℕ
cause_after e first second = (batch e watching (first ++ second) (replicate 2 7)).out

abbrev checked : ℕ → List ℕ
checked l = cause_after newest (bytes 0 0 0 0 0 l) (bytes 0x41580000 0 0 0 0 0x55)

-- at rest nothing occurs; a pair that answers with nothing to answer, and equal wires of any of the four pairs, make local 3 occur
faults : (checked 0x55 ≡ 0 ∷ 0 ∷ [])
    × (map checked (0x95 ∷ 0x65 ∷ 0x59 ∷ 0x56 ∷ []) ≡ replicate 4 (0 ∷ 1 ∷ []))
    × (map checked (0x15 ∷ 0x45 ∷ 0x51 ∷ 0x54 ∷ []) ≡ replicate 4 (0 ∷ 1 ∷ []))
    × (map checked (0xD5 ∷ 0x75 ∷ 0x5D ∷ 0x57 ∷ []) ≡ replicate 4 (0 ∷ 1 ∷ []))
unfolding rules traces
faults = (refl, refl, refl, refl)

-- "older editions run as in (ix), senders unchecked": whatever the last byte of a 254 record, and in the records that have none
unchecked : (map (λ (l : ℕ). cause_after Pings (bytes 0 0 0 0 0 l) (bytes 0x41580000 0 0 0 0 0)) (0 ∷ 5 ∷ 10 ∷ 15 ∷ 0x55 ∷ []) ≡ (0 ∷ 0 ∷ []) ∷ (0 ∷ 0 ∷ []) ∷ (0 ∷ 0 ∷ []) ∷ (0 ∷ 0 ∷ []) ∷ (0x0050000000000000 ∷ 0 ∷ []) ∷ [])
    × (cause_after Alerts248 (replicate 70 0) (to_bytes 70 (0x41580000 * 2 ^ 528)) ≡ 0 ∷ 0 ∷ [])
    × (cause_after Alerts64 (replicate 24 0) (to_bytes 24 (0x42B00000 * 2 ^ 160)) ≡ 0 ∷ 0 ∷ [])
unfolding rules traces
unchecked = (refl, refl, refl)

-- a malformed record's word and receive pairs act: the word of the second tick sets line 0's turn, and a fault in it makes local 3 occur
abbrev turn_of : Batched → Turn
turn_of b = b.handler.links.turn

abbrev bad_second : ℕ → Batched
bad_second l = runs watching (bytes 0x80300000 1 0 0 0 0x55 ++ bytes 0x80000001 0 0 0 0x00050007 l ++ bytes 0x41580000 0 0 0 0 0x55)

malformed_acts : ((bad_second 0x55).out ≡ 0 ∷ 0x0050000000000000 ∷ 0 ∷ replicate 3 7)
    × ((bad_second 0x95).out ≡ 0 ∷ 0x0050000000000000 ∷ 1 ∷ replicate 3 7)
    × (turn_of (bad_second 0x55) ≡ record { number = 1; alert = 5; count = 6 })
unfolding rules traces
malformed_acts = (refl, refl, refl)

-- ── older batches where the timer is on ──

abbrev timed : Handler
timed = with_timer (record { timeout = 0; regwen = 1; enable = 1 }) (new_handler 1)

-- a 254 batch runs there as one of the newest does; 24 and 70 bytes answer 7
older : map (λ (e : Edition). given (batch e timed [] [])) (Alerts64 ∷ Alerts248 ∷ Pings ∷ Wires ∷ []) ≡ refused 7 ∷ refused 7 ∷ pos 0 ∷ pos 0 ∷ []
unfolding rules traces
older = refl

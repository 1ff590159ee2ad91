-- Worked examples that pin request (ix) in traces, by computation: the record of 75 bytes and its batch, and what older editions have of the timer.
-- Assumes nothing.
use Prim.Native.Nat.{ℕ, ◌+◌, ◌*◌, ◌-◌, ◌^◌}
use mathlib.Core.Path.{◌≡◌, refl}
use mathlib.Core.List.{List, [], ◌∷◌, ◌++◌, map}
use lib.IntN.{ℤ, pos}
use lib.ListN.{replicate}
use Rattle.bits.specs.Fields.{to_bytes}
use Rattle.link_rules.specs.declared.Turn.{Turn}
use Rattle.trace_rules.specs.Batch.{Batched, batch}
use Rattle.trace_rules.specs.Edition.{carry}
use Rattle.trace_rules.specs.Record.{input_of}
use Rattle.rules.specs.State.{new_handler, with_timer}
use Rattle.rules.specs.declared.Access.{Access}
use Rattle.trace_rules.specs.declared.Edition.{Edition}
use Rattle.trace_rules.specs.declared.Edition.TheVariants.{Alerts64, Alerts248, Pings}
use Rattle.rules.specs.declared.Handler.{Handler}
use Rattle.rules.specs.declared.Receive.TheVariants.{Answers}
use Rattle.rules.specs.declared.Sample.{Sample}
use Rattle.rules.specs.Scenes.{refused}
use Rattle.rules.proofs.Scenes.{rules}
use Rattle.trace_rules.proofs.TraceScenes.{traces}

-- ── the record of 75 bytes ──

-- of a first and a second 32-bit half, positive and negative wires, an entropy word and a last byte
abbrev bytes : ℕ → ℕ → ℕ → ℕ → ℕ → ℕ → List ℕ
bytes a b p m u l = to_bytes 75 (((((a * 2 ^ 32 + b) * 2 ^ 248 + p) * 2 ^ 248 + m) * 2 ^ 32 + u) * 2 ^ 8 + l)

abbrev access_in : ℕ → ℕ → ℕ → Access
access_in a b l = (input_of Pings (bytes a b 0 0 0 l)).access

abbrev sample_in : ℕ → ℕ → ℕ → ℕ → Sample
sample_in p m u l = (input_of Pings (bytes 0 0 p m u l)).sample

-- the first 70 bytes are those of the record before
kinds : (access_in 0 0 0 ≡ Access.Nothing)
    × (access_in 0x68080000 0 0 ≡ Access.Read 1281)
    × (access_in 0x7FF80000 0 0 ≡ Access.Read 2047)
    × (access_in 0xA8280000 0x10000 0 ≡ Access.Write 1285 65536)
    × (access_in 0x80000000 0 0 ≡ Access.Write 0 0)
    × (access_in 0xBFF80000 0xFFFFFFFF 0 ≡ Access.Write 2047 4294967295)
unfolding rules traces
kinds = (refl, refl, refl, refl, refl, refl)

malformed : (map (λ (n : ℕ). access_in n 0 0) (0xC0000000 ∷ 0x80040000 ∷ 0x80000001 ∷ 0x00040000 ∷ 0x00000001 ∷ 0x00080000 ∷ []) ≡ replicate 6 Access.Malformed)
    × (access_in 0x68080000 1 0 ≡ Access.Malformed)
    × (access_in 0 1 0 ≡ Access.Malformed)
unfolding rules traces
malformed = (refl, refl, refl)

wires : ((sample_in (2 ^ 247) 1 0 0).alerts.pos ≡ 2 ^ 63 ∷ 0 ∷ 0 ∷ 0 ∷ [])
    × ((sample_in (2 ^ 247) 1 0 0).alerts.neg ≡ 0 ∷ 0 ∷ 0 ∷ 2 ^ 8 ∷ [])
    × ((sample_in 1 (2 ^ 247) 0 0).alerts.pos ≡ 0 ∷ 0 ∷ 0 ∷ 2 ^ 8 ∷ [])
    × ((sample_in 1 (2 ^ 247) 0 0).alerts.neg ≡ 2 ^ 63 ∷ 0 ∷ 0 ∷ 0 ∷ [])
unfolding rules traces
wires = (refl, refl, refl, refl)

-- "Records grow to 75 bytes by the word": both ends of it, and nothing of the wires before it or the byte behind it
words : (map (λ (u : ℕ). (sample_in 0 0 u 0).word) (0 ∷ 1 ∷ 0x12345678 ∷ 0x80000000 ∷ 0xFFFFFFFF ∷ []) ≡ 0 ∷ 1 ∷ 0x12345678 ∷ 0x80000000 ∷ 0xFFFFFFFF ∷ [])
    × ((sample_in (2 ^ 248 - 1) (2 ^ 248 - 1) 0 255).word ≡ 0)
    × ((sample_in 0 0 (2 ^ 32 - 1) 0).alerts.neg ≡ replicate 4 0)
    × ((sample_in 0 0 (2 ^ 32 - 1) 0).receive ≡ Answers 0)
unfolding rules traces
words = (refl, refl, refl, refl)

-- "four answer bits, line 0 first": line 0 is bit 3 of the last byte, and lowest in the sample
answers : map (λ (l : ℕ). (sample_in 0 0 0 l).receive) (0 ∷ 8 ∷ 4 ∷ 2 ∷ 1 ∷ 12 ∷ 14 ∷ 13 ∷ 15 ∷ []) ≡ map Answers (0 ∷ 1 ∷ 2 ∷ 4 ∷ 8 ∷ 3 ∷ 7 ∷ 11 ∷ 15 ∷ [])
unfolding rules traces
answers = refl

-- "four zero bits": each of them alone makes a write, a read and no access malformed; the answer bits do not
zero_bits : (map (access_in 0x80000000 0) (0x10 ∷ 0x20 ∷ 0x40 ∷ 0x80 ∷ 0xFF ∷ []) ≡ replicate 5 Access.Malformed)
    × (map (access_in 0x68080000 0) (0x10 ∷ 0x20 ∷ 0x40 ∷ 0x80 ∷ 0xFF ∷ []) ≡ replicate 5 Access.Malformed)
    × (map (access_in 0 0) (0x10 ∷ 0x20 ∷ 0x40 ∷ 0x80 ∷ 0xFF ∷ []) ≡ replicate 5 Access.Malformed)
    × (map (access_in 0 0) (1 ∷ 2 ∷ 4 ∷ 8 ∷ 15 ∷ []) ≡ replicate 5 Access.Nothing)
unfolding rules traces
zero_bits = (refl, refl, refl, refl)

-- and leaves the sample as it is
zero_bits_sample : (sample_in 5 9 0xFFFFFFFF 0xF8 ≡ sample_in 5 9 0xFFFFFFFF 8)
    × ((sample_in 5 9 0xFFFFFFFF 0x18).word ≡ 0xFFFFFFFF)
    × ((sample_in 5 9 0xFFFFFFFF 0x18).receive ≡ Answers 1)
unfolding rules traces
zero_bits_sample = (refl, refl, refl)

-- ── batches of it ──

abbrev given : Batched → ℤ
given b = b.answer

abbrev runs : Handler → List ℕ → Batched
runs h records = batch Pings h records (replicate 6 7)

-- "8 reads 75"; 7 and 9 as before
abbrev uneven : ℕ → ℤ
uneven n = given (batch Pings (new_handler 1) (replicate n 0) (replicate 9 7))

refusals : (map uneven (1 ∷ 3 ∷ 5 ∷ 15 ∷ 25 ∷ 70 ∷ 74 ∷ 76 ∷ 100 ∷ []) ≡ replicate 9 (refused 8))
    × (map uneven (0 ∷ 75 ∷ 150 ∷ []) ≡ replicate 3 (pos 0))
    × (given (batch Pings (new_handler 249) [] []) ≡ refused 7)
    × (given (batch Pings (new_handler 248) [] []) ≡ pos 0)
    × (given (batch Alerts64 (new_handler 1) (replicate 75 0) (replicate 9 7)) ≡ refused 8)
    × (given (batch Alerts248 (new_handler 1) (replicate 75 0) (replicate 9 7)) ≡ refused 8)
    × (batch Pings (new_handler 1) (replicate 150 0) (7 ∷ []) ≡ record { handler = new_handler 1; answer = refused 9; out = 7 ∷ [] })
unfolding rules traces
refusals = (refl, refl, refl, refl, refl, refl, refl)

-- the registers of the timer are reached: 5 by two writes, 4 by one; then each is read, and all three in a new handler
abbrev reaches : Batched
reaches =
    runs (new_handler 1)
    (bytes 0x80280000 9 0 0 0 0 ++ bytes 0x80280000 9 0 0 0 0 ++ bytes 0x80200000 0 0 0 0 0
    ++ bytes 0x40200000 0 0 0 0 0 ++ bytes 0x40280000 0 0 0 0 0)

reached : (reaches.out ≡ 0 ∷ 0 ∷ 0 ∷ 0 ∷ 9 ∷ 7 ∷ [])
    × (reaches.handler.timer ≡ record { timeout = 9; regwen = 0; enable = 0 })
    × (map (λ (a : ℕ). (runs (new_handler 1) (bytes a 0 0 0 0 0)).out) (0x40200000 ∷ 0x40280000 ∷ 0x40300000 ∷ [])
    ≡ (1 ∷ replicate 5 7) ∷ (0 ∷ replicate 5 7) ∷ (0 ∷ replicate 5 7) ∷ [])
unfolding rules traces
reached = (refl, refl, refl)

-- ── "word and answers still act" ──

-- the timer goes on with word 0, so that alert 0 is due in the next tick: it is not locked, and the word of that tick sets line 0's turn
abbrev on : List ℕ
on = bytes 0x80300000 1 0 0 0 0

abbrev turn_of : Batched → Turn
turn_of b = b.handler.links.turn

-- a malformed record's word sets a turn
word_acts : ((runs (new_handler 1) (on ++ bytes 0x80000000 0 0 0 0x00050007 0x10)).out ≡ 0 ∷ 0x0050000000000000 ∷ replicate 4 7)
    × (turn_of (runs (new_handler 1) (on ++ bytes 0x80000000 0 0 0 0x00050007 0x10)) ≡ record { number = 1; alert = 5; count = 7 })
unfolding rules traces
word_acts = (refl, refl)

-- line 0's ping opens in the third tick: a malformed record's answer of line 0 ends the turn, one of any other line does not
abbrev answered_by : ℕ → Batched
answered_by l = runs (new_handler 1) (on ++ bytes 0 0 0 0 0 0 ++ bytes 0x80000000 0 0 0 0x00050007 l)

answer_acts : ((answered_by 0x18).out ≡ 0 ∷ 0 ∷ 0x0050000000000000 ∷ replicate 3 7)
    × (turn_of (answered_by 0x18) ≡ record { number = 2; alert = 5; count = 7 })
    × ((answered_by 0x18).handler.links.lines ≡ 0)
    × (turn_of (answered_by 0x17) ≡ record { number = 1; alert = 0; count = 0 })
    × ((answered_by 0x17).handler.links.lines ≡ 1)
unfolding rules traces
answer_acts = (refl, refl, refl, refl, refl)

-- ── older editions ──

-- "older editions keep their words": word 0 and no answer, whatever bits a record has
older_samples : ((input_of Alerts64 (replicate 24 255)).sample.word ≡ 0)
    × ((input_of Alerts64 (replicate 24 255)).sample.receive ≡ Answers 0)
    × ((input_of Alerts248 (replicate 70 255)).sample.word ≡ 0)
    × ((input_of Alerts248 (replicate 70 255)).sample.receive ≡ Answers 0)
unfolding rules traces
older_samples = (refl, refl, refl, refl)

-- 4, 5 and 6 are unassigned in them, and the numbers beside them are as they were
numbers : (map (carry Alerts64) (2 ∷ 3 ∷ 4 ∷ 5 ∷ 6 ∷ 7 ∷ []) ≡ 2 ∷ 3 ∷ 3 ∷ 3 ∷ 3 ∷ 7 ∷ [])
    × (map (carry Alerts248) (2 ∷ 3 ∷ 4 ∷ 5 ∷ 6 ∷ 7 ∷ []) ≡ 2 ∷ 3 ∷ 3 ∷ 3 ∷ 3 ∷ 7 ∷ [])
    × (map (carry Pings) (0 ∷ 4 ∷ 5 ∷ 6 ∷ 64 ∷ 320 ∷ 384 ∷ 2047 ∷ []) ≡ 0 ∷ 4 ∷ 5 ∷ 6 ∷ 64 ∷ 320 ∷ 384 ∷ 2047 ∷ [])
unfolding rules traces
numbers = (refl, refl, refl)

-- so that reads and writes of them are refused with 1 and do nothing: 5 is written twice, 6 with 1
abbrev old64 : ℕ → ℕ → List ℕ
old64 a b = to_bytes 24 ((a * 2 ^ 32 + b) * 2 ^ 128)

abbrev old248 : ℕ → ℕ → List ℕ
old248 a b = to_bytes 70 ((a * 2 ^ 32 + b) * 2 ^ 496)

abbrev tried64 : Batched
tried64 =
    batch Alerts64 (new_handler 1)
    (old64 0x40400000 0 ++ old64 0x40500000 0 ++ old64 0x40600000 0 ++ old64 0x80400000 0
    ++ old64 0x80500000 9 ++ old64 0x80500000 9 ++ old64 0x80600000 1) (replicate 7 0)

abbrev tried248 : Batched
tried248 =
    batch Alerts248 (new_handler 1)
    (old248 0x40200000 0 ++ old248 0x40280000 0 ++ old248 0x40300000 0 ++ old248 0x80200000 0
    ++ old248 0x80280000 9 ++ old248 0x80280000 9 ++ old248 0x80300000 1) (replicate 7 0)

refused_in_them : (tried64.out ≡ replicate 7 0x0010000000000000) × (tried248.out ≡ replicate 7 0x0010000000000000)
unfolding rules traces
refused_in_them = (refl, refl)

not_reached : (tried64.handler.timer ≡ (new_handler 1).timer) × (tried64.handler.stages ≡ (new_handler 1).stages)
    × (tried248.handler.timer ≡ (new_handler 1).timer) × (tried248.handler.stages ≡ (new_handler 1).stages)
unfolding rules traces
not_reached = (refl, refl, refl, refl)

-- "an older batch answers 7 where the timer is on": before 8 and 9, with no bytes too, state and list unchanged; a batch of pings runs
abbrev timed : Handler
timed = with_timer (record { timeout = 0; regwen = 1; enable = 1 }) (new_handler 1)

abbrev refuses : Edition → List ℕ → List ℕ → Type 0
refuses e records out = batch e timed records out ≡ record { handler = timed; answer = refused 7; out = out }

older_batches : refuses Alerts64 [] (7 ∷ [])
    × refuses Alerts248 [] (7 ∷ [])
    × refuses Alerts64 (replicate 24 0) (7 ∷ [])
    × refuses Alerts248 (replicate 70 0) (7 ∷ [])
    × refuses Alerts64 (replicate 25 0) (7 ∷ [])
    × refuses Alerts248 (replicate 71 0) (7 ∷ [])
    × refuses Alerts64 (replicate 24 0) []
    × refuses Alerts248 (replicate 70 0) []
    × (given (batch Pings timed (replicate 75 0) (7 ∷ [])) ≡ pos 0)
unfolding rules traces
older_batches = (refl, refl, refl, refl, refl, refl, refl, refl, refl)

-- also where a batch of pings has turned it on
turned_on : map (λ (e : Edition). given (batch e (runs (new_handler 1) on).handler [] [])) (Alerts64 ∷ Alerts248 ∷ Pings ∷ []) ≡ refused 7 ∷ refused 7 ∷ pos 0 ∷ []
unfolding rules traces
turned_on = refl

-- and one on a handler whose timer is off runs, its registers written or not
off_runs : (given (batch Alerts64 reaches.handler [] []) ≡ pos 0) × (given (batch Alerts248 reaches.handler (replicate 70 0) (7 ∷ [])) ≡ pos 0)
unfolding rules traces
off_runs = (refl, refl)

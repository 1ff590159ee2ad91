-- Worked examples that pin "Traces" and the batch, by computation; PingExamples has the edition of pings, WireExamples that of receive wires.
-- Assumes nothing.
use Prim.Native.Nat.{ℕ, ◌+◌, ◌*◌, ◌^◌}
use mathlib.Core.Path.{◌≡◌, refl}
use mathlib.Core.List.{List, [], ◌∷◌, ◌++◌, map}
use lib.IntN.{ℤ, pos}
use lib.ListN.{replicate}
use Rattle.bits.specs.Fields.{to_bytes}
use Rattle.trace_rules.specs.Batch.{Batched, batch}
use Rattle.trace_rules.specs.Edition.{carry}
use Rattle.trace_rules.specs.Record.{input_of}
use Rattle.rules.specs.State.{new_handler}
use Rattle.rules.specs.Tick.{no_output}
use Rattle.rules.specs.declared.Access.{Access}
use Rattle.rules.specs.declared.Answer.{Answer}
use Rattle.trace_rules.specs.declared.Edition.{Edition}
use Rattle.trace_rules.specs.declared.Edition.TheVariants.{Alerts64, Alerts248}
use Rattle.rules.specs.declared.Refusal.{Refusal}
use Rattle.rules.specs.declared.Refusal.TheVariants.{NoRegister, WrongWay, Locked, TooWide, BadRecord, BadState, Differs, SillyThreshold}
use Rattle.rules.specs.declared.LinePairs.{LinePairs}
use Rattle.rules.specs.declared.Wires.{Wires}
use Rattle.rules.specs.Scenes.{refused}
use Rattle.trace_rules.specs.Word.{word_of}
use Rattle.rules.proofs.Scenes.{rules}
use Rattle.trace_rules.proofs.TraceScenes.{traces}

-- ── records ──

-- the record of a first and a second 32-bit half, and of positive and negative wires
abbrev bytes : ℕ → ℕ → ℕ → ℕ → List ℕ
bytes a b p m = to_bytes 24 (((a * 2 ^ 32 + b) * 2 ^ 64 + p) * 2 ^ 64 + m)

abbrev access_in : ℕ → ℕ → Access
access_in a b = (input_of Alerts64 (bytes a b 0 0)).access

-- "2 bits kind (0 none, 1 read, 2 write), 10 bits register, 20 zero bits, 32 bits value"
kinds : (access_in 0 0 ≡ Access.Nothing)
    × (access_in 0x54100000 0 ≡ Access.Read (carry Alerts64 321))
    × (access_in 0x7FF00000 0 ≡ Access.Read (carry Alerts64 1023))
    × (access_in 0x94500000 0x10000 ≡ Access.Write (carry Alerts64 325) 65536)
    × (access_in 0x80000000 0 ≡ Access.Write 0 0)
    × (access_in 0xBFF00000 0xFFFFFFFF ≡ Access.Write (carry Alerts64 1023) 4294967295)
unfolding rules traces
kinds = (refl, refl, refl, refl, refl, refl)

-- "Malformed: kind 3, a nonzero bit among the 20, a read with a value, kind 0 with a register or value"
malformed : map (λ (n : ℕ). access_in n 0) (0xC0000000 ∷ 0x80080000 ∷ 0x80000001 ∷ 0x00080000 ∷ 0x00000001 ∷ 0x00100000 ∷ [])
    ≡ replicate 6 Access.Malformed
unfolding rules traces
malformed = refl

malformed_values : (access_in 0x54100000 1 ≡ Access.Malformed)
    × (access_in 0x54100000 0x80000000 ≡ Access.Malformed)
    × (access_in 0 1 ≡ Access.Malformed)
    × (access_in 0xC0000000 1 ≡ Access.Malformed)
unfolding rules traces
malformed_values = (refl, refl, refl, refl)

-- "64 positive wires with alert 0 first, 64 negative wires"
wires : ((input_of Alerts64 (bytes 0 0 5 9)).sample.alerts.pos ≡ 5 ∷ 0 ∷ 0 ∷ 0 ∷ [])
    × ((input_of Alerts64 (bytes 0 0 5 9)).sample.alerts.neg ≡ 9 ∷ 0 ∷ 0 ∷ 0 ∷ [])
unfolding rules traces
wires = (refl, refl)

-- request (iii): "their register numbers carried over, numbers unassigned then still refused with 1", at both ends of every range; 3 is unassigned
carried : (map (carry Alerts64) (0 ∷ 1 ∷ 2 ∷ 3 ∷ 16 ∷ 46 ∷ 47 ∷ 63 ∷ []) ≡ 0 ∷ 1 ∷ 2 ∷ 3 ∷ 16 ∷ 46 ∷ 47 ∷ 63 ∷ [])
    × (map (carry Alerts64) (64 ∷ 127 ∷ 128 ∷ 191 ∷ 192 ∷ 255 ∷ 256 ∷ 319 ∷ []) ≡ 256 ∷ 319 ∷ 512 ∷ 575 ∷ 768 ∷ 831 ∷ 1024 ∷ 1087 ∷ [])
    × (map (carry Alerts64) (320 ∷ 333 ∷ 383 ∷ 384 ∷ 512 ∷ 768 ∷ 1023 ∷ []) ≡ 1280 ∷ 1293 ∷ 1343 ∷ 3 ∷ 3 ∷ 3 ∷ 3 ∷ [])
    × (map (carry Alerts248) (0 ∷ 64 ∷ 320 ∷ 384 ∷ 2047 ∷ []) ≡ 0 ∷ 64 ∷ 320 ∷ 384 ∷ 2047 ∷ [])
unfolding rules traces
carried = (refl, refl, refl, refl)

-- ── the record of 70 bytes ──

abbrev bytes248 : ℕ → ℕ → ℕ → ℕ → List ℕ
bytes248 a b p m = to_bytes 70 (((a * 2 ^ 32 + b) * 2 ^ 248 + p) * 2 ^ 248 + m)

abbrev access_in248 : ℕ → ℕ → Access
access_in248 a b = (input_of Alerts248 (bytes248 a b 0 0)).access

-- "The new record has an 11-bit register, 19 zero bits, 31 bytes for each wire set"
kinds248 : (access_in248 0 0 ≡ Access.Nothing)
    × (access_in248 0x68080000 0 ≡ Access.Read 1281)
    × (access_in248 0x7FF80000 0 ≡ Access.Read 2047)
    × (access_in248 0xA8280000 0x10000 ≡ Access.Write 1285 65536)
    × (access_in248 0x80000000 0 ≡ Access.Write 0 0)
    × (access_in248 0xBFF80000 0xFFFFFFFF ≡ Access.Write 2047 4294967295)
unfolding rules traces
kinds248 = (refl, refl, refl, refl, refl, refl)

malformed248 : map (λ (n : ℕ). access_in248 n 0) (0xC0000000 ∷ 0x80040000 ∷ 0x80000001 ∷ 0x00040000 ∷ 0x00000001 ∷ 0x00080000 ∷ [])
    ≡ replicate 6 Access.Malformed
unfolding rules traces
malformed248 = refl

-- alert 0 first, at the highest bit of the first word; alert 247 last
wires248 : ((input_of Alerts248 (bytes248 0 0 (2 ^ 247) 1)).sample.alerts.pos ≡ 2 ^ 63 ∷ 0 ∷ 0 ∷ 0 ∷ [])
    × ((input_of Alerts248 (bytes248 0 0 (2 ^ 247) 1)).sample.alerts.neg ≡ 0 ∷ 0 ∷ 0 ∷ 2 ^ 8 ∷ [])
    × ((input_of Alerts248 (bytes248 0 0 (2 ^ 183) (2 ^ 184))).sample.alerts.pos ≡ 0 ∷ 2 ^ 63 ∷ 0 ∷ 0 ∷ [])
    × ((input_of Alerts248 (bytes248 0 0 (2 ^ 183) (2 ^ 184))).sample.alerts.neg ≡ 1 ∷ 0 ∷ 0 ∷ 0 ∷ [])
unfolding rules traces
wires248 = (refl, refl, refl, refl)

-- ── words ──

abbrev word_with : Wires → Wires → LinePairs → ℕ → ℕ → Answer → ℕ
word_with acknowledge ping escalation i l a =
    word_of (record { handler = new_handler 1; answer = a; output = record { interrupts = i; lines = l; acknowledge = acknowledge; ping = ping; escalation = escalation } })

abbrev word_of_parts : ℕ → ℕ → Answer → ℕ
word_of_parts = word_with no_output.acknowledge no_output.ping no_output.escalation

-- "interrupts (4 bits, class 0 first), lines (4, line 0 first), refusal number (4), 20 zeros, read value or 0"
words : (word_of_parts 1 0 Answer.Done ≡ 0x8000000000000000)
    × (word_of_parts 8 0 Answer.Done ≡ 0x1000000000000000)
    × (word_of_parts 0 1 Answer.Done ≡ 0x0800000000000000)
    × (word_of_parts 0 2 Answer.Done ≡ 0x0400000000000000)
    × (word_of_parts 0 8 Answer.Done ≡ 0x0100000000000000)
    × (word_of_parts 0 0 (Answer.Refused NoRegister) ≡ 0x0010000000000000)
    × (word_of_parts 15 15 (Answer.Refused BadRecord) ≡ 0xFF50000000000000)
    × (word_of_parts 0 0 (Answer.Value 4294967295) ≡ 0x00000000FFFFFFFF)
    × (word_of_parts 5 10 (Answer.Value 1) ≡ 0xA500000000000001)
unfolding rules traces
words = (refl, refl, refl, refl, refl, refl, refl, refl, refl)

-- requests (viii) and (xi) leave the word as it was: the acknowledge, ping and escalation pairs are not in it, whatever they are
pairs_unseen : (a b c d : Wires) (p q : LinePairs) (i l : ℕ) (x : Answer) → word_with a b p i l x ≡ word_with c d q i l x
unfolding word_of
pairs_unseen a b c d p q i l x = refl

-- "refusal number (4)", of each refusal that a tick can give: 1 to 5, 7, and 12 and 14 of the requests
refusal_words : map (λ (m : Refusal). word_of_parts 0 0 (Answer.Refused m)) (NoRegister ∷ WrongWay ∷ Locked ∷ TooWide ∷ BadRecord ∷ BadState ∷ Differs ∷ SillyThreshold ∷ [])
    ≡ 0x0010000000000000 ∷ 0x0020000000000000 ∷ 0x0030000000000000 ∷ 0x0040000000000000 ∷ 0x0050000000000000 ∷ 0x0070000000000000 ∷ 0x00C0000000000000 ∷ 0x00E0000000000000 ∷ []
unfolding rules traces
refusal_words = refl

-- ── batches ──

-- the two records of document 01
abbrev reads321 : List ℕ
reads321 = to_bytes 24 0x541000000000000000000000000000008000000000000000

abbrev writes1023 : List ℕ
writes1023 = to_bytes 24 0xbff000000000000000000000000000008000000000000000

-- "prints exactly 000000000000393c and 0010000000000000"; later words stay; a refused record and the next still runs
two_records : ((batch Alerts64 (new_handler 1) (reads321 ++ writes1023) (7 ∷ 8 ∷ 9 ∷ 10 ∷ [])).out ≡ 0x393C ∷ 0x0010000000000000 ∷ 9 ∷ 10 ∷ [])
    × ((batch Alerts64 (new_handler 1) (reads321 ++ writes1023) (7 ∷ 8 ∷ 9 ∷ 10 ∷ [])).answer ≡ pos 0)
    × ((batch Alerts64 (new_handler 1) (writes1023 ++ reads321) (7 ∷ 8 ∷ [])).out ≡ 0x0010000000000000 ∷ 0x393C ∷ [])
unfolding rules traces
two_records = (refl, refl, refl)

-- a batch runs each record on the state that the one before it left: EN of alert 0, EN and line 0 of class 0, twice each, then a rise
abbrev twice : List ℕ → List ℕ
twice b = b ++ b

abbrev rises : List ℕ
rises = twice (bytes 0x88000000 1 0 (2 ^ 63)) ++ twice (bytes 0x94100000 5 0 (2 ^ 63)) ++ bytes 0x54C00000 0 (2 ^ 63) 0 ++ bytes 0x54C00000 0 (2 ^ 63) 0

run_on : (batch Alerts64 (new_handler 1) rises (replicate 6 0)).out ≡ 0 ∷ 0 ∷ 0 ∷ 0 ∷ 0x0800000000000000 ∷ 4 ∷ []
unfolding rules traces
run_on = refl

-- "No bytes means no ticks"; "for a batch 7, 8, 9": each leaves state and list unchanged
abbrev given : Batched → ℤ
given b = b.answer

refusals : (batch Alerts64 (new_handler 1) [] (7 ∷ []) ≡ record { handler = new_handler 1; answer = pos 0; out = 7 ∷ [] })
    × (batch Alerts64 (new_handler 65) [] [] ≡ record { handler = new_handler 65; answer = refused 7; out = [] })
    × (given (batch Alerts64 (new_handler 65) (replicate 25 0) []) ≡ refused 7)
    × (batch Alerts64 (new_handler 1) (replicate 25 0) [] ≡ record { handler = new_handler 1; answer = refused 8; out = [] })
    × (batch Alerts64 (new_handler 1) (replicate 23 0) (7 ∷ []) ≡ record { handler = new_handler 1; answer = refused 8; out = 7 ∷ [] })
    × (batch Alerts64 (new_handler 1) (replicate 24 0) [] ≡ record { handler = new_handler 1; answer = refused 9; out = [] })
    × (batch Alerts64 (new_handler 1) (replicate 48 0) (7 ∷ []) ≡ record { handler = new_handler 1; answer = refused 9; out = 7 ∷ [] })
unfolding rules traces
refusals = (refl, refl, refl, refl, refl, refl, refl)

-- request (iii): "8 reads 70"; a refused batch of 249 alerts (more of how many alerts a batch runs with is in rule_examples MostAlertsExamples)
refusals248 : (given (batch Alerts248 (new_handler 249) [] []) ≡ refused 7)
    × (given (batch Alerts248 (new_handler 1) (replicate 24 0) []) ≡ refused 8)
    × (given (batch Alerts248 (new_handler 1) (replicate 71 0) []) ≡ refused 8)
    × (given (batch Alerts64 (new_handler 1) (replicate 70 0) []) ≡ refused 8)
    × (batch Alerts248 (new_handler 1) (replicate 70 0) [] ≡ record { handler = new_handler 1; answer = refused 9; out = [] })
unfolding rules traces
refusals248 = (refl, refl, refl, refl, refl)

-- lengths that divide by 2, 4, 8 or 12, or by 7, 10, 14 or 35, and no multiples of the record's, with room in the list
abbrev uneven : Edition → ℕ → ℤ
uneven e n = given (batch e (new_handler 1) (replicate n 0) (replicate 9 7))

not_multiples : (map (uneven Alerts64) (1 ∷ 2 ∷ 4 ∷ 8 ∷ 12 ∷ 16 ∷ 20 ∷ 28 ∷ 32 ∷ 36 ∷ 40 ∷ 60 ∷ []) ≡ replicate 12 (refused 8))
    × (map (uneven Alerts248) (1 ∷ 7 ∷ 10 ∷ 14 ∷ 24 ∷ 35 ∷ 48 ∷ 72 ∷ 105 ∷ 120 ∷ []) ≡ replicate 10 (refused 8))
    × (map (uneven Alerts64) (0 ∷ 24 ∷ 48 ∷ []) ≡ replicate 3 (pos 0))
    × (map (uneven Alerts248) (0 ∷ 70 ∷ 140 ∷ []) ≡ replicate 3 (pos 0))
unfolding rules traces
not_multiples = (refl, refl, refl, refl)

-- a batch of new records runs: CTRL of class 0 is read, and a number that the map does not assign is refused with 1
run_on248 : (batch Alerts248 (new_handler 65) (bytes248 0x68080000 0 0 0 ++ bytes248 0x7FF80000 0 0 0) (7 ∷ 8 ∷ 9 ∷ [])).out ≡ 0x393C ∷ 0x0010000000000000 ∷ 9 ∷ []
unfolding rules traces
run_on248 = refl

-- request (iii): "an old batch answers 7 to a handler of more than 64 alerts"; a new one runs with it
batches : (given (batch Alerts64 (new_handler 64) [] []) ≡ pos 0)
    × (given (batch Alerts248 (new_handler 65) [] []) ≡ pos 0)
    × (given (batch Alerts64 (new_handler 248) (replicate 24 0) (7 ∷ [])) ≡ refused 7)
    × (given (batch Alerts248 (new_handler 248) [] []) ≡ pos 0)
unfolding rules traces
batches = (refl, refl, refl, refl)

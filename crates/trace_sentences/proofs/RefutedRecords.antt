-- Wrong words and wrong readers of records that the sentences refuse, as theorems: what satisfies the sentences is the rules' definition (`only`,
-- `holds`), and these differ from it somewhere.
-- Assumes nothing.
use Prim.Native.Nat.{ℕ, zero, suc, ◌-◌, ◌≤◌}
use mathlib.Core.Path.{◌≡◌, refl, sym, ap, ◌∙◌}
use mathlib.Core.Bool.{Bool, true, false, false≢true, cond, ◌&&◌, ◌||◌}
use mathlib.Core.List.{List, [], ◌∷◌, ◌++◌}
use native.Mathlib.Omega.{arith}
use borrow.Author.Tests.{leb-true}
use lib.Dec.{eqb, leb, ltb}
use lib.ListN.{get_or, length, take, replicate}
use Rattle.bits.specs.Bits.{bit, bits_of}
use Rattle.bits.specs.Fields.{pack, unpack, of_bytes}
use Rattle.bits.proofs.IndexLaws.{and-true}
use Rattle.rules.specs.Access.{malformed}
use Rattle.rules.specs.Answer.{number, refusal_number}
use Rattle.rules.specs.Map.{number_of}
use Rattle.rules.specs.State.{new_handler}
use Rattle.rules.specs.Tick.{no_output}
use Rattle.rules.specs.declared.Access.{Access}
use Rattle.rules.specs.declared.Access.TheVariants.{Nothing, Read, Write, Malformed}
use Rattle.rules.specs.declared.Answer.{Answer}
use Rattle.rules.specs.declared.Input.{Input}
use Rattle.rules.specs.declared.Refusal.TheVariants.{Differs}
use Rattle.rules.specs.declared.Ticked.{Ticked}
use Rattle.trace_rules.specs.Edition.{carried64, carried248}
use Rattle.trace_rules.specs.Record.{layout, access_in, access_of, carried, held_in, input_of, register_of}
use Rattle.trace_rules.specs.Word.{word_by, word_of}
use Rattle.trace_rules.specs.declared.Edition.{Edition}
use Rattle.trace_rules.specs.declared.Edition.TheVariants.{Alerts64, Alerts248, Pings, Wires}
use Rattle.trace_sentences.specs.RecordBits.{form, Reader}
use Rattle.trace_sentences.specs.Words.{Words}
use Rattle.trace_sentences.proofs.HoldsRecords.{holds_reader}
use Rattle.trace_sentences.proofs.HoldsWords.{holds_words, in_range}
use Rattle.trace_sentences.proofs.OnlyRecords.{only_reader}
use Rattle.trace_sentences.proofs.OnlyWords.{only_words}

-- ── words ──

-- one that shows 0 for refusals 12 and 14
abbrev hidden : Answer → Answer
hidden Answer.Done = Answer.Done
hidden (Answer.Value v) = Answer.Value v
hidden (Answer.Refused m) = cond (eqb (refusal_number m) 12 || eqb (refusal_number m) 14) Answer.Done (Answer.Refused m)

abbrev hides : Ticked → ℕ
hides t = word_of (record { handler = t.handler; answer = hidden t.answer; output = t.output })

-- a tick with these lines on
abbrev gives : Answer → ℕ → Ticked
gives a lines = record { handler = new_handler 1; answer = a; output = record { interrupts = 0; lines = lines; acknowledge = no_output.acknowledge; ping = no_output.ping; escalation = no_output.escalation } }

pub no_hidden_refusal : ¬ Words number hides
unfolding word_of word_by pack
no_hidden_refusal w = let e = only_words number hides word_of w holds_words (gives (Answer.Refused Differs) 0) (in_range (Answer.Refused Differs) (omega arith)) in omega (arith, e)

-- one with line 3 first
abbrev reversed : Ticked → ℕ
reversed t =
    let lines = bits_of 4 (λ k. bit t.output.lines (3 - k)) in
    word_of (record { handler = t.handler; answer = t.answer; output = record { interrupts = t.output.interrupts; lines = lines; acknowledge = t.output.acknowledge; ping = t.output.ping; escalation = t.output.escalation } })

pub no_reversed_lines : ¬ Words number reversed
unfolding word_of word_by pack bit bits_of
no_reversed_lines w =
    let e = only_words number reversed word_of w holds_words (gives Answer.Done 1) (in_range Answer.Done (omega arith)) in omega (arith, e)

-- ── records ──

-- bytes that are bytes, by computation
unfoldable pub are_bytes : List ℕ → Bool
are_bytes [] = true
are_bytes (x ∷ xs) = leb x 255 && are_bytes xs

pub up_to_255 : (xs : List ℕ) → are_bytes xs ≡ true → (i : ℕ) → get_or xs i 0 ≤ 255
unfolding are_bytes
up_to_255 [] e i = omega arith
up_to_255 (x ∷ xs) e zero = leb-true x 255 (and-true (leb x 255) (are_bytes xs) e).0
up_to_255 (x ∷ xs) e (suc i) = up_to_255 xs (and-true (leb x 255) (are_bytes xs) e).1 i

-- a reader that finds another access in some bytes than the rules do
pub other_access : (read : Edition → List ℕ → Input) (e : Edition) (bytes : List ℕ) → length bytes ≡ (form e).bytes → are_bytes bytes ≡ true
    → (f : Access → Bool) → f (read e bytes).access ≡ false → f (input_of e bytes).access ≡ true → ¬ Reader read
other_access read e bytes l b f p q r =
    false≢true (sym p ∙ ap (λ (x : Input). f x.access) (only_reader read input_of r holds_reader e bytes l (up_to_255 bytes b)) ∙ q)

-- one that makes its access of kind, register, zero bits and value in its own way
abbrev read_by : (ℕ → ℕ → ℕ → ℕ → Access) → Edition → List ℕ → Input
read_by access e bytes =
    let fs = unpack (layout e) (of_bytes bytes) in
    record { access = carried e (access (get_or fs 0 0) (get_or fs 1 0) (get_or fs 2 0) (get_or fs 3 0)); sample = (input_of e bytes).sample }

abbrev unless : ℕ → Access → Access
unless zeros a = cond (eqb zeros 0) a Access.Malformed

-- kind 3 writes
pub no_kind_3 : ¬ Reader (read_by (λ k r z v. unless z (cond (eqb k 3) (Access.Write r v) (access_of k r v))))
unfolding input_of held_in unpack pack access_of carried248 are_bytes
no_kind_3 = other_access _ Alerts248 (0xC0 ∷ replicate 69 0) refl refl malformed refl refl

-- nobody looks at the zero bits
pub no_zero_bits_ignored : ¬ Reader (read_by (λ k r z v. access_of k r v))
unfolding input_of held_in unpack pack access_of carried248 are_bytes
no_zero_bits_ignored = other_access _ Alerts248 (0x80 ∷ 0 ∷ 0 ∷ 1 ∷ replicate 66 0) refl refl malformed refl refl

-- a read may have a value
pub no_read_with_value : ¬ Reader (read_by (λ k r z v. unless z (cond (eqb k 1) (Access.Read r) (access_of k r v))))
unfolding input_of held_in unpack pack access_of carried248 are_bytes
no_read_with_value = other_access _ Alerts248 (0x40 ∷ 0 ∷ 0 ∷ 0 ∷ 0 ∷ 0 ∷ 0 ∷ 1 ∷ replicate 62 0) refl refl malformed refl refl

-- a record of 70 bytes with 10 register bits and 20 zero bits
abbrev shifted : Edition → List ℕ → Input
shifted Alerts64 bytes = input_of Alerts64 bytes
shifted Pings bytes = input_of Pings bytes
shifted Wires bytes = input_of Wires bytes
shifted Alerts248 bytes =
    let fs = unpack (2 ∷ 10 ∷ 20 ∷ 32 ∷ 248 ∷ 248 ∷ []) (of_bytes bytes) in
    record { access = access_in (take 4 fs) []; sample = (input_of Alerts248 bytes).sample }

abbrev reads : ℕ → Access → Bool
reads q a = eqb (register_of a) q

-- register 1 is read
pub no_shifted_register : ¬ Reader shifted
unfolding input_of held_in unpack pack access_of carried248 are_bytes
no_shifted_register = other_access shifted Alerts248 (0x40 ∷ 0x08 ∷ replicate 68 0) refl refl (reads 1) refl refl

-- old register numbers as they are: document 01's register 64, REGWEN of alert 0, is read
pub no_number_as_it_is : ¬ Reader held_in
unfolding input_of held_in unpack pack access_of carried64 are_bytes
no_number_as_it_is = other_access held_in Alerts64 (0x44 ∷ replicate 23 0) refl refl (reads 256) refl refl

-- the negative wires come first
abbrev swapped : Edition → List ℕ → Input
swapped e bytes =
    let s = (input_of e bytes).sample.alerts in
    record { access = (input_of e bytes).access; sample = record { alerts = record { pos = s.neg; neg = s.pos }; word = (input_of e bytes).sample.word; receive = (input_of e bytes).sample.receive } }

-- alert 0's positive wire is 1
pub no_negative_wires_first : ¬ Reader swapped
unfolding input_of held_in unpack pack are_bytes
no_negative_wires_first r =
    let e = only_reader swapped input_of r holds_reader Alerts64 (0 ∷ 0 ∷ 0 ∷ 0 ∷ 0 ∷ 0 ∷ 0 ∷ 0 ∷ 0x80 ∷ replicate 15 0) refl (up_to_255 (0 ∷ 0 ∷ 0 ∷ 0 ∷ 0 ∷ 0 ∷ 0 ∷ 0 ∷ 0x80 ∷ replicate 15 0) refl) in
    let d = ap (λ (x : Input). get_or x.sample.alerts.pos 0 0) e in omega (arith, d)

-- ── request (ix) ──

-- one that numbers registers in its own way
abbrev named : (ℕ → ℕ) → Access → Access
named f Nothing = Access.Nothing
named f (Read r) = Access.Read (f r)
named f (Write r v) = Access.Write (f r) v
named f Malformed = Access.Malformed

abbrev read_as : (Edition → ℕ → ℕ) → Edition → List ℕ → Input
read_as f e bytes = record { access = named (f e) (held_in e bytes).access; sample = (input_of e bytes).sample }

-- an older record that reaches the timer's registers, of 24 bytes, and of 70: register 5 is read
abbrev reaching24 : Edition → ℕ → ℕ
reaching24 Alerts64 r = cond (ltb r 64) r (carried64 r)
reaching24 Alerts248 r = carried248 r
reaching24 Pings r = r
reaching24 Wires r = r

pub no_timeout_in_24 : ¬ Reader (read_as reaching24)
unfolding input_of held_in unpack pack access_of carried64 number_of are_bytes
no_timeout_in_24 = other_access (read_as reaching24) Alerts64 (0x40 ∷ 0x50 ∷ replicate 22 0) refl refl (reads 3) refl refl

abbrev reaching70 : Edition → ℕ → ℕ
reaching70 Alerts64 r = carried64 r
reaching70 Alerts248 r = r
reaching70 Pings r = r
reaching70 Wires r = r

pub no_timeout_in_70 : ¬ Reader (read_as reaching70)
unfolding input_of held_in unpack pack access_of carried248 number_of are_bytes
no_timeout_in_70 = other_access (read_as reaching70) Alerts248 (0x40 ∷ 0x28 ∷ replicate 68 0) refl refl (reads 3) refl refl

-- nobody looks at the four zero bits
abbrev unchecked : Edition → List ℕ → Input
unchecked e bytes = record { access = carried e (access_in (take 4 (unpack (layout e) (of_bytes bytes))) []); sample = (input_of e bytes).sample }

pub no_four_zero_bits_ignored : ¬ Reader unchecked
unfolding input_of held_in unpack pack access_of are_bytes
no_four_zero_bits_ignored = other_access unchecked Pings (replicate 74 0 ++ (0x10 ∷ [])) refl refl malformed refl refl

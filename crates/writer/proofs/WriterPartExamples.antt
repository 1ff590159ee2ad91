-- Each part of what a call's contract says, taken from it: a contract that left the part out would not do here.
-- Assumes nothing.
use Prim.Native.Nat.{ℕ, ◌≤◌, ◌<◌}
use mathlib.Core.Path.{◌≡◌, refl, ap, ◌∙◌}
use mathlib.Core.Bool.{true, false}
use mathlib.Core.List.{List, [], ◌∷◌, ◌++◌}
use native.Mathlib.Omega.{arith}
use lib.IntN.{ℤ, pos, negsuc}
use lib.ListN.{get_or, length, take, drop, replicate}
use Rattle.std.specs.Prelude.{Ok}
use Rattle.bits.specs.Bits.{bit, bits_of, word_of}
use Rattle.bits.specs.Fields.{pack, unpack}
use Rattle.bits.specs.Index.{each_from, place_in}
use Rattle.trace_laws.proofs.RecordLaws.{held_wired}
use Rattle.trace_laws.proofs.Recordable.{record_formed}
use Rattle.rules.specs.Answer.{first_of, Verdict}
use Rattle.trace_rules.specs.Edition.{newest}
use Rattle.trace_rules.specs.Record.{access_of, positives_of, negatives_of, pair_bits, held_in, input_of, kind_of, register_of, value_of, record_of, recordable, inputs_of}
use Rattle.trace_rules.specs.Writer.{SameRead, AllSame, no_more, and, WellFormed, Written, any_unrecordable, write_verdict}
use Rattle.rules.specs.declared.Access.TheVariants.{Read, Write}
use Rattle.rules.specs.declared.Input.{Input}
use Rattle.rules.specs.declared.Receive.TheVariants.{Pairs}
use Rattle.writer.specs.Lent.{Lent, lent, input_at, list_of, even, Wrote, ReadBack, WrittenBack}
use Rattle.writer.proofs.WriteCallExamples.{entry, room, kind_3, read_1293}

-- a read of 1293, and its record
abbrev one1293 : Lent
one1293 = lent (1 ∷ []) (1293 ∷ []) (0 ∷ []) (0x8000000000000000 ∷ 0 ∷ 0 ∷ 0 ∷ []) (0 ∷ 0 ∷ 0 ∷ 0x100 ∷ []) (0xfedcba98 ∷ []) (3 ∷ []) (12 ∷ [])

abbrev bytes : List ℕ
bytes = 0x68 ∷ 0x68 ∷ replicate 6 0 ++ 0x80 ∷ replicate 60 0 ++ 1 ∷ 0xfe ∷ 0xdc ∷ 0xba ∷ 0x98 ∷ 0xa5 ∷ []

-- ── the answer, and every byte of the buffer ──

module _ (r : ℤ) (left : List ℕ) where
  -- a read of 1293 into a buffer of 76 bytes
  accepted : Wrote one1293 (7 ∷ room) r left → (r ≡ pos 75) × (left ≡ bytes ++ 9 ∷ [])
  accepted w = (w.answer ∙ ap (λ (x : Written). x.answer) read_1293, w.bytes ∙ ap (λ (x : Written). x.buffer) read_1293)

  -- kind 3 is refused, and the buffer keeps its bytes
  refused : Wrote (entry 3 0 0) room r left → (r ≡ negsuc 9) × (left ≡ room)
  refused w = (w.answer ∙ ap (λ (x : Written). x.answer) kind_3, w.bytes ∙ ap (λ (x : Written). x.buffer) kind_3)

-- ── reading what was written gives the same accesses and samples ──

-- two entries, and two records
two_same : {x y : Input} {zs : List Input} (d : Input) → AllSame newest (x ∷ y ∷ []) zs
    → (length zs ≡ 2) × SameRead newest x (get_or zs 0 d) × SameRead newest y (get_or zs 1 d)
two_same d (and a (and b no_more)) = (refl, a, b)

-- a write of 5 to 3 with alerts 125 and 126 high on the positive wire and alert 60 on the negative; a read of 4 with alerts 189 to 191 and 244 and 247; a word of
-- each, line 1 at (1,0), line 3 at (0,1) and the others at (0,0), and line 2 at (1,1) and line 0 at (0,1), with bits above them that are no line's
abbrev two : Lent
two = lent (2 ∷ 1 ∷ []) (3 ∷ 4 ∷ []) (5 ∷ 0 ∷ []) (0 ∷ 6 ∷ 0 ∷ 0 ∷ 0 ∷ 0 ∷ 7 ∷ 0 ∷ []) (8 ∷ 0 ∷ 0 ∷ 0 ∷ 0 ∷ 0 ∷ 0 ∷ 0x900 ∷ []) (10 ∷ 0xb000000 ∷ []) (2 ∷ 0xf4 ∷ []) (8 ∷ 0x85 ∷ [])

module _ (left : List ℕ) (back : ReadBack two (replicate 151 1) left) where
  abbrev again : ℕ → Input
  again i = get_or (inputs_of newest (take 150 left)) i (input_at two 0)

  both : (length (inputs_of newest (take 150 left)) ≡ 2) × SameRead newest (input_at two 0) (again 0) × SameRead newest (input_at two 1) (again 1)
  unfolding write_verdict first_of list_of each_from any_unrecordable recordable access_of
  both = two_same (input_at two 0) (back refl refl).0

  accesses : ((again 0).access ≡ Write 3 5) × ((again 1).access ≡ Read 4)
  unfolding access_of
  accesses = (both.1.access, both.2.access)

  wires : (place_in (again 0).sample.alerts.pos 126 ≡ true)
      × (place_in (again 0).sample.alerts.pos 60 ≡ false)
      × (place_in (again 0).sample.alerts.neg 60 ≡ true)
      × (place_in (again 1).sample.alerts.pos 189 ≡ true)
      × (place_in (again 1).sample.alerts.neg 247 ≡ true)
      × (place_in (again 1).sample.alerts.neg 246 ≡ false)
  unfolding bit each_from
  wires = (
    both.1.positive 126 (omega arith),
    both.1.positive 60 (omega arith),
    both.1.negative 60 (omega arith),
    both.2.positive 189 (omega arith),
    both.2.negative 247 (omega arith),
    both.2.negative 246 (omega arith),
  )

  pairs : ((again 0).sample.word ≡ 10) × ((again 0).sample.receive ≡ Pairs 2 8) × ((again 1).sample.word ≡ 0xb000000) × ((again 1).sample.receive ≡ Pairs 4 5)
  unfolding bits_of bit
  pairs = (both.1.word, both.1.receive, both.2.word, both.2.receive)

-- the numbers that were lent, whatever they are: entry i of any lists that are not refused
lent_numbers : (l : Lent) (buffer left : List ℕ) → ReadBack l buffer left → even l ≡ true → write_verdict newest (list_of l) buffer ≡ Ok tt
    → (i k g v : ℕ) → i < length l.kinds → get_or l.kinds i 0 ≡ k → get_or l.registers i 0 ≡ g → get_or l.values i 0 ≡ v
    → (kind_of (input_at l i).access ≡ k) × (register_of (input_at l i).access ≡ g) × (value_of (input_at l i).access ≡ v)
lent_numbers l buffer left back e a i k g v h p q r = let n = (back e a).1 i h in (n.0 ∙ p, n.1 ∙ q, n.2 ∙ r)

-- ── writing what was read gives the same bytes ──

is_record : record_of newest (held_in newest bytes) ≡ bytes
unfolding record_of held_in access_of positives_of negatives_of pair_bits bits_of word_of bit pack unpack
is_record = refl

formed : WellFormed newest bytes
unfolding held_in access_of pack unpack recordable
formed = rw is_record at (record_formed newest (held_in newest bytes) (held_wired newest bytes) refl)

-- lent again, into any buffer with room for it: its 75 bytes, and what stood behind them
written_again : (buffer left : List ℕ) → WrittenBack one1293 buffer left → 75 ≤ length buffer → left ≡ bytes ++ drop 75 buffer
unfolding list_of each_from inputs_of input_of held_in access_of positives_of negatives_of bits_of bit pack unpack
written_again buffer left back l = back bytes formed refl refl l

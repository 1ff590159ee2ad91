-- Calls by their numbers: records, what stands behind them, and each refusal.
-- Assumes nothing.
use Prim.Native.Nat.{ℕ}
use mathlib.Core.Path.{◌≡◌, refl}
use mathlib.Core.List.{List, [], ◌∷◌, ◌++◌}
use lib.IntN.{pos, negsuc}
use lib.ListN.{drop, replicate}
use Rattle.bits.specs.Bits.{bit, word_of}
use Rattle.bits.specs.Fields.{pack, unpack}
use Rattle.bits.specs.Index.{each_from}
use Rattle.rules.specs.Answer.{first_of, number}
use Rattle.trace_rules.specs.Record.{access_of, pair_bits, record_of, recordable}
use Rattle.trace_rules.specs.Writer.{records_of, any_unrecordable, write_verdict, write_of, write}
use Rattle.writer.specs.Lent.{Lent, lent, list_of, write_lent}

-- the words of an entry with no wire high
abbrev pub low : List ℕ
low = 0 ∷ 0 ∷ 0 ∷ 0 ∷ []

-- one entry, with no wire high and word 0
abbrev pub entry : ℕ → ℕ → ℕ → Lent
entry kind register value = lent (kind ∷ []) (register ∷ []) (value ∷ []) low low (0 ∷ []) (0 ∷ []) (0 ∷ [])

-- a buffer for one record
abbrev pub room : List ℕ
room = replicate 75 9

-- a read of 1293 with alert 0's positive and alert 247's negative wire high, a word, lines 0 and 1 at (1,0) and the others at (0,1); one byte stands behind the record
pub read_1293 : write_lent (lent (1 ∷ []) (1293 ∷ []) (0 ∷ []) (0x8000000000000000 ∷ 0 ∷ 0 ∷ 0 ∷ []) (0 ∷ 0 ∷ 0 ∷ 0x100 ∷ []) (0xfedcba98 ∷ []) (3 ∷ []) (12 ∷ [])) (7 ∷ room)
    ≡ record { answer = pos 75; buffer = 0x68 ∷ 0x68 ∷ replicate 6 0 ++ 0x80 ∷ replicate 60 0 ++ 1 ∷ 0xfe ∷ 0xdc ∷ 0xba ∷ 0x98 ∷ 0xa5 ∷ 9 ∷ [] }
unfolding write_lent write write_verdict first_of write_of list_of each_from records_of any_unrecordable recordable record_of access_of pair_bits word_of bit pack unpack
read_1293 = refl

-- a write of 0x01020304 to 2047
write_2047 : write_lent (entry 2 2047 0x01020304) room ≡ record { answer = pos 75; buffer = 0xbf ∷ 0xf8 ∷ 0 ∷ 0 ∷ 1 ∷ 2 ∷ 3 ∷ 4 ∷ replicate 67 0 }
unfolding write_lent write write_verdict first_of write_of list_of each_from records_of any_unrecordable recordable record_of access_of pair_bits word_of bit pack unpack
write_2047 = refl

-- places 248 to 255 are no wires and bits 4 to 7 no lines, whatever they hold
no_wires : write_lent (lent (0 ∷ []) (0 ∷ []) (0 ∷ []) (0 ∷ 0 ∷ 0 ∷ 0xff ∷ []) (0 ∷ 0 ∷ 0 ∷ 0x81 ∷ []) (0 ∷ []) (0xf0 ∷ []) (0x10 ∷ [])) room ≡ record { answer = pos 75; buffer = replicate 75 0 }
unfolding write_lent write write_verdict first_of write_of list_of each_from records_of any_unrecordable recordable record_of access_of pair_bits word_of bit pack unpack
no_wires = refl

-- two entries: each has its own numbers and words
two_entries : write_lent (lent (2 ∷ 1 ∷ []) (3 ∷ 4 ∷ []) (5 ∷ 0 ∷ []) (0 ∷ 6 ∷ 0 ∷ 0 ∷ 0 ∷ 0 ∷ 7 ∷ 0 ∷ []) (8 ∷ 0 ∷ 0 ∷ 0 ∷ 0 ∷ 0 ∷ 0 ∷ 0x900 ∷ []) (10 ∷ 0xb000000 ∷ []) (2 ∷ 4 ∷ []) (8 ∷ 5 ∷ [])) (replicate 151 1)
    ≡ record {
      answer = pos 150;
      buffer =
          (0x80 ∷ 0x18 ∷ 0 ∷ 0 ∷ 0 ∷ 0 ∷ 0 ∷ 5 ∷ replicate 15 0 ++ 6 ∷ replicate 15 0 ++ replicate 7 0 ++ 8 ∷ replicate 23 0 ++ 0 ∷ 0 ∷ 0 ∷ 10 ∷ 0x21 ∷ [])
          ++ (0x40 ∷ 0x20 ∷ replicate 6 0 ++ replicate 23 0 ++ 7 ∷ replicate 7 0 ++ replicate 30 0 ++ 9 ∷ 0xb ∷ 0 ∷ 0 ∷ 0 ∷ 0x4c ∷ [])
          ++ (1 ∷ []);
    }
unfolding write_lent write write_verdict first_of write_of list_of each_from records_of any_unrecordable recordable record_of access_of pair_bits word_of bit pack unpack
two_entries = refl

no_entries : write_lent (lent [] [] [] [] [] [] [] []) [] ≡ record { answer = pos 0; buffer = [] }
unfolding write_lent write write_verdict first_of write_of list_of each_from records_of any_unrecordable
no_entries = refl

-- ── -10 ──

module _ (l : Lent) (buffer : List ℕ) where
  abbrev RefusedBy10 : Type 0
  RefusedBy10 = write_lent l buffer ≡ record { answer = negsuc 9; buffer = buffer }

  abbrev RefusedBy11 : Type 0
  RefusedBy11 = write_lent l buffer ≡ record { answer = negsuc 10; buffer = buffer }

pub kind_3 : RefusedBy10 (entry 3 0 0) room
unfolding write_lent write write_verdict first_of write_of list_of each_from any_unrecordable recordable access_of number
kind_3 = refl

kind_4 : RefusedBy10 (entry 4 0 0) room
unfolding write_lent write write_verdict first_of write_of list_of each_from any_unrecordable recordable access_of number
kind_4 = refl

read_with_value : RefusedBy10 (entry 1 0 1) room
unfolding write_lent write write_verdict first_of write_of list_of each_from any_unrecordable recordable access_of number
read_with_value = refl

none_with_register : RefusedBy10 (entry 0 1 0) room
unfolding write_lent write write_verdict first_of write_of list_of each_from any_unrecordable recordable access_of number
none_with_register = refl

none_with_value : RefusedBy10 (entry 0 0 1) room
unfolding write_lent write write_verdict first_of write_of list_of each_from any_unrecordable recordable access_of number
none_with_value = refl

register_2048 : RefusedBy10 (entry 2 2048 0) room
unfolding write_lent write write_verdict first_of write_of list_of each_from any_unrecordable recordable access_of number
register_2048 = refl

kind_5 : RefusedBy10 (entry 5 0 0) room
unfolding write_lent write write_verdict first_of write_of list_of each_from any_unrecordable recordable access_of number
kind_5 = refl

kind_255 : RefusedBy10 (entry 255 0 0) room
unfolding write_lent write write_verdict first_of write_of list_of each_from any_unrecordable recordable access_of number
kind_255 = refl

-- lists of unequal lengths: each of the seven longer than the kinds, and shorter; an entry has four words of each wire set
abbrev lists : List ℕ → List ℕ → List ℕ → List ℕ → List ℕ → List ℕ → List ℕ → Lent
lists registers values positive negative entropy p m = lent (0 ∷ []) registers values positive negative entropy p m

abbrev two : List ℕ
two = 0 ∷ 0 ∷ []

abbrev one : List ℕ
one = 0 ∷ []

too_long : RefusedBy10 (lists two one low low one one one) room
    × RefusedBy10 (lists one two low low one one one) room
    × RefusedBy10 (lists one one (0 ∷ low) low one one one) room
    × RefusedBy10 (lists one one low (0 ∷ low) one one one) room
    × RefusedBy10 (lists one one low low two one one) room
    × RefusedBy10 (lists one one low low one two one) room
    × RefusedBy10 (lists one one low low one one two) room
unfolding write_lent write_of number
too_long = (refl, refl, refl, refl, refl, refl, refl)

too_few : RefusedBy10 (lists [] one low low one one one) room
    × RefusedBy10 (lists one [] low low one one one) room
    × RefusedBy10 (lists one one (drop 1 low) low one one one) room
    × RefusedBy10 (lists one one low (drop 1 low) one one one) room
    × RefusedBy10 (lists one one low low [] one one) room
    × RefusedBy10 (lists one one low low one [] one) room
    × RefusedBy10 (lists one one low low one one []) room
unfolding write_lent write_of number
too_few = (refl, refl, refl, refl, refl, refl, refl)

-- no room either: 10 comes first
before_11 : RefusedBy10 (entry 3 0 0) []
unfolding write_lent write write_verdict first_of write_of list_of each_from any_unrecordable recordable access_of number
before_11 = refl

-- ── -11 ──

-- 74 bytes
no_room : RefusedBy11 (entry 0 0 0) (drop 1 room)
unfolding write_lent write write_verdict first_of write_of list_of each_from any_unrecordable recordable access_of number
no_room = refl

-- What the writer's functions put together: an entry's access and sample, a record's first word, and what all entries need.
-- Assumes nothing.
use Rattle.std.specs.Prelude.{ℕ, zero, suc, ◌*◌, ◌/◌, ◌^◌, ◌≤◌, ◌≡◌, Bool, false, not, List, [], ◌∷◌, ◌++◌, length}
use Rattle.bits.specs.Fields.{pack, to_bytes}
use Rattle.bits.specs.Index.{any_to}
use Rattle.trace_rules.specs.Edition.{newest, record_bytes}
use Rattle.trace_rules.specs.Record.{head, access_of, pair_bits, head_fields, recordable}
use Rattle.rules.specs.declared.Access.{Access}
use Rattle.rules.specs.declared.Input.{Input}
use Rattle.rules.specs.declared.Receive.{Receive}
use Rattle.writer.specs.Lent.{Lent, input_at}

-- the access and sample of an entry's numbers and its words of wires, of which p and m are the receive pairs'
abbrev pub input_in : ℕ → ℕ → ℕ → List ℕ → List ℕ → ℕ → ℕ → ℕ → Input
input_in kind register value positive negative word p m =
    record {
      access = access_of kind register value;
      sample = record { alerts = record { pos = positive; neg = negative }; word = word; receive = Receive.Pairs p m };
    }

-- the first 64 bits of a record: kind, register, zero bits, value
unfoldable pub access_word : Access → ℕ
access_word a = pack (head newest) (head_fields a)

-- the bytes of the n words f 0, f 1, ..
unfoldable pub word_bytes : ℕ → (ℕ → ℕ) → List ℕ
word_bytes zero f = []
word_bytes (suc n) f = word_bytes n f ++ to_bytes 8 (f n)

-- the bytes of a wire set of four words: three of them whole, and seven bytes of the last
abbrev pub set_bytes : (ℕ → ℕ) → List ℕ
set_bytes f = word_bytes 3 f ++ to_bytes 7 (f 3 / 2 ^ 8)

-- the bytes behind the wires: the entropy word, and a byte of four receive pairs, line 0 and positive wire first
abbrev pub last_bytes : ℕ → ℕ → ℕ → List ℕ
last_bytes word p m = to_bytes 4 word ++ (pair_bits (Receive.Pairs p m) ∷ [])

-- entry i has an access that no well-formed record holds
abbrev pub unrecordable_at : Lent → ℕ → Bool
unrecordable_at l i = not (recordable newest (input_at l i).access)

-- a record holds each entry's access, and the buffer has room for all of them
pub record Ready (l : Lent) (buffer : List ℕ) : Type 0 where
  pub each_recordable : any_to (unrecordable_at l) (length l.kinds) ≡ false
  pub room : length l.kinds * record_bytes newest ≤ length buffer

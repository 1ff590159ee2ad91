-- How a list of accesses and samples is lent: eight lists of numbers, of which entry i is tick i's.
-- Assumes nothing.
use Rattle.std.specs.Prelude.{ℕ, ◌+◌, ◌*◌, ◌≤◌, ◌<◌, ◌≡◌, Bool, true, cond, ◌&&◌, List, [], ◌++◌, eqb, ℤ, get_or, length, take, drop, Ok, Err}
use Rattle.bits.specs.Index.{each}
use Rattle.trace_rules.specs.Edition.{newest, record_bytes}
use Rattle.trace_rules.specs.Record.{access_of, kind_of, register_of, value_of, inputs_of}
use Rattle.rules.specs.State.{words}
use Rattle.trace_rules.specs.Writer.{Written, WellFormed, AllSame, write_verdict, write_of, write}
use Rattle.rules.specs.declared.Input.{Input}
use Rattle.rules.specs.declared.Receive.{Receive}
use Rattle.rules.specs.declared.Refusal.TheVariants.{NoRecord}
use Rattle.rules.specs.Answer.{Verdict}

pub record Lent : Type 0 where
  pub kinds : List ℕ
  pub registers : List ℕ
  pub values : List ℕ
  -- the words of 64 of each: alert 0 is the highest bit of the first
  pub positive : List ℕ
  pub negative : List ℕ
  -- request (ix): the entropy word of each; request (xi): the positive and the negative wires of its four receive pairs, line 0 lowest; bits from 4 up
  -- are not in its record
  pub entropy : List ℕ
  pub receive_positive_law : List ℕ
  pub receive_negative_law : List ℕ

abbrev pub lent : List ℕ → List ℕ → List ℕ → List ℕ → List ℕ → List ℕ → List ℕ → List ℕ → Lent
lent kinds registers values positive negative entropy receive_positive_law receive_negative_law =
    record {
      kinds = kinds;
      registers = registers;
      values = values;
      positive = positive;
      negative = negative;
      entropy = entropy;
      receive_positive_law = receive_positive_law;
      receive_negative_law = receive_negative_law;
    }

-- word v of entry i, and the entry's words
abbrev pub word_at : List ℕ → ℕ → ℕ → ℕ
word_at list i v = get_or list (i * words + v) 0

abbrev pub words_at : List ℕ → ℕ → List ℕ
words_at list i = each words (word_at list i)

abbrev pub input_at : Lent → ℕ → Input
input_at l i =
    record {
      access = access_of (get_or l.kinds i 0) (get_or l.registers i 0) (get_or l.values i 0);
      sample =
          record {
            alerts = record { pos = words_at l.positive i; neg = words_at l.negative i };
            word = get_or l.entropy i 0;
            receive = Receive.Pairs (get_or l.receive_positive_law i 0) (get_or l.receive_negative_law i 0);
          };
    }

unfoldable pub list_of : Lent → List Input
list_of l = each (length l.kinds) (input_at l)

abbrev pub even : Lent → Bool
even l =
    eqb (length l.registers) (length l.kinds)
    && (eqb (length l.values) (length l.kinds)
    && (eqb (length l.positive) (length l.kinds * words)
    && (eqb (length l.negative) (length l.kinds * words)
    && (eqb (length l.entropy) (length l.kinds)
    && (eqb (length l.receive_positive_law) (length l.kinds) && eqb (length l.receive_negative_law) (length l.kinds))))))

-- lists of unequal lengths name a tick that lacks a part, which no record holds: 10
unfoldable pub write_lent : Lent → List ℕ → Written
write_lent l buffer = cond (even l) (write newest (list_of l) buffer) (write_of newest (Err NoRecord) [] buffer)

-- what a call gives: the answer r and the buffer that it leaves
pub record Wrote (l : Lent) (buffer : List ℕ) (r : ℤ) (left : List ℕ) : Type 0 where
  pub answer : r ≡ (write_lent l buffer).answer
  pub bytes : left ≡ (write_lent l buffer).buffer

-- each access of the list has the numbers that were lent
abbrev pub Numbers : Lent → Type 0
Numbers l =
    (i : ℕ) → i < length l.kinds
    → (kind_of (input_at l i).access ≡ get_or l.kinds i 0)
    × (register_of (input_at l i).access ≡ get_or l.registers i 0)
    × (value_of (input_at l i).access ≡ get_or l.values i 0)

-- reading what was written gives the same accesses, the same 248 pairs of wires, the same words and the same four receive pairs, for every list
-- that is not refused
abbrev pub ReadBack : Lent → List ℕ → List ℕ → Type 0
ReadBack l buffer left =
    even l ≡ true → write_verdict newest (list_of l) buffer ≡ Ok tt
    → AllSame newest (list_of l) (inputs_of newest (take (length l.kinds * record_bytes newest) left)) × Numbers l

-- writing what was read gives the same bytes, for all well-formed records
abbrev pub WrittenBack : Lent → List ℕ → List ℕ → Type 0
WrittenBack l buffer left =
    (bytes : List ℕ) → WellFormed newest bytes → even l ≡ true → list_of l ≡ inputs_of newest bytes → length bytes ≤ length buffer → left ≡ bytes ++ drop (length bytes) buffer

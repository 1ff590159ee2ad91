-- A tick and a writing as a caller in C hands them in, in sentences: numbers and lists of numbers, and no definition of the rules. The form of
-- the calls is this repository's, as document 01 leaves it open: the quotes are of the boundary's comments, but for those of document 01 below.
-- Assumes nothing.
use Rattle.std.specs.Prelude.{ℕ, ◌+◌, ◌*◌, ◌≤◌, ◌<◌, ◌≡◌, ◌⊎◌, ◌≢◌, List, ℤ, get_or, length}
use Rattle.boundary.specs.declared.Wired.{Wired}
use Rattle.rules.specs.declared.Access.{Access}
use Rattle.rules.specs.declared.Input.{Input}
use Rattle.rules.specs.declared.Receive.{Receive}
use Rattle.trace_sentences.specs.Writers.{entry, Refuses, WriteIs}

-- ── a tick: "0 none, 1 read, 2 write. Any other is a malformed record. What the kind does not use is not looked at." ──

pub record TickInput (kind register value : ℕ) (w : Wired) (x : Input) : Type 0 where
  pub nothing : kind ≡ 0 → x.access ≡ Access.Nothing
  pub read : kind ≡ 1 → x.access ≡ Access.Read register
  pub write : kind ≡ 2 → x.access ≡ Access.Write register value
  pub other : 3 ≤ kind → x.access ≡ Access.Malformed
  -- the alerts' pairs and the word as they were handed in
  pub alerts : x.sample.alerts ≡ w.alerts
  pub word : x.sample.word ≡ w.word
  -- "receive pairs are checked": request (xi) leaves those of older editions unchecked, and a call has none
  pub receive : x.sample.receive ≡ Receive.Pairs w.receive_positive w.receive_negative

abbrev pub TickInputs : (ℕ → ℕ → ℕ → Wired → Input) → Type 0
TickInputs by = (kind register value : ℕ) (w : Wired) → TickInput kind register value w (by kind register value w)

-- ── a writing: eight lists of numbers, of which entry i is tick i's, as a record would hold it ──

pub record Lists : Type 0 where
  pub kinds : List ℕ
  pub registers : List ℕ
  pub values : List ℕ
  pub positive : List ℕ
  pub negative : List ℕ
  -- request (ix): the word of each tick; request (xi): the positive and the negative wires of its receive pairs
  pub entropy : List ℕ
  pub receive_positive_law : List ℕ
  pub receive_negative_law : List ℕ

pub record EntryIs (kind register value : ℕ) (a : Access) : Type 0 where
  pub nothing : kind ≡ 0 → register ≡ 0 → value ≡ 0 → a ≡ Access.Nothing
  pub read : kind ≡ 1 → value ≡ 0 → a ≡ Access.Read register
  pub write : kind ≡ 2 → a ≡ Access.Write register value
  -- document 01, "Malformed": "kind 3, .., a read with a value, kind 0 with a register or value"
  pub other : 3 ≤ kind → a ≡ Access.Malformed
  pub read_value : kind ≡ 1 → value ≢ 0 → a ≡ Access.Malformed
  pub nothing_register : kind ≡ 0 → register ≢ 0 → a ≡ Access.Malformed
  pub nothing_value : kind ≡ 0 → value ≢ 0 → a ≡ Access.Malformed

-- four words of 64 for each tick
pub record FourOf (list : List ℕ) (i : ℕ) (ws : List ℕ) : Type 0 where
  pub four : length ws ≡ 4
  pub word : (v : ℕ) → v < 4 → get_or ws v 0 ≡ get_or list (i * 4 + v) 0

pub record ListIs (l : Lists) (xs : List Input) : Type 0 where
  pub many : length xs ≡ length l.kinds
  pub access : (i : ℕ) → i < length l.kinds → EntryIs (get_or l.kinds i 0) (get_or l.registers i 0) (get_or l.values i 0) (entry xs i).access
  pub pos : (i : ℕ) → i < length l.kinds → FourOf l.positive i (entry xs i).sample.alerts.pos
  pub neg : (i : ℕ) → i < length l.kinds → FourOf l.negative i (entry xs i).sample.alerts.neg
  -- requests (ix) and (xi): the words and the receive pairs as they were handed in
  pub word : (i : ℕ) → i < length l.kinds → (entry xs i).sample.word ≡ get_or l.entropy i 0
  pub receive :
      (i : ℕ) → i < length l.kinds → (entry xs i).sample.receive ≡ Receive.Pairs (get_or l.receive_positive_law i 0) (get_or l.receive_negative_law i 0)

-- a reading: lists of unequal lengths name a tick that lacks a part, which no record holds, so 10
abbrev pub Uneven : Lists → Type 0
Uneven l =
    (length l.registers ≢ length l.kinds)
    ⊎ ((length l.values ≢ length l.kinds)
    ⊎ ((length l.positive ≢ length l.kinds * 4)
    ⊎ ((length l.negative ≢ length l.kinds * 4)
    ⊎ ((length l.entropy ≢ length l.kinds)
    ⊎ ((length l.receive_positive_law ≢ length l.kinds) ⊎ (length l.receive_negative_law ≢ length l.kinds))))))

pub record WriteCall (l : Lists) (buffer : List ℕ) (a : ℤ) (left : List ℕ) : Type 0 where
  pub uneven : Uneven l → Refuses 10 buffer a left
  pub writes : ¬ Uneven l → (xs : List Input) × ListIs l xs × WriteIs xs buffer a left

-- wires in words of 64 bits, and entropy words of 32
pub record Words (l : Lists) : Type 0 where
  pub positive : (i : ℕ) → get_or l.positive i 0 ≤ 18446744073709551615
  pub negative : (i : ℕ) → get_or l.negative i 0 ≤ 18446744073709551615
  pub entropy : (i : ℕ) → get_or l.entropy i 0 ≤ 4294967295

abbrev pub WriteCalls : (Lists → List ℕ → ℤ) → (Lists → List ℕ → List ℕ) → Type 0
WriteCalls answer left = (l : Lists) (buffer : List ℕ) → Words l → WriteCall l buffer (answer l buffer) (left l buffer)

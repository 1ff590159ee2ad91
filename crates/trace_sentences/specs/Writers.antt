-- Request (ii): the trace writer, in sentences: bytes, bit positions and literal numbers, and no definition of the rules.
-- Request (iii): "From here on the writer of (ii) writes the newest record"; request (ix): "Records grow to 75 bytes"; request (xi): "four receive pairs ..
-- replace the answer byte".
-- Assumes nothing.
use Rattle.std.specs.Prelude.{ℕ, ◌+◌, ◌-◌, ◌*◌, ◌/◌, ◌%◌, ◌≤◌, ◌<◌, ◌≡◌, List, [], ℤ, pos, neg_ℤ, get_or, length, take, drop}
use Rattle.bits.specs.Bits.{bit}
use Rattle.rules.specs.declared.Access.{Access}
use Rattle.trace_rules.specs.declared.Edition.TheVariants.{Wires}
use Rattle.rules.specs.declared.Input.{Input}
use Rattle.rules.specs.declared.Receive.{Receive}
use Rattle.trace_sentences.specs.RecordBits.{form, bit_at, Bad, PairsAre, Holds}

-- ── a well-formed record that holds an access ──

pub record HeldIn (bytes : List ℕ) (a : Access) : Type 0 where
  pub size : length bytes ≡ 75
  pub byte : (i : ℕ) → get_or bytes i 0 ≤ 255
  pub well_formed : ¬ Bad (form Wires) bytes
  pub held : (x : Input) × Holds Wires bytes x × (x.access ≡ a)

-- ── "with a record for each": the record of the access and sample x. "Reading what was written gives the same accesses and samples, and writing what was read gives
-- the same bytes for every well-formed record": both follow from these fields (proofs/RoundTrips.antt) ──

pub record RecordOf (x : Input) (bytes : List ℕ) : Type 0 where
  -- "Reading what was written gives the same accesses ..": it is well formed and holds the access
  pub access : HeldIn bytes x.access
  -- ".. and samples": bit by bit, of 248 alerts
  pub positive : (i : ℕ) → i < 248 → bit_at bytes (64 + i) ≡ bit (get_or x.sample.alerts.pos (i / 64) 0) (63 - i % 64)
  pub negative : (i : ℕ) → i < 248 → bit_at bytes (312 + i) ≡ bit (get_or x.sample.alerts.neg (i / 64) 0) (63 - i % 64)
  -- request (ix): "by the word", most significant bit first
  pub word : (i : ℕ) → i < 32 → bit_at bytes (560 + i) ≡ bit x.sample.word (31 - i)
  -- request (xi): "four receive pairs"; a reading: a sample's bits from 4 up are no line's and not in a record
  pub pairs : (p m : ℕ) × (x.sample.receive ≡ Receive.Pairs p m) × PairsAre bytes 592 p m

-- ── the cases ──

-- entry i of a list of accesses and samples; past its end there is none: never read
abbrev pub no_input : Input
no_input = record { access = Access.Nothing; sample = record { alerts = record { pos = []; neg = [] }; word = 0; receive = Receive.Pairs 0 0 } }

abbrev pub entry : List Input → ℕ → Input
entry xs i = get_or xs i no_input

-- "an access that no well-formed record holds"
abbrev pub Case10 : List Input → Type 0
Case10 xs = (i : ℕ) × (i < length xs) × ((bytes : List ℕ) → ¬ HeldIn bytes (entry xs i).access)

-- "when too short"
abbrev pub Case11 : List Input → List ℕ → Type 0
Case11 xs buffer = length buffer < length xs * 75

-- ── what is left: a is the answer, and left is the buffer after ──

-- "is refused with 10 and the lent buffer keeps its bytes, as it does when too short, refused with 11"
pub record Refuses (m : ℕ) (buffer : List ℕ) (a : ℤ) (left : List ℕ) : Type 0 where
  pub answer : a ≡ neg_ℤ (pos m)
  pub bytes : left ≡ buffer

pub record Wrote (xs : List Input) (buffer : List ℕ) (a : ℤ) (left : List ℕ) : Type 0 where
  -- "Success answers the bytes written"
  pub answer : a ≡ pos (length xs * 75)
  -- "with a record for each"
  pub records : (i : ℕ) → i < length xs → RecordOf (entry xs i) (take 75 (drop (i * 75) left))
  -- "later bytes stay"
  pub later : (j : ℕ) → length xs * 75 ≤ j → get_or left j 0 ≡ get_or buffer j 0
  pub lent : length left ≡ length buffer

pub record WriteIs (xs : List Input) (buffer : List ℕ) (a : ℤ) (left : List ℕ) : Type 0 where
  -- "10 comes first"
  pub refused_10 : Case10 xs → Refuses 10 buffer a left
  pub refused_11 : ¬ Case10 xs → Case11 xs buffer → Refuses 11 buffer a left
  pub writes : ¬ Case10 xs → ¬ Case11 xs buffer → Wrote xs buffer a left

-- the wires are arrays of four words of 64, the word has 32 bits, and receive pairs are handed in: no sentence of a request, a proof sees an array as a list,
-- a word as any number, and what comes back from the lines as any of its two kinds
pub record Arrays (x : Input) : Type 0 where
  pub positive : length x.sample.alerts.pos ≡ 4
  pub positive_word : (v : ℕ) → v < 4 → get_or x.sample.alerts.pos v 0 ≤ 18446744073709551615
  pub negative : length x.sample.alerts.neg ≡ 4
  pub negative_word : (v : ℕ) → v < 4 → get_or x.sample.alerts.neg v 0 ≤ 18446744073709551615
  pub word : x.sample.word ≤ 4294967295
  pub pairs : (p m : ℕ) × (x.sample.receive ≡ Receive.Pairs p m)

abbrev pub Writer : (List Input → List ℕ → ℤ) → (List Input → List ℕ → List ℕ) → Type 0
Writer answer left = (xs : List Input) (buffer : List ℕ) → ((i : ℕ) → i < length xs → Arrays (entry xs i)) → WriteIs xs buffer (answer xs buffer) (left xs buffer)

-- "Traces": what the bytes of a record hold, bit by bit, in sentences: bytes, bit positions and literal numbers, and no definition of the rules.
-- Assumes nothing.
use Rattle.std.specs.Prelude.{ℕ, ◌+◌, ◌-◌, ◌*◌, ◌/◌, ◌%◌, ◌^◌, ◌≤◌, ◌<◌, ◌≡◌, ◌⊎◌, Bool, true, false, List, get_or, length}
use Rattle.bits.specs.Bits.{bit}
use Rattle.rules.specs.declared.Access.{Access}
use Rattle.trace_rules.specs.declared.Edition.{Edition}
use Rattle.trace_rules.specs.declared.Edition.TheVariants.{Alerts64, Alerts248, Pings, Wires}
use Rattle.rules.specs.declared.Input.{Input}
use Rattle.rules.specs.declared.Receive.{Receive}

-- ── the forms, one row an edition: where each part begins, counted in bits from the record's first ──

pub record Form : Type 0 where
  pub bytes : ℕ
  pub register_at_law : ℕ
  pub register_bits : ℕ
  pub zeros_at : ℕ
  pub zero_bits : ℕ
  pub value_at : ℕ
  pub positive_at : ℕ
  pub negative_at : ℕ
  pub alerts : ℕ
  -- request (ix): what is behind the wires, and whether the edition has the ping timer
  pub word_at : ℕ
  pub word_bits : ℕ
  pub more_zeros_at : ℕ
  pub more_zero_bits : ℕ
  pub answers_at : ℕ
  pub answer_bits : ℕ
  pub timer : Bool
  -- request (xi): the receive pairs, and whether the senders are checked by them
  pub pairs_at : ℕ
  pub pair_bits : ℕ
  pub checked : Bool

-- "A record is 24 bytes: 2 bits kind .., 10 bits register, 20 zero bits, 32 bits value, 64 positive wires with alert 0 first, 64 negative wires"
abbrev form_of64 : Form
form_of64 =
    record {
      bytes = 24;
      register_at_law = 2;
      register_bits = 10;
      zeros_at = 12;
      zero_bits = 20;
      value_at = 32;
      positive_at = 64;
      negative_at = 128;
      alerts = 64;
      word_at = 192;
      word_bits = 0;
      more_zeros_at = 192;
      more_zero_bits = 0;
      answers_at = 192;
      answer_bits = 0;
      timer = false;
      pairs_at = 192;
      pair_bits = 0;
      checked = false;
    }

-- request (iii): "The new record has an 11-bit register, 19 zero bits, 31 bytes for each wire set: 70 bytes in all"
abbrev form_of248 : Form
form_of248 =
    record {
      bytes = 70;
      register_at_law = 2;
      register_bits = 11;
      zeros_at = 13;
      zero_bits = 19;
      value_at = 32;
      positive_at = 64;
      negative_at = 312;
      alerts = 248;
      word_at = 560;
      word_bits = 0;
      more_zeros_at = 560;
      more_zero_bits = 0;
      answers_at = 560;
      answer_bits = 0;
      timer = false;
      pairs_at = 560;
      pair_bits = 0;
      checked = false;
    }

-- request (ix): "Records grow to 75 bytes by the word, four zero bits and four answer bits, line 0 first"
abbrev form_of_pings : Form
form_of_pings =
    record {
      bytes = 75;
      register_at_law = 2;
      register_bits = 11;
      zeros_at = 13;
      zero_bits = 19;
      value_at = 32;
      positive_at = 64;
      negative_at = 312;
      alerts = 248;
      word_at = 560;
      word_bits = 32;
      more_zeros_at = 592;
      more_zero_bits = 4;
      answers_at = 596;
      answer_bits = 4;
      timer = true;
      pairs_at = 600;
      pair_bits = 0;
      checked = false;
    }

-- request (xi): "In records four receive pairs .. replace the answer byte", the four zero bits too
abbrev form_of_wires : Form
form_of_wires =
    record {
      bytes = 75;
      register_at_law = 2;
      register_bits = 11;
      zeros_at = 13;
      zero_bits = 19;
      value_at = 32;
      positive_at = 64;
      negative_at = 312;
      alerts = 248;
      word_at = 560;
      word_bits = 32;
      more_zeros_at = 592;
      more_zero_bits = 0;
      answers_at = 592;
      answer_bits = 0;
      timer = true;
      pairs_at = 592;
      pair_bits = 8;
      checked = true;
    }

abbrev pub form : Edition → Form
form Alerts64 = form_of64
form Alerts248 = form_of248
form Pings = form_of_pings
form Wires = form_of_wires

-- ── the words of the sentences ──

-- bit n of some bytes, "Most significant bit first"
abbrev pub bit_at : List ℕ → ℕ → Bool
bit_at bytes n = bit (get_or bytes (n / 8) 0) (7 - n % 8)

-- the number v stands in the w bits from bit n on
pub record Stands (bytes : List ℕ) (n w v : ℕ) : Type 0 where
  pub size : v < 2 ^ w
  pub bits : (i : ℕ) → i < w → bit v (w - 1 - i) ≡ bit_at bytes (n + i)

-- a bit among the w from bit n on is not zero
abbrev pub Some : List ℕ → ℕ → ℕ → Type 0
Some bytes n w = (i : ℕ) × (i < w) × (bit_at bytes (n + i) ≡ true)

-- "2 bits kind (0 none, 1 read, 2 write)": the record's first two
abbrev pub Kind : List ℕ → ℕ → Type 0
Kind bytes k = Stands bytes 0 2 k

-- "Malformed: kind 3, a nonzero bit among the 20, a read with a value, kind 0 with a register or value"; request (ix), a reading: a nonzero bit among the
-- "four zero bits" too
abbrev pub Bad : Form → List ℕ → Type 0
Bad f bytes =
    Kind bytes 3
    ⊎ (Some bytes f.zeros_at f.zero_bits
    ⊎ (Some bytes f.more_zeros_at f.more_zero_bits
    ⊎ ((Kind bytes 1 × Some bytes f.value_at 32)
    ⊎ (Kind bytes 0 × (Some bytes f.register_at_law f.register_bits ⊎ Some bytes f.value_at 32)))))

-- request (ix): "Add registers 4 .., 5 .. and 6"; "older editions keep their words": in them these three are as unassigned as they were, and all others are
-- as they are. A reading: 3 stands for what is unassigned, which is assigned to nothing in any edition
pub record Kept (r q : ℕ) : Type 0 where
  pub below : r < 4 → q ≡ r
  pub timer : 4 ≤ r → r ≤ 6 → q ≡ 3
  pub above : 7 ≤ r → q ≡ r

-- request (iii): "their register numbers carried over, numbers unassigned then still refused with 1": document 01's number r is now q
pub record Carried (r q : ℕ) : Type 0 where
  -- the numbers below 64 as they are, but for the timer's
  pub low : r < 64 → Kept r q
  -- "64+i, 128+i, 192+i, 256+i": "Alert blocks move to 256, 512, 768 and 1024"
  pub regwen : (i : ℕ) → i < 64 → r ≡ 64 + i → q ≡ 256 + i
  pub en : (i : ℕ) → i < 64 → r ≡ 128 + i → q ≡ 512 + i
  pub class : (i : ℕ) → i < 64 → r ≡ 192 + i → q ≡ 768 + i
  pub cause : (i : ℕ) → i < 64 → r ≡ 256 + i → q ≡ 1024 + i
  -- "320+16k": "classes to 1280+16k"
  pub classes : (o : ℕ) → o < 64 → r ≡ 320 + o → q ≡ 1280 + o
  -- all others were unassigned
  pub none : 384 ≤ r → q ≡ 3

abbrev pub Means : Edition → ℕ → ℕ → Type 0
Means Alerts64 r q = Carried r q
Means Alerts248 r q = Kept r q
Means Pings r q = q ≡ r
Means Wires r q = q ≡ r

-- the register that the record names
abbrev pub Names : Edition → List ℕ → ℕ → Type 0
Names e bytes q = (r : ℕ) × Stands bytes (form e).register_at_law (form e).register_bits r × Means e r q

-- n wires from bit s on are four words of 64: alert i has bit 63 - i % 64 of word i / 64, and what is past the wires is 0
pub record WiresAre (bytes : List ℕ) (s n : ℕ) (ws : List ℕ) : Type 0 where
  -- "positive wires with alert 0 first"
  pub wire : (i : ℕ) → i < n → bit (get_or ws (i / 64) 0) (63 - i % 64) ≡ bit_at bytes (s + i)
  pub past : (i : ℕ) → n ≤ i → i < 256 → bit (get_or ws (i / 64) 0) (63 - i % 64) ≡ false
  pub words : length ws ≡ 4
  pub word : (v : ℕ) → v < 4 → get_or ws v 0 ≤ 18446744073709551615

-- the w answers from bit n on: in a sample line l has bit l
pub record AnswersAre (bytes : List ℕ) (n w a : ℕ) : Type 0 where
  -- "four answer bits, line 0 first"
  pub line : (l : ℕ) → l < w → bit a l ≡ bit_at bytes (n + l)
  -- and no bit above them
  pub size : a < 2 ^ w

-- the four receive pairs from bit n on: in a sample line l has bit l of the positive wires p and of the negative wires m
pub record PairsAre (bytes : List ℕ) (n p m : ℕ) : Type 0 where
  -- "line 0 and positive wire first"
  pub positive : (l : ℕ) → l < 4 → bit p l ≡ bit_at bytes (n + 2 * l)
  pub negative : (l : ℕ) → l < 4 → bit m l ≡ bit_at bytes (n + (2 * l + 1))

-- what comes back from the lines
pub record ReceiveIs (f : Form) (bytes : List ℕ) (r : Receive) : Type 0 where
  -- request (xi): "older editions run as in (ix), senders unchecked"; in a form without answer bits no number but 0 has its bits
  pub answers : f.checked ≡ false → (a : ℕ) × AnswersAre bytes f.answers_at f.answer_bits a × (r ≡ Receive.Answers a)
  -- "four receive pairs", and no bit above them
  pub pairs : f.checked ≡ true → (p m : ℕ) × PairsAre bytes f.pairs_at p m × (p < 16) × (m < 16) × (r ≡ Receive.Pairs p m)

-- ── the sentences: x is the access and sample of the record's bytes ──

pub record Holds (e : Edition) (bytes : List ℕ) (x : Input) : Type 0 where
  -- "Malformed: .."; "Each is given exactly in its case": 5
  pub malformed : Bad (form e) bytes → x.access ≡ Access.Malformed
  -- "0 none"
  pub nothing : ¬ Bad (form e) bytes → Kind bytes 0 → x.access ≡ Access.Nothing
  -- "1 read"
  pub read : ¬ Bad (form e) bytes → Kind bytes 1 → (q : ℕ) × Names e bytes q × (x.access ≡ Access.Read q)
  -- "2 write"
  pub write : ¬ Bad (form e) bytes → Kind bytes 2
      → (q v : ℕ) × Names e bytes q × Stands bytes (form e).value_at 32 v × (x.access ≡ Access.Write q v)
  -- "64 positive wires with alert 0 first, 64 negative wires"
  pub positive : WiresAre bytes (form e).positive_at (form e).alerts x.sample.alerts.pos
  pub negative : WiresAre bytes (form e).negative_at (form e).alerts x.sample.alerts.neg
  -- request (ix): "by the word", of a malformed record too; in a form without it no number but 0 has its bits
  pub word : Stands bytes (form e).word_at (form e).word_bits x.sample.word
  -- requests (ix) and (xi), of a malformed record too
  pub receive : ReceiveIs (form e) bytes x.sample.receive

-- a reader of records: of as many bytes as the form says, each a byte
abbrev pub Reader : (Edition → List ℕ → Input) → Type 0
Reader read = (e : Edition) (bytes : List ℕ) → length bytes ≡ (form e).bytes → ((i : ℕ) → get_or bytes i 0 ≤ 255) → Holds e bytes (read e bytes)

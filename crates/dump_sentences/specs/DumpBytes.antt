-- Request (xiv), "The dump after a theft": which bit of a dump is what, in sentences: bytes, bit positions and literal numbers, and no definition of the rules. Places are
-- counted in bits from the first of the first byte, "most significant bit first".
-- Assumes nothing.
use Rattle.std.specs.Prelude.{ℕ, suc, ◌+◌, ◌-◌, ◌*◌, ◌/◌, ◌≤◌, ◌<◌, ◌≡◌, ◌↔◌, true, false, List, get_or, length}
use Rattle.bits.specs.Bits.{bit}
use Rattle.rules.specs.declared.Handler.{Handler}
use Rattle.rules.specs.declared.Register.{Register}
use Rattle.sentences.specs.AccessMap.{Names}
use Rattle.sentences.specs.Raw.{class_of, code}
use Rattle.trace_sentences.specs.RecordBits.{bit_at}

-- the register of number r has an open stage, of value v; by request (v) a stage holds 0 where nothing is staged, and v + 1 where v is
abbrev pub Staged : Handler → ℕ → ℕ → Type 0
Staged h r v = (q : Register) × Names h.n r q × (code h q ≡ v + 1)

-- a full byte behind the 267 + 2 * n bits of a handler of n alerts up to its locks: where the number of open stages begins, counted in bytes
abbrev pub stages_at : ℕ → ℕ
stages_at n = (274 + 2 * n) / 8

-- a number's w bits stand at place p
abbrev pub Stands : List ℕ → ℕ → ℕ → ℕ → Type 0
Stands bytes p w x = (j : ℕ) → j < w → bit_at bytes (p + j) ≡ bit x (w - 1 - j)

-- ── "each class's STATE, count and accumulator (3, 32, 16)": class k, 51 bits each from 40 on ──

pub record ClassBits (h : Handler) (bytes : List ℕ) (k : ℕ) : Type 0 where
  pub state : Stands bytes (40 + 51 * k) 3 (class_of h k).state
  pub count : Stands bytes (43 + 51 * k) 32 (class_of h k).count
  pub accumulator : Stands bytes (75 + 51 * k) 16 (class_of h k).accum

-- ── "all causes, all locks, CLR_REGWEN too (a bit each, 1 for locked, register numbers rising)" ──

pub record CauseBits (h : Handler) (bytes : List ℕ) : Type 0 where
  -- registers 40 to 46
  pub locals : (j : ℕ) → j < 7 → (bit_at bytes (244 + j) ≡ true) ↔ (get_or h.locals.cause j 0 ≡ 1)
  -- registers 1024 on, N of them
  pub alerts : (i : ℕ) → i < h.n → (bit_at bytes (251 + i) ≡ true) ↔ (get_or h.alerts.cause i 0 ≡ 1)

pub record LockBits (h : Handler) (bytes : List ℕ) : Type 0 where
  -- register 4; "1 for locked": its REGWEN is 0
  pub timer : (bit_at bytes (251 + h.n) ≡ true) ↔ (h.timer.regwen ≡ 0)
  -- registers 16 to 22
  pub locals : (j : ℕ) → j < 7 → (bit_at bytes (252 + h.n + j) ≡ true) ↔ (get_or h.locals.regwen j 0 ≡ 0)
  -- registers 256 on, N of them
  pub alerts : (i : ℕ) → i < h.n → (bit_at bytes (259 + h.n + i) ≡ true) ↔ (get_or h.alerts.regwen i 0 ≡ 0)
  -- registers 1280, 1296, 1312 and 1328, each with its CLR_REGWEN behind it, 1282, 1298, 1314 and 1330
  pub classes : (k : ℕ) → k < 4 → (bit_at bytes (259 + 2 * h.n + 2 * k) ≡ true) ↔ ((class_of h k).regwen ≡ 0)
  pub clears : (k : ℕ) → k < 4 → (bit_at bytes (260 + 2 * h.n + 2 * k) ≡ true) ↔ ((class_of h k).clrwen ≡ 0)

-- ── "the number of open stages (16) and, numbers rising, each one's register and value (16, 32)" ──

pub record StageBits (h : Handler) (bytes : List ℕ) : Type 0 where
  -- how many registers of numbers below r have an open stage; the highest number is 1339
  pub many : ℕ → ℕ
  pub none : many 0 ≡ 0
  pub one_more : (r v : ℕ) → r < 1344 → Staged h r v → many (suc r) ≡ suc (many r)
  pub no_more : (r : ℕ) → r < 1344 → ((v : ℕ) → ¬ Staged h r v) → many (suc r) ≡ many r
  -- "the number of open stages (16)"
  pub number : Stands bytes (8 * stages_at h.n) 16 (many 1344)
  -- "numbers rising, each one's register and value (16, 32)": 48 bits each, behind those of lower numbers
  pub register : (r v : ℕ) → r < 1344 → Staged h r v → Stands bytes (8 * stages_at h.n + 16 + 48 * many r) 16 r
  pub value : (r v : ℕ) → r < 1344 → Staged h r v → Stands bytes (8 * stages_at h.n + 32 + 48 * many r) 32 v
  -- and nothing behind them
  pub size : length bytes ≡ stages_at h.n + 2 + 6 * many 1344

-- ── the bytes are the dump of the state h ──

pub record DumpOf (h : Handler) (bytes : List ℕ) : Type 0 where
  pub byte : (i : ℕ) → get_or bytes i 0 ≤ 255
  -- "begins with the four bytes TDMP"
  pub mark_t : get_or bytes 0 0 ≡ 84
  pub mark_d : get_or bytes 1 0 ≡ 68
  pub mark_m : get_or bytes 2 0 ≡ 77
  pub mark_p : get_or bytes 3 0 ≡ 80
  -- "N (8 bits)"
  pub alerts : Stands bytes 32 8 h.n
  pub classes : (k : ℕ) → k < 4 → ClassBits h bytes k
  pub causes : CauseBits h bytes
  pub locks : LockBits h bytes
  -- "zeros to a full byte"
  pub zeros : (p : ℕ) → 267 + 2 * h.n ≤ p → p < 8 * stages_at h.n → bit_at bytes p ≡ false
  pub stages : StageBits h bytes

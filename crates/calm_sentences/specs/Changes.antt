-- Request (xii), "Skip the calm": the changes of the lines and their words, in sentences: bit positions and literal numbers, and no definition of the rules.
-- Bit 63 is the most significant of the 64.
-- Assumes nothing.
use Rattle.std.specs.Prelude.{ℕ, suc, ◌+◌, ◌-◌, ◌≤◌, ◌<◌, ◌≡◌, ◌≢◌, false, List, get_or, length}
use Rattle.bits.specs.Bits.{bit}

-- lit and next are the lines of a tick and of the tick after it, line 0 the lowest bit: "a line changed"
abbrev pub Changed : ℕ → ℕ → Type 0
Changed lit next = (e : ℕ) × (e < 4) × (bit next e ≢ bit lit e)

-- ── "as words: lines (4 bits, line 0 first), 28 zeros, tick" ──

pub record ChangeWord (lit t word : ℕ) : Type 0 where
  -- "lines (4 bits, line 0 first)": bits 63 to 60, the lines of that tick
  pub lines : (e : ℕ) → e < 4 → bit word (63 - e) ≡ bit lit e
  -- "28 zeros": bits 59 to 32
  pub zeros : (k : ℕ) → k < 28 → bit word (32 + k) ≡ false
  -- "tick": bits 31 to 0
  pub tick : (k : ℕ) → k < 32 → bit word k ≡ bit t k
  -- a word of 64 bits
  pub bits : word ≤ 18446744073709551615

-- ── the lent list: lit t are the lines of tick t of n, list is the list at entry and left the list after the call; count is the number of changes ──

pub record ChangeList (n : ℕ) (lit : ℕ → ℕ) (list left : List ℕ) (count : ℕ) : Type 0 where
  -- how many ticks up to tick t changed a line: "every tick at which a line changed", and no other; "(the first is 1)", so tick 0 is none
  pub many : ℕ → ℕ
  pub none : many 0 ≡ 0
  pub one_more : (t : ℕ) → t < n → Changed (lit t) (lit (suc t)) → many (suc t) ≡ suc (many t)
  pub no_more : (t : ℕ) → t < n → ¬ Changed (lit t) (lit (suc t)) → many (suc t) ≡ many t
  pub all : count ≡ many n
  -- "in order, as words": that of a tick stands behind those of the ticks before it
  pub word : (t : ℕ) → t < n → Changed (lit t) (lit (suc t)) → ChangeWord (lit (suc t)) (suc t) (get_or left (many t) 0)
  -- "later entries stay"
  pub later : (i : ℕ) → count ≤ i → get_or left i 0 ≡ get_or list i 0
  pub lent : length left ≡ length list

-- "Numbers that come back", refusal 7, of one class, in sentences: raw fields and plain comparisons, and no definition of the rules.
-- Assumes nothing.
use Rattle.std.specs.Prelude.{ℕ, ◌+◌, ◌≤◌, ◌<◌, ◌≡◌, ◌↔◌, ◌≢◌, Bool, true, get_or}
use Rattle.class_rules.specs.declared.Class.{Class}

-- the count suits the state; STATE reads Idle 0, Timeout 1, Terminal 3, phases 4 to 7
pub record CountFits (state count : ℕ) : Type 0 where
  -- "or a class count that is not 0 in Idle or Terminal"
  pub in_idle : state ≡ 0 → count ≡ 0
  pub in_terminal : state ≡ 3 → count ≡ 0
  -- "or is 0 in Timeout or a phase"
  pub in_timeout : state ≡ 1 → 1 ≤ count
  pub in_phase_law : (p : ℕ) → p < 4 → state ≡ 4 + p → 1 ≤ count

-- the block of a class that refusal 7 does not meet
pub record Fits (c : Class) : Type 0 where
  -- "any register holding more than its field's bits (.., a CTRL over 0x3FFF and so on)": 1, 14, 1, 16, 16, 32, 32, 32 and 3 bits
  pub regwen : c.regwen ≤ 1
  pub ctrl : c.ctrl ≤ 0x3FFF
  pub clrwen : c.clrwen ≤ 1
  pub accum : c.accum ≤ 65535
  pub thresh : c.thresh ≤ 65535
  pub timeout : c.timeout ≤ 4294967295
  pub lengths : (p : ℕ) → p < 4 → get_or c.lengths p 0 ≤ 4294967295
  pub count : c.count ≤ 4294967295
  pub state : c.state ≤ 7
  -- "a STATE of 2"
  pub is_state : c.state ≢ 2
  -- "or a class count that is not 0 in Idle or Terminal or is 0 in Timeout or a phase"
  pub suits : CountFits c.state c.count

-- a test of refusal 7 of one class
abbrev pub ClassFits : (Class → Bool) → Type 0
ClassFits fits = (c : Class) → (fits c ≡ true) ↔ Fits c

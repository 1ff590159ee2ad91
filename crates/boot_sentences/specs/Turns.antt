-- Request (vi), "Boot policy": the accesses of a boot, in order, in sentences.
-- Assumes nothing.
use Rattle.std.specs.Prelude.{ℕ, ◌+◌, ◌*◌, ◌<◌, ◌≡◌}
use Rattle.boot_sentences.specs.Order.{Put}
use Rattle.boot_sentences.specs.Order.Put.{twice, once, none}

-- a value is written to a register's number; a register is read, and is to hold this value; or there is no access
pub data Turn : Type 0 where
  writes : ℕ → ℕ → Turn
  reads : ℕ → ℕ → Turn
  nothing : Turn

-- the turns 0 to 608 of a boot, three for each of the 203 places
pub record Turns (put : ℕ → Put) (turn : ℕ → Turn) : Type 0 where
  -- request (v): a shadowed register takes "two equal writes"
  pub first_write : (j r v : ℕ) → j < 203 → put j ≡ twice r v → turn (3 * j) ≡ writes r v
  pub second_write : (j r v : ℕ) → j < 203 → put j ≡ twice r v → turn (3 * j + 1) ≡ writes r v
  -- "It reads each register back right after its write (the second, where shadowed)"
  pub read_back : (j r v : ℕ) → j < 203 → put j ≡ twice r v → turn (3 * j + 2) ≡ reads r v
  pub one_write : (j r v : ℕ) → j < 203 → put j ≡ once r v → turn (3 * j) ≡ writes r v
  pub no_second : (j r v : ℕ) → j < 203 → put j ≡ once r v → turn (3 * j + 1) ≡ nothing
  pub one_read : (j r v : ℕ) → j < 203 → put j ≡ once r v → turn (3 * j + 2) ≡ reads r v
  -- where nothing is put there is no access
  pub none_first : (j : ℕ) → j < 203 → put j ≡ none → turn (3 * j) ≡ nothing
  pub none_second : (j : ℕ) → j < 203 → put j ≡ none → turn (3 * j + 1) ≡ nothing
  pub none_third : (j : ℕ) → j < 203 → put j ≡ none → turn (3 * j + 2) ≡ nothing

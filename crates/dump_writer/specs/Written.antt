-- That a buffer has room for a dump.
-- Assumes nothing.
use Rattle.std.specs.Prelude.{◌≡◌, ℕ, ◌+◌, ◌*◌, ◌≤◌, length}
use Rattle.rules.specs.Map.{decode}
use Rattle.rules.specs.Stages.{is_open}
use Rattle.rules.specs.declared.Handler.{Handler}
use Rattle.dump_rules.specs.Dump.{to_full, head_bits}
use Rattle.dump_rules.specs.Reader.{cause_count, lock_count}
use Rattle.dump_rules.specs.Shown.{picks, limit}

-- a buffer of so many bytes has room for the dump of a state, with so many zeros and stages
pub record Sized (h : Handler) (room z k : ℕ) : Type 0 where
  pub zeros : z ≡ to_full (head_bits (cause_count h.n) (lock_count h.n))
  pub stages : k ≡ length (picks (λ r. is_open h.stages (decode h.n r)) 0 limit)
  pub fits : 260 + cause_count h.n + lock_count h.n + z + 48 * k ≤ 8 * room

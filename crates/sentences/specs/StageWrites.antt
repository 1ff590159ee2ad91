-- Request (v), shadow writes: what an access makes of each stage, in sentences: raw fields and plain comparisons, and no definition of the rules.
-- A stage is one code: 0 where none is open, the staged value plus 1 where one is.
-- Assumes nothing.
use Rattle.std.specs.Prelude.{ℕ, ◌+◌, ◌≤◌, ◌<◌, ◌≡◌, get_or}
use Rattle.rules.specs.declared.Access.{Access}
use Rattle.rules.specs.declared.Handler.{Handler}
use Rattle.rules.specs.declared.Register.{Register}
use Rattle.sentences.specs.AccessMap.{Names, Shadowed}
use Rattle.sentences.specs.AccessRefusals.{Reads, Writes, Given3, Given12, Accepted}
use Rattle.sentences.specs.AccessWrites.{Commits}
use Rattle.sentences.specs.Raw.{code}

pub record Staged (h : Handler) (x : Access) (g : Handler) : Type 0 where
  -- "the first is staged"
  pub first : (q : Register) (v : ℕ) → Accepted h x → Writes h x q v → Shadowed q → code h q ≡ 0 → code g q ≡ v + 1
  -- "the second commits"; a reading: its stage is then gone
  pub second : (q : Register) (v : ℕ) → Shadowed q → Commits h x q v → code g q ≡ 0
  -- "A read of that register drops its stage."
  pub read : (q : Register) → Accepted h x → Reads h x q → code g q ≡ 0
  -- "one refused with 3 drops the stage of that register"
  pub locked : (q : Register) (v : ℕ) → Given3 h x → Writes h x q v → code g q ≡ 0
  -- "A differing second write drops the stage"
  pub differs : (q : Register) (v : ℕ) → Given12 h x → Writes h x q v → code g q ≡ 0
  -- a reading: every other stage stays. "A write refused with 1, 2 or 4 touches no stage", nor one refused with 5 or 14: these leave the whole state
  pub stays : (r : ℕ) (q : Register) → Names h.n r q → ¬ Reads h x q → ¬ ((v : ℕ) × Writes h x q v) → code g q ≡ code h q
  -- "Stored entries at N and above are no registers: .. no call changes them."
  pub above_en : (i : ℕ) → h.n ≤ i → i < 248 → get_or g.stages.alerts.en i 0 ≡ get_or h.stages.alerts.en i 0
  pub above_class : (i : ℕ) → h.n ≤ i → i < 248 → get_or g.stages.alerts.class i 0 ≡ get_or h.stages.alerts.class i 0

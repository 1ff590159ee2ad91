-- "One tick, in order", step 5 of one class and line, in one sentence: raw fields and plain comparisons, and no definition of the rules.
-- Assumes nothing.
use Rattle.std.specs.Prelude.{ℕ, ◌+◌, ◌*◌, ◌<◌, ◌≡◌, ◌↔◌, Bool, true}
use Rattle.bits.specs.Bits.{bit, field}
use Rattle.class_rules.specs.declared.Class.{Class}

-- "Class k drives line e if enable e is set and k is in the phase that map e names": exactly then
-- "2 to 5 line enables, 6 to 13 line maps, two bits a line"; "STATE reads .. phases 4 to 7"
abbrev pub DrivesLine : Class → ℕ → Type 0
DrivesLine c e = (bit c.ctrl (2 + e) ≡ true) × (c.state ≡ 4 + field (6 + 2 * e) 2 c.ctrl)

abbrev pub Drives : (Class → ℕ → Bool) → Type 0
Drives drives = (c : Class) (e : ℕ) → e < 4 → (drives c e ≡ true) ↔ DrivesLine c e

-- Step 5, of the parts of the state that it reads: what the code of a tick and of calm ticks cites.
-- Assumes nothing.
use Rattle.std.specs.Prelude.{ℕ, ◌&&◌, List, get_or}
use Rattle.bits.specs.Bits.{bit, bits_of}
use Rattle.bits.specs.Index.{any_to}
use Rattle.class_rules.specs.Class.{drives, no_class}
use Rattle.class_rules.specs.declared.Class.{Class}
use Rattle.rules.specs.State.{class_count}

-- INTR_STATE and INTR_ENABLE, bit by bit
unfoldable pub interrupts_on : ℕ → ℕ → ℕ
interrupts_on state enable = bits_of 4 (λ k. bit state k && bit enable k)

-- a line is on if any class drives it
unfoldable pub lines_on : List Class → ℕ
lines_on cs = bits_of 4 (λ e. any_to (λ k. drives (get_or cs k no_class) e) class_count)

-- Steps 3 and 4 of the four classes, over class k, from masks with a bit for each class: INTR_STATE, what is assigned, the clears.
-- Assumes nothing.
use Rattle.std.specs.Prelude.{ℕ, Bool, ◌||◌, List, get_or}
use Rattle.bits.specs.Bits.{bit, bits_of}
use Rattle.bits.specs.Index.{each}
use Rattle.class_rules.specs.Class.{no_class}
use Rattle.class_rules.specs.Step.{class_event, class_step}
use Rattle.class_rules.specs.declared.Class.{Class}
use Rattle.class_rules.specs.declared.Signals.{Signals}
use Rattle.rules.specs.State.{class_count}

-- the interrupt bit of class k, c, now
unfoldable pub interrupt_by : Class → ℕ → ℕ → ℕ → Bool
interrupt_by c k state assigned = bit state k || class_event (bit assigned k) c

-- what class k, c, meets
unfoldable pub met_by : Class → ℕ → ℕ → ℕ → ℕ → Signals
met_by c k state assigned clears =
    record { event = class_event (bit assigned k) c; interrupt = interrupt_by c k state assigned; clear = bit clears k }

-- the four classes after steps 3 and 4
unfoldable pub classes_by : List Class → ℕ → ℕ → ℕ → List Class
classes_by cs state assigned clears =
    each class_count (λ k. class_step (met_by (get_or cs k no_class) k state assigned clears) (get_or cs k no_class))

-- INTR_STATE after step 3
unfoldable pub interrupts_by : List Class → ℕ → ℕ → ℕ
interrupts_by cs state assigned = bits_of 4 (λ k. interrupt_by (get_or cs k no_class) k state assigned)

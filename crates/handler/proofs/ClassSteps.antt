-- The parts that the code makes of the sampled state are steps 2 to 5 of the rules.
-- Assumes nothing.
use Prim.Native.Nat.{ℕ, ◌<◌}
use mathlib.Core.Path.{◌≡◌, ap, ap₂, ◌∙◌}
use mathlib.Core.List.{List}
use Rattle.bits.specs.Bits.{bits_of}
use Rattle.bits.specs.Index.{each}
use Rattle.bits.proofs.BitLaws.{bit_bits_of, bits_of_lt, is_bits_of}
use Rattle.bits.proofs.IndexLaws.{each_ext}
use Rattle.class_rules.specs.Class.{no_class}
use Rattle.class_rules.specs.Step.{class_step}
use Rattle.class_rules.specs.declared.Class.{Class}
use Rattle.class_rules.specs.declared.Signals.{Signals}
use Rattle.rules.specs.Samples.{assigned, sampled}
use Rattle.rules.specs.State.{class_count, class_at, with_interrupts, with_classes}
use Rattle.rules.specs.Tick.{event, interrupt_now, signals, stepped}
use Rattle.rules.specs.declared.Effects.{Effects}
use Rattle.rules.specs.declared.Handler.{Handler}
use Rattle.rules.specs.declared.Heard.{Heard}
use Rattle.handler.specs.Classes.{interrupt_by, met_by, classes_by, interrupts_by}

-- a state with its classes and INTR_STATE anew, and the sampled state s with those after steps 3 and 4
abbrev pub with_stepped : List Class → ℕ → Handler → Handler
with_stepped cs i s = with_classes cs (with_interrupts (record { state = i; enable = s.interrupts.enable }) s)

abbrev pub joined : Handler → ℕ → ℕ → Handler
joined s assigned clears =
    with_stepped (classes_by s.classes s.interrupts.state assigned clears) (interrupts_by s.classes s.interrupts.state assigned) s

module _ (g : Handler) (v : Heard) (fx : Effects) where
  -- class k's interrupt bit, from the mask of what is assigned
  interrupt_by_law : (k : ℕ) → k < 4 → interrupt_by (class_at g k) k g.interrupts.state (bits_of 4 (assigned g v)) ≡ interrupt_now g v k
  unfolding interrupt_by interrupt_now event
  interrupt_by_law k l = rw (bit_bits_of 4 (assigned g v) k l)

  -- what it meets, from the masks
  met_by_law : (k : ℕ) → k < 4 → met_by (class_at g k) k g.interrupts.state (bits_of 4 (assigned g v)) fx.clears ≡ signals g v fx k
  unfolding met_by signals event
  met_by_law k l = rw (interrupt_by_law k l, bit_bits_of 4 (assigned g v) k l)

  -- the four classes, and INTR_STATE
  classes_by_law : classes_by g.classes g.interrupts.state (bits_of 4 (assigned g v)) fx.clears
      ≡ each class_count (λ k. class_step (signals g v fx k) (class_at g k))
  unfolding classes_by
  classes_by_law = each_ext class_count _ _ no_class (λ k l. ap (λ (s : Signals). class_step s (class_at g k)) (met_by_law k l))

  interrupts_by_law : interrupts_by g.classes g.interrupts.state (bits_of 4 (assigned g v)) ≡ bits_of 4 (interrupt_now g v)
  unfolding interrupts_by
  interrupts_by_law = is_bits_of 4 _ (interrupt_now g v) (bits_of_lt 4 _) (λ k l. bit_bits_of 4 _ k l ∙ interrupt_by_law k l)

  -- so the code's parts are the state after steps 2 to 4
  pub stepped_by : joined (sampled g v) (bits_of 4 (assigned g v)) fx.clears ≡ stepped g v fx
  unfolding stepped sampled
  stepped_by = ap₂ (λ (cs : List Class) (i : ℕ). with_stepped cs i (sampled g v)) classes_by_law interrupts_by_law

-- The bits of class k in INTR_STATE, INTR_ENABLE and the interrupts.
-- Assumes nothing.
use Prim.Native.Nat.{ℕ, ◌<◌}
use mathlib.Core.Path.{◌≡◌, refl}
use mathlib.Core.Bool.{◌&&◌}
use Rattle.bits.specs.Bits.{bit}
use Rattle.bits.proofs.BitLaws.{bit_bits_of}
use Rattle.rules.specs.Access.{value, acted}
use Rattle.rules.specs.State.{class_count}
use Rattle.rules.specs.Tick.{interrupts, after}
use Rattle.rules.specs.declared.Handler.{Handler}
use Rattle.rules.specs.declared.Input.{Input}
use Rattle.rules.specs.declared.Register.TheVariants.{Only}
use Rattle.rules.specs.declared.Single.TheVariants.{IntrEnable}
use Rattle.laws.proofs.Tick.Frame.{after_still}

-- step 5: the interrupt of class k is its bit of INTR_STATE and of INTR_ENABLE
pub interrupt_is : (h : Handler) (k : ℕ) → k < class_count → bit (interrupts h) k ≡ (bit h.interrupts.state k && bit h.interrupts.enable k)
unfolding interrupts
interrupt_is h k l = bit_bits_of 4 (λ k. bit h.interrupts.state k && bit h.interrupts.enable k) k l

-- only step 1 changes INTR_ENABLE
pub after_enable : (h : Handler) (x : Input) → (after h x).interrupts.enable ≡ (acted h x.access).interrupts.enable
unfolding value
after_enable h x = after_still h x (Only IntrEnable) refl refl

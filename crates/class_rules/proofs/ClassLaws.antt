-- Laws of one class's rules.
-- Assumes nothing.
use Prim.Native.Nat.{ℕ, ◌<◌}
use mathlib.Core.Path.{◌≡◌, refl}
use mathlib.Core.Logic.{◌↔◌}
use mathlib.Core.Bool.{true}
use Rattle.bits.specs.Index.{any_to}
use Rattle.bits.proofs.IndexLaws.{and-true, true_and, any_at, any_some}
use Rattle.class_rules.specs.Class.{en, enabled, line_enable, state_of, state_number}
use Rattle.class_rules.specs.declared.Class.{Class}
use Rattle.class_rules.specs.declared.ClassState.{ClassState}
use Rattle.class_rules.specs.declared.ClassState.TheVariants.{Idle, Timeout, Phase0, Phase1, Phase2, Phase3, Terminal}

-- request (i), both ways: enabled exactly where EN is 1 and some line's enable is 1
pub enabled_is : (c : Class) → (enabled c ≡ true) ↔ ((en c ≡ true) × ((e : ℕ) × (e < 4) × (line_enable c e ≡ true)))
enabled_is c = (
  λ h. let a = and-true (en c) (any_to (line_enable c) 4) h in (a.0, any_some (line_enable c) 4 a.1),
  λ h. true_and h.0 (any_at (line_enable c) 4 h.1.0 h.1.1 h.1.2),
)

pub state_number_law : (m : ClassState) → state_of (state_number m) ≡ m
unfolding state_of
state_number_law Idle = refl
state_number_law Timeout = refl
state_number_law Phase0 = refl
state_number_law Phase1 = refl
state_number_law Phase2 = refl
state_number_law Phase3 = refl
state_number_law Terminal = refl

-- What holds of every row of the register map.
-- Assumes nothing.
use Prim.Native.Nat.{◌≤◌}
use mathlib.Core.Path.{◌≡◌, refl}
use mathlib.Core.Bool.{true, not}
use native.Mathlib.Omega.{arith}
use lib.Dec.{eqb}
use Rattle.rules.specs.Map.{single_row, field_row, setting_row, row, is_register}
use Rattle.rules.specs.declared.Field.{Field}
use Rattle.rules.specs.declared.Register.{Register}
use Rattle.rules.specs.declared.Row.{Row}
use Rattle.rules.specs.declared.Setting.{Setting}
use Rattle.rules.specs.declared.Single.{Single}
use Rattle.laws.proofs.Map.Cases.{by_kind, by_single, by_field, by_setting}

-- a register has 1 to 32 bits
abbrev Bounded : Row → Type 0
Bounded r = (not (eqb r.bits 0) ≡ true) × (r.bits ≤ 32)

single_bits : (o : Single) → Bounded (single_row o)
single_bits =
    by_single (λ o. Bounded (single_row o)) (refl, omega arith) (refl, omega arith) (refl, omega arith) (refl, omega arith) (refl, omega arith)
    (refl, omega arith)

field_bits : (f : Field) → Bounded (field_row f)
field_bits = by_field (λ f. Bounded (field_row f)) (refl, omega arith) (refl, omega arith) (refl, omega arith) (refl, omega arith)

setting_bits : (s : Setting) → Bounded (setting_row s)
setting_bits =
    by_setting (λ s. Bounded (setting_row s)) (refl, omega arith) (refl, omega arith) (refl, omega arith) (refl, omega arith) (refl, omega arith)
    (refl, omega arith) (refl, omega arith) (λ p. (refl, omega arith)) (refl, omega arith) (refl, omega arith)

-- and what is none has no bits
row_bits : (q : Register) → (not (eqb (row q).bits 0) ≡ is_register q) × ((row q).bits ≤ 32)
row_bits =
    by_kind (λ q. (not (eqb (row q).bits 0) ≡ is_register q) × ((row q).bits ≤ 32)) single_bits (λ f j. field_bits f)
    (λ f i. field_bits f) (λ s k. setting_bits s) (refl, omega arith)

pub has_bits : (q : Register) → not (eqb (row q).bits 0) ≡ is_register q
has_bits q = (row_bits q).0

pub most_bits : (q : Register) → (row q).bits ≤ 32
most_bits q = (row_bits q).1

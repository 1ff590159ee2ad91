-- What no plan names: locals, alerts from 58 up, every CAUSE.
-- Assumes nothing.
use Prim.Native.Nat.{ℕ, ◌+◌, ◌*◌, ◌≤◌, ◌<◌}
use mathlib.Core.Path.{◌≡◌, refl, sym, ap, ap₂, ◌∙◌}
use mathlib.Core.Bool.{Bool, true, false, and-false, not, ◌&&◌, ◌||◌}
use mathlib.Core.List.{List, [], ◌∷◌}
use native.Mathlib.Omega.{arith}
use borrow.Author.Tests.{eqb-true, lt-leb, le-ltb}
use lib.Dec.{eqb, leb, ltb}
use Rattle.bits.proofs.IndexLaws.{and-true, true_and}
use Rattle.rules.specs.Map.{within, number_of}
use Rattle.rules.specs.State.{most, local_count}
use Rattle.rules.specs.declared.Field.{Field}
use Rattle.rules.specs.declared.Register.{Register}
use Rattle.rules.specs.declared.Register.TheVariants.{Local, Alert}
use Rattle.policy.specs.Install.{Entry}
use Rattle.policy.specs.Sound.{unnamed, planned, all_planned}
use Rattle.policy.specs.Table.{alert_count}

-- a register whose number is no entry's kind
pub unplanned : (es : List Entry) (o : Register) → all_planned es ≡ true → planned (number_of o) ≡ false → unnamed o es ≡ true
unfolding unnamed all_planned
unplanned [] o a p = refl
unplanned (e ∷ es) o a p =
    let b = and-true (planned (number_of e.register)) (all_planned es) a in
    true_and (ap not (go (eqb (number_of e.register) (number_of o)) refl b.0)) (unplanned es o b.1 p)
  where
    go : (c : Bool) → eqb (number_of e.register) (number_of o) ≡ c → planned (number_of e.register) ≡ true → c ≡ false
    go true x y = sym y ∙ ap planned (eqb-true (number_of e.register) (number_of o) x) ∙ p
    go false x y = refl

-- ── numbers past the ranges ──

below : (a n r : ℕ) → r < a → within a n r ≡ false
below a n r l = ap (λ (b : Bool). b && ltb r (a + n)) (lt-leb a r l)

above : (a n r : ℕ) → a + n ≤ r → within a n r ≡ false
above a n r l = ap (λ (b : Bool). leb a r && b) (le-ltb r (a + n) l) ∙ and-false (leb a r)

out : (r : ℕ) → within 256 58 r ≡ false → within 512 58 r ≡ false → within 768 58 r ≡ false → within 1280 64 r ≡ false → planned r ≡ false
out r a b c d = ap₂ ◌||◌ a (ap₂ ◌||◌ b (ap₂ ◌||◌ c d))

last : (r : ℕ) → r < 1280 → within 1280 64 r ≡ false
last r l = below 1280 64 r l

low : (r : ℕ) → r < 256 → planned r ≡ false
low r l = out r (below 256 58 r l) (below 512 58 r (omega arith)) (below 768 58 r (omega arith)) (last r (omega arith))

-- ── registers ──

pub local_out : (f : Field) (j : ℕ) → j < local_count → planned (number_of (Local f j)) ≡ false
unfolding number_of
local_out Field.Regwen j l = low (16 + 8 * 0 + j) (omega arith)
local_out Field.En j l = low (16 + 8 * 1 + j) (omega arith)
local_out Field.Class j l = low (16 + 8 * 2 + j) (omega arith)
local_out Field.Cause j l = low (16 + 8 * 3 + j) (omega arith)

pub cause_out : (i : ℕ) → i < most → planned (number_of (Alert Field.Cause i)) ≡ false
unfolding number_of
cause_out i l =
    out (1024 + i) (above 256 58 (1024 + i) (omega arith)) (above 512 58 (1024 + i) (omega arith)) (above 768 58 (1024 + i) (omega arith))
    (last (1024 + i) (omega arith))

pub other_out : (f : Field) (i : ℕ) → alert_count ≤ i → i < most → planned (number_of (Alert f i)) ≡ false
unfolding number_of
other_out Field.Regwen i a l =
    out (256 + i) (above 256 58 (256 + i) (omega arith)) (below 512 58 (256 + i) (omega arith)) (below 768 58 (256 + i) (omega arith))
    (last (256 + i) (omega arith))
other_out Field.En i a l =
    out (512 + i) (above 256 58 (512 + i) (omega arith)) (above 512 58 (512 + i) (omega arith)) (below 768 58 (512 + i) (omega arith))
    (last (512 + i) (omega arith))
other_out Field.Class i a l =
    out (768 + i) (above 256 58 (768 + i) (omega arith)) (above 512 58 (768 + i) (omega arith)) (above 768 58 (768 + i) (omega arith))
    (last (768 + i) (omega arith))
other_out Field.Cause i a l = cause_out i l

-- The parts of what the writer gives.
-- Assumes nothing.
use Prim.Native.Nat.{ℕ}
use mathlib.Core.Path.{◌≡◌}
use mathlib.Core.List.{List}
use lib.IntN.{ℤ}
use Rattle.writer.specs.Lent.{Lent, write_lent, Wrote, ReadBack, WrittenBack}
use Rattle.surface.specs.CallParts.{SameInputs, SameNumbers, SameBytes}

pub write_parts : (l : Lent) (out : List ℕ) (r : ℤ) (left : List ℕ) → Wrote l out r left → ReadBack l out left → WrittenBack l out left
    → (r ≡ (write_lent l out).answer) × ((left ≡ (write_lent l out).buffer) × (SameInputs l out left × (SameNumbers l out × SameBytes l out left)))
write_parts l out r left w b s = (w.answer, (w.bytes, (λ v a. (b v a).0, (λ v a. (b v a).1, s))))

-- `verdict_of` meets its contract: 7, 8 and 9 in order. What the tests say, with the bytes of a record in place of the code's number.
-- Assumes nothing.
use Prim.Native.Nat.{ℕ, ◌/◌, ◌%◌, ◌<◌}
use mathlib.Core.Path.{◌≡◌, sym, ap, subst}
use mathlib.Core.Bool.{not}
use borrow.Author.Tests.{lt-ltb}
use lib.Dec.{eqb}
use lib.ListN.{length}
use Rattle.batch.proofs.BatchOutcomes.{nine}
use Rattle.batch.proofs.verdict_of.Goals as goal

pub returns-then-out-bytes : goal.returns-then-out-bytes
returns-then-out-bytes c =
    let a = c.args in
    sym
    (nine a.edition a.h.now a.bytes.now a.out.now
    (ap not (sym c.if-not-is_admitted.ensures))
    (ap (λ (n : ℕ). not (eqb n 0)) (subst (λ (n : ℕ). length a.bytes.now % n ≡ 0) c.record_bytes-size.ensures c.if-bytes-size-ne0.false))
    (lt-ltb _ _ (subst (λ (n : ℕ). length a.out.now < length a.bytes.now / n) c.record_bytes-size.ensures c.if-out-bytes.true)))

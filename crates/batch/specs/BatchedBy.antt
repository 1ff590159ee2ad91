-- What a batch gives.
-- Assumes nothing.
use Rattle.std.specs.Prelude.{ℕ, ◌≡◌, List}
use Rattle.trace_rules.specs.Batch.{batch}
use Rattle.trace_rules.specs.declared.Edition.{Edition}
use Rattle.rules.specs.declared.Handler.{Handler}
use Rattle.batch.specs.declared.Batched.{Batched}

-- the state, the answer and the lent list, from the edition, the state, the bytes and the list at entry
pub record BatchedBy (e : Edition) (h : Handler) (bytes out : List ℕ) (r : Batched) (left : List ℕ) : Type 0 where
  pub handler : r.handler ≡ (batch e h bytes out).handler
  pub answer : r.answer ≡ (batch e h bytes out).answer
  pub words : left ≡ (batch e h bytes out).out

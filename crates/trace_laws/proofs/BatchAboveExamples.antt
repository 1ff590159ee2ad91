-- The law of the entries at N and above in the raw fields, for every batch: a law that said less would not do here.
-- Assumes nothing.
use Prim.Native.Nat.{ℕ, ◌≤◌, ◌<◌}
use mathlib.Core.List.{List}
use Rattle.rules.specs.declared.Handler.{Handler}
use Rattle.laws.proofs.State.AboveExamples.{Untouched, untouched}
use Rattle.trace_rules.specs.Batch.{batch}
use Rattle.trace_rules.specs.declared.Edition.{Edition}
use Rattle.trace_laws.proofs.BatchLaws.{batch_above}

-- "no call changes them": a batch
by_batch : (e : Edition) (h : Handler) (bytes out : List ℕ) (i : ℕ) → h.n ≤ i → i < 248 → Untouched h (batch e h bytes out).handler i
by_batch e h bytes out = untouched h (batch e h bytes out).handler (batch_above e h bytes out)

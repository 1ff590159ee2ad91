-- A call that gives what the boundary's contract says gives what every library gives of which all sentences hold.
-- Assumes nothing.
use Prim.Native.Nat.{ℕ}
use mathlib.Core.Path.{◌≡◌, sym, ap₂, ◌∙◌}
use mathlib.Core.List.{List}
use lib.IntN.{ℤ}
use Rattle.batch.specs.BatchedBy.{BatchedBy}
use Rattle.batch.specs.declared.Batched.{Batched}
use Rattle.call_sentences.proofs.HoldsArguments.{lent_by}
use Rattle.call_sentences.specs.Arguments.{Lists}
use Rattle.calm.specs.CalmedBy.{CalmedBy}
use Rattle.calm_rules.specs.declared.Calmed.{Calmed}
use Rattle.dump_rules.specs.Writer.{WroteDump}
use Rattle.rules.specs.declared.Handler.{Handler}
use Rattle.rules.specs.declared.Wires.{Wires}
use Rattle.trace_rules.specs.declared.Edition.{Edition}
use Rattle.writer.specs.Lent.{Wrote}
use Rattle.everything.specs.Calling.{Call, do_batch, do_record, do_calm, do_dump, Got, of_batch, of_record, of_calm, of_dump, got, AsSaid, AsSaidOf}
use Rattle.everything.proofs.HoldsEverything.{boundary, holds_everything}
use Rattle.everything.proofs.OnlyEverything.{same_got}

pub as_said : (h : Handler) (c : Call) (g : Got) → g ≡ got boundary h c → AsSaid h c g
as_said h c g e l s z k = e ∙ sym (same_got l boundary s holds_everything h c z k)

-- where a contract is a record, of the result r and of what is left

pub batch_said : (e : Edition) (h : Handler) (bytes out : List ℕ) (r : Batched) (left : List ℕ) → BatchedBy e h bytes out r left
    → AsSaid h (do_batch e bytes out) (of_batch r left)
batch_said e h bytes out r left c =
    as_said h (do_batch e bytes out) (of_batch r left) (ap₂ of_batch (λ i. record { handler = c.handler i; answer = c.answer i }) c.words)

pub record_said : (l : Lists) (buffer : List ℕ) (r : ℤ) (left : List ℕ) → Wrote (lent_by l) buffer r left → AsSaidOf (do_record l buffer) (of_record r left)
record_said l buffer r left c h = as_said h (do_record l buffer) (of_record r left) (ap₂ of_record c.answer c.bytes)

pub calm_said : (h : Handler) (w : Wires) (n : ℕ) (list : List ℕ) (r : Calmed) (left : List ℕ) → CalmedBy h w n list r left
    → AsSaid h (do_calm w n list) (of_calm r left)
calm_said h w n list r left c = as_said h (do_calm w n list) (of_calm r left) (ap₂ of_calm c.gives c.leaves)

pub dump_said : (h : Handler) (buffer : List ℕ) (r : ℤ) (left : List ℕ) → WroteDump h buffer r left → AsSaid h (do_dump buffer) (of_dump r left)
dump_said h buffer r left c = as_said h (do_dump buffer) (of_dump r left) (ap₂ of_dump c.answer c.bytes)

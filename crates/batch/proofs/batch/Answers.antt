-- `batch` meets its contract: the refusals in their order, and else the ticks of the records; demand 3 holds of those ticks.
-- Assumes nothing.
use Prim.Native.Nat.{ℕ, ◌/◌}
use mathlib.Core.List.{◌++◌, map}
use mathlib.Core.Path.{sym, ap, ◌∙◌}
use borrow.Author.Rules.{rules}
use lib.ListN.{length, drop}
use mir.Facts.{to_z-of_z}
use mir.Syntax.{w64}
use Rattle.escalation.proofs.Demand3.{demand3}
use Rattle.trace_laws.proofs.BatchLaws.{admits_valid}
use Rattle.rules.specs.Run.{ticks}
use Rattle.trace_rules.specs.Word.{word_of}
use Rattle.trace_rules.specs.Record.{inputs_of}
use Rattle.batch.proofs.BatchOutcomes.{taken, given_refusal, given_ticks}
use Rattle.batch.proofs.batch.Goals as goal

pub run_records-requires : goal.run_records-requires
run_records-requires c =
    let a = c.args in
    let t = taken a.edition a.h a.bytes.now a.out.now (sym c.verdict_of.ensures ∙ c.in-Ok.is) in
    let n = ap (λ (n : ℕ). length a.bytes.now / n) c.record_bytes.ensures in (admits_valid a.edition a.h t.0, n, rw n t.1.1)

pub returns-in-Ok-clause-batched_by : goal.returns-in-Ok-clause-batched_by
returns-in-Ok-clause-batched_by c =
    let a = c.args in
    let r = c.run_records.ensures in
    let out = ap (λ (n : ℕ). map word_of (ticks a.h (inputs_of a.edition a.bytes.now)) ++ drop (length a.bytes.now / n) a.out.now) c.record_bytes.ensures in
    given_ticks a.edition a.h a.bytes.now a.out.now (sym c.verdict_of.ensures ∙ c.in-Ok.is) _ _ _ (r.0, r.1 ∙ out)
    (to_z-of_z {w = w64} (search rules) ∙ c.signed.ensures.value)

pub returns-in-Ok-clause-demand3 : goal.returns-in-Ok-clause-demand3
returns-in-Ok-clause-demand3 c = demand3 c.args.h _

pub returns-in-Err-clause-batched_by : goal.returns-in-Err-clause-batched_by
returns-in-Err-clause-batched_by c =
    given_refusal _ _ _ _ c.in-Err.m _ (sym c.verdict_of.ensures ∙ c.in-Err.is)
    (ap (λ z. record { handler = c.args.h; answer = z }) (to_z-of_z {w = w64} (search rules) ∙ c.signed-in-Err.ensures.value))

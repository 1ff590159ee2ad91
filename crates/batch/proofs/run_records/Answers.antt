-- `run_records` meets its contract: one more record has run in each turn.
-- Assumes nothing.
use Prim.Native.Nat.{ℕ, ◌*◌}
use mathlib.Core.Path.{◌≡◌, ap, ◌∙◌}
use native.Mathlib.Omega.{arith}
use native.Mathlib.Numerals.{add-one}
use lib.ListN.{take, drop}
use Rattle.trace_rules.specs.Edition.{record_bytes}
use Rattle.trace_rules.specs.Record.{input_of}
use Rattle.handler.proofs.WholeTick.{accessed_most}
use Rattle.batch.proofs.Running.{start, end, length_inputs, few_alerts, next_record}
use Rattle.batch.proofs.run_records.Goals as goal

pub loop-i-init : goal.loop-i-init
loop-i-init c = start _ _ _

pub go_on-shown-requires : goal.go_on-shown-requires
go_on-shown-requires c = accessed_most c.loop-i.g _ _ c.access_in-answer.ensures (few_alerts _ _ _ c.requires.0 _ _ _ c.loop-i.invariant)

pub loop-i-preserved : goal.loop-i-preserved
loop-i-preserved c =
    let l = c.loop-i in
    rw add-one
    (next_record c.args.edition c.args.h c.args.bytes.now c.args.out.now c.requires.0 l.g l.out l.i l.invariant (omega arith) (omega arith)
    _ _ _ _ (c.input_at-x.ensures
    ∙ ap (λ (n : ℕ). input_of c.args.edition (take (record_bytes c.args.edition) (drop (l.i * n) c.args.bytes.now))) c.record_bytes-size.ensures)
    c.access_in-answer.ensures c.go_on-shown.ensures c.word.ensures)

pub returns : goal.returns
returns c =
    let l = c.loop-i in
    let e : l.i ≡ c.args.count = omega arith in
    rw (← e) (end _ _ _ _ _ _ l.invariant (omega (arith, length_inputs c.args.edition c.args.bytes.now)))

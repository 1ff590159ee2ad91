-- `judge::judge` meets its contract.
-- Assumes nothing.
use Prim.Native.Nat.{ℕ}
use mathlib.Core.Path.{sym, ap, ◌∙◌}
use mathlib.Core.List.{List}
use Rattle.dump_rules.specs.Reader.{read_dump}
use Rattle.formats.proofs.BitListLaws.{are_all}
use Rattle.dump_reader.specs.Steps.{judged_of}
use Rattle.dump_reader.proofs.ReadLaws.{exit}
use Rattle.dump_reader.proofs.WholeLaws.{judged_dump, judged_more, judged_failed, judged_long}
use Rattle.dump_reader.proofs.judge.judge.Goals as goal

pub returns-then-bytes-gt10000 : goal.returns-then-bytes-gt10000
returns-then-bytes-gt10000 c = judged_long c.args.bytes.now (are_all _ (λ i. (c.type_inv.bytes i).fits)) c.if-bytes-gt10000.true

pub returns-in_err-dump : goal.returns-in_err-dump
returns-in_err-dump c =
    let n = c.new-reader.ensures in
    exit _ _ c.from_residual.ensures.1 ∙ judged_failed _ _ n.1 _ c.in_err-dump.ensures ∙ ap (λ (b : List ℕ). judged_of (read_dump b)) n.0

pub returns-then-left-eq0 : goal.returns-then-left-eq0
returns-then-left-eq0 c =
    let n = c.new-reader.ensures in
    judged_dump _ _ n.1 _ c.in_ok-dump.ensures (sym c.left.ensures ∙ c.if-left-eq0.true) ∙ ap (λ (b : List ℕ). judged_of (read_dump b)) n.0

pub returns-else-left-eq0 : goal.returns-else-left-eq0
returns-else-left-eq0 c =
    let n = c.new-reader.ensures in
    judged_more _ _ n.1 _ c.in_ok-dump.ensures (λ e. c.if-left-eq0.false (c.left.ensures ∙ e)) ∙ ap (λ (b : List ℕ). judged_of (read_dump b)) n.0

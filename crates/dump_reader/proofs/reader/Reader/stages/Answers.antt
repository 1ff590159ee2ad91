-- `Reader::stages` meets its contract.
-- Assumes nothing.
use Prim.Native.Nat.{ℕ, ◌-◌, ◌+◌, ◌^◌, ◌<◌}
use mathlib.Core.Path.{refl, sym, ap₂, ◌∙◌, subst}
use mathlib.Core.List.{List}
use native.Mathlib.Omega.{arith}
use Rattle.std.specs.Prelude.{Ok, Err}
use Rattle.formats.specs.Format.{chain}
use Rattle.dump_rules.specs.Reader.{stage_chain, stage_format}
use Rattle.dump_reader.specs.Reads.{Reads, ReadsFirst}
use Rattle.dump_reader.specs.Steps.{step_at}
use Rattle.dump_reader.proofs.ReadLaws.{turn_failed, turns_end}
use Rattle.dump_reader.proofs.StageLaws.{stage_on, small}
use Rattle.dump_reader.proofs.reader.Reader.stages.Goals as goal

pub returns-in_err-r : goal.returns-in_err-r
returns-in_err-r c =
    let n = c.args.left.n in
    let l = c.loop-i in
    let i = l.invariant in
    let q = subst (λ (x : ℕ). Reads (stage_format x l.left.from (c.args.m - (l.i + 1))) l.self c.stage.new.self (Err c.in_err-r.field-0.0)) i.0 c.in_err-r.ensures.reads in
    turn_failed (stage_chain n) c.args.m l.i l.left.from (chain (stage_chain n) c.args.m 0) c.args.self.now l.self i.1 i.2 c.loop-i-test.true _ _ _ q c.from_residual.ensures.1

pub above-left-requires : goal.above-left-requires
above-left-requires c =
    let n = c.args.left.n in
    let l = c.loop-i in
    let i = l.invariant in
    let q = subst (λ (x : ℕ). ReadsFirst (stage_format x l.left.from (c.args.m - (l.i + 1))) 16 l.self c.stage.new.self (Ok c.in_ok-r.r)) i.0 c.in_ok-r.ensures in
    let x = stage_on l.self.bytes.now l.self.at n c.args.m l.i l.left.from _ i.2 c.loop-i-test.true l.self.within _ c.in_ok-r.r q.reads.place (q.value _ refl) in
    let h : c.in_ok-r.r < 2 ^ 16 = small _ _ 16 _ (q.value _ refl) in
    (x.1, omega arith)

pub loop-i-preserved : goal.loop-i-preserved
loop-i-preserved c =
    let n = c.args.left.n in
    let l = c.loop-i in
    let i = l.invariant in
    let q = subst (λ (x : ℕ). ReadsFirst (stage_format x l.left.from (c.args.m - (l.i + 1))) 16 l.self c.stage.new.self (Ok c.in_ok-r.r)) i.0 c.in_ok-r.ensures in
    let x = stage_on l.self.bytes.now l.self.at n c.args.m l.i l.left.from _ i.2 c.loop-i-test.true l.self.within _ c.in_ok-r.r q.reads.place (q.value _ refl) in (
      c.above-left.ensures.0 ∙ i.0,
      q.reads.bytes ∙ i.1,
      x.0 ∙ ap₂ (λ (b : List ℕ) (s : ℕ). step_at (chain (stage_chain n) (c.args.m - (l.i + 1)) s) b c.stage.new.self.at) (sym q.reads.bytes) (sym c.above-left.ensures.1),
    )

pub returns : goal.returns
returns c =
    let n = c.args.left.n in
    let l = c.loop-i in
    let i = l.invariant in
    turns_end (stage_chain n) c.args.m l.i l.left.from (chain (stage_chain n) c.args.m 0) c.args.self.now l.self i.1 i.2 c.loop-i-test.false tt

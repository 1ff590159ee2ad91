-- `Reader::mark` meets its contract.
-- Assumes nothing.
use Prim.Native.Nat.{◌^◌, ◌<◌}
use mathlib.Core.Path.{◌≡◌, refl, sym, ap, ◌∙◌}
use native.Mathlib.Omega.{arith}
use borrow.Author.Rules.{rules}
use lib.ListN.{get_or}
use Rattle.formats.specs.Format.{chain}
use Rattle.dump_rules.specs.Dump.{mark}
use Rattle.dump_rules.specs.Reader.{mark_chain}
use Rattle.dump_reader.specs.Steps.{step_at}
use Rattle.dump_reader.proofs.WholeLaws.{mark_on, mark_wrong, mark_cut, mark_end}
use Rattle.dump_reader.proofs.reader.Reader.mark.Goals as goal

pub returns-then-i-self : goal.returns-then-i-self
returns-then-i-self c =
    let p = c.args.self.now in
    let i = c.loop-i.invariant in
    record {
      bytes = refl;
      place = mark_cut p.bytes.now c.loop-i.i c.loop-i-test.true _ i.1 c.if-i-self.true (omega arith) ∙ ap (step_at (chain mark_chain 4 mark) p.bytes.now) (sym c.requires);
    }

pub returns-then-self-i : goal.returns-then-self-i
returns-then-self-i c =
    let p = c.args.self.now in
    let i = c.loop-i.invariant in
    let s : get_or p.bytes.now c.loop-i.i 0 < 2 ^ 8 = search rules in
    record {
      bytes = refl;
      place = mark_wrong p.bytes.now c.loop-i.i c.loop-i-test.true _ i.1 c.if-i-self.false s c.if-self-i.true ∙ ap (step_at (chain mark_chain 4 mark) p.bytes.now) (sym c.requires);
    }

pub loop-i-preserved : goal.loop-i-preserved
loop-i-preserved c =
    let p = c.args.self.now in
    let s : get_or p.bytes.now c.loop-i.i 0 < 2 ^ 8 = search rules in
    (omega arith, mark_on p.bytes.now c.loop-i.i c.loop-i-test.true _ c.loop-i.invariant.1 c.if-i-self.false s c.if-self-i.false)

pub invariant_of-self : goal.invariant_of-self
invariant_of-self c =
    let p = c.args.self.now in
    record { within = omega (arith, c.loop-i.invariant.0); short = p.short }

pub returns : goal.returns
returns c =
    let p = c.args.self.now in
    let i = c.loop-i.invariant in
    let e : c.loop-i.i ≡ 4 = omega arith in
    record { bytes = refl; place = mark_end p.bytes.now c.loop-i.i _ e i.0 i.1 ∙ ap (step_at (chain mark_chain 4 mark) p.bytes.now) (sym c.requires) }

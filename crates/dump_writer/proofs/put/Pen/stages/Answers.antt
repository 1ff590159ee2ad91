-- `Pen::stages` meets its contract.
-- Assumes nothing.
use Prim.Native.Nat.{ℕ, ◌+◌, ◌-◌, ◌*◌}
use mathlib.Core.Path.{◌≡◌, sym, ap, ◌∙◌, subst}
use mathlib.Core.Bool.{Bool, true, not}
use native.Mathlib.Omega.{arith}
use borrow.Author.Tests.{ne_eqb, eq-eqb}
use lib.Dec.{eqb}
use lib.ListN.{length}
use Rattle.formats.specs.BitList.{bit_list}
use Rattle.rules.specs.Map.{decode}
use Rattle.rules.specs.Stages.{stage, is_open}
use Rattle.dump_rules.specs.Dump.{stage_bits}
use Rattle.dump_rules.specs.Shown.{ShownStage, limit}
use Rattle.dump_rules.proofs.DumpBits.{stage_length}
use Rattle.dump_rules.proofs.PickLaws.{many_le}
use Rattle.dump_writer.specs.Puts.{Puts}
use Rattle.dump_writer.specs.declared.put.Pen.{Pen}
use Rattle.dump_writer.proofs.EntryLaws.{entries_to, entry_none, entry_yes, entry_no, entry_room}
use Rattle.dump_writer.proofs.PutLaws.{puts_then, number_place}
use Rattle.dump_writer.proofs.put.Pen.stages.Goals.{then-s-ne0, else-s-ne0}
use Rattle.dump_writer.proofs.put.Pen.stages.Goals as goal

pub loop-r-init : goal.loop-r-init
loop-r-init c =
    let a = c.args in
    entry_none (λ x. is_open a.h.now.stages (decode a.h.now.n x)) (λ x. record { register = x; value = stage a.h.now (decode a.h.now.n x) - 1 }) stage_bits 48 stage_length a.self.now

pub number-requires : goal.number-requires
number-requires c =
    let a = c.args in
    let l = c.loop-r in
    let p : ℕ → Bool = λ x. is_open a.h.now.stages (decode a.h.now.n x) in
    let s : c.stage_in-s.result ≡ stage a.h.now (decode a.h.now.n l.r) = c.stage_in-s.ensures ∙ ap (stage a.h.now) c.register_at.ensures in
    let e : p l.r ≡ true = ap (λ (v : ℕ). not (eqb v 0)) (sym s) ∙ ap not (ne_eqb _ 0 c.if-s-ne0.true) in
    let x =
    entry_room p (λ x. record { register = x; value = stage a.h.now (decode a.h.now.n x) - 1 }) stage_bits 48 stage_length l.r limit (8 * length a.self.now.out.now) a.self.now l.self e c.loop-r-test.true l.invariant c.requires.0 in
    (omega (arith, x.1), omega arith, omega (arith, x.2, many_le p 0 l.r))

pub number-requires-then-s-ne0 : goal.number-requires-then-s-ne0
number-requires-then-s-ne0 c =
    let a = c.args in
    let l = c.loop-r in
    let p : ℕ → Bool = λ x. is_open a.h.now.stages (decode a.h.now.n x) in
    let s : c.stage_in-s.result ≡ stage a.h.now (decode a.h.now.n l.r) = c.stage_in-s.ensures ∙ ap (stage a.h.now) c.register_at.ensures in
    let e : p l.r ≡ true = ap (λ (v : ℕ). not (eqb v 0)) (sym s) ∙ ap not (ne_eqb _ 0 c.if-s-ne0.true) in
    let x =
    entry_room p (λ x. record { register = x; value = stage a.h.now (decode a.h.now.n x) - 1 }) stage_bits 48 stage_length l.r limit (8 * length a.self.now.out.now) a.self.now l.self e c.loop-r-test.true l.invariant c.requires.0 in
    let y = number_place 16 l.r _ _ c.number.ensures in
    (omega (arith, x.1, y.1), omega arith, omega (arith, x.2, y.0, many_le p 0 l.r))

pub loop-r-preserved : goal.loop-r-preserved
loop-r-preserved c =
    let a = c.args in
    let l = c.loop-r in
    let p : ℕ → Bool = λ x. is_open a.h.now.stages (decode a.h.now.n x) in
    let f : ℕ → ShownStage = λ x. record { register = x; value = stage a.h.now (decode a.h.now.n x) - 1 } in
    let s : c.stage_in-s.result ≡ stage a.h.now (decode a.h.now.n l.r) = c.stage_in-s.ensures ∙ ap (stage a.h.now) c.register_at.ensures in
    elim c.if-s-ne0.branch [
      | then-s-ne0 w ↦ subst (λ (q : Pen). Puts (entries_to p f stage_bits 48 stage_length (l.r + 1)) a.self.now q) (sym w.self-is)
          (entry_yes p f stage_bits 48 stage_length l.r a.self.now l.self _ (ap (λ (v : ℕ). not (eqb v 0)) (sym s) ∙ ap not (ne_eqb _ 0 w.if-s-ne0.true)) l.invariant
          (subst (λ (v : ℕ). Puts (stage_bits (record { register = l.r; value = v - 1 })) l.self w.number-then-s-ne0.new.self) s
          (puts_then (bit_list 16 l.r) (bit_list 32 (c.stage_in-s.result - 1)) _ _ _ w.number.ensures w.number-then-s-ne0.ensures)))
      | else-s-ne0 w ↦ subst (λ (q : Pen). Puts (entries_to p f stage_bits 48 stage_length (l.r + 1)) a.self.now q) (sym w.self-is)
          (entry_no p f stage_bits 48 stage_length l.r a.self.now l.self (ap (λ (v : ℕ). not (eqb v 0)) (sym s) ∙ ap not (eq-eqb _ 0 w.if-s-ne0.false)) l.invariant)
    ]

-- `Pen::flags` meets its contract.
-- Assumes nothing.
use Prim.Native.Nat.{ℕ, ◌+◌, ◌*◌}
use mathlib.Core.Path.{◌≡◌, sym, ap, ◌∙◌, subst}
use mathlib.Core.Bool.{Bool, true}
use native.Mathlib.Omega.{arith}
use lib.ListN.{length}
use Rattle.formats.specs.BitList.{bit_list}
use Rattle.formats.proofs.BitListLaws.{length_bits}
use Rattle.rules.specs.Map.{decode}
use Rattle.dump_rules.specs.Shown.{limit}
use Rattle.dump_rules.proofs.PickLaws.{many_le}
use Rattle.dump_map.specs.Kinds.{has_kind}
use Rattle.dump_writer.specs.Fields.{flag_of}
use Rattle.dump_writer.specs.Puts.{Puts}
use Rattle.dump_writer.specs.declared.put.Pen.{Pen}
use Rattle.dump_writer.proofs.EntryLaws.{entries_to, entry_none, entry_yes, entry_no, entry_room}
use Rattle.dump_writer.proofs.put.Pen.flags.Goals.{then-has, else-has}
use Rattle.dump_writer.proofs.put.Pen.flags.Goals as goal

pub loop-r-init : goal.loop-r-init
loop-r-init c =
    let a = c.args in
    entry_none (λ x. has_kind a.kind (decode a.h.now.n x)) (λ x. flag_of a.kind a.h.now (decode a.h.now.n x)) (bit_list 1) 1 (length_bits 1) a.self.now

pub number-requires : goal.number-requires
number-requires c =
    let a = c.args in
    let l = c.loop-r in
    let p : ℕ → Bool = λ x. has_kind a.kind (decode a.h.now.n x) in
    let e : p l.r ≡ true = sym (c.has.ensures ∙ ap (has_kind a.kind) c.register_at-q.ensures) ∙ c.if-has.true in
    let x =
    entry_room p (λ x. flag_of a.kind a.h.now (decode a.h.now.n x)) (bit_list 1) 1 (length_bits 1) l.r limit (8 * length a.self.now.out.now) a.self.now l.self e c.loop-r-test.true l.invariant
    (omega (arith, c.requires.0)) in
    (omega (arith, x.1), omega arith, omega (arith, x.2, many_le p 0 l.r))

pub loop-r-preserved : goal.loop-r-preserved
loop-r-preserved c =
    let a = c.args in
    let l = c.loop-r in
    let p : ℕ → Bool = λ x. has_kind a.kind (decode a.h.now.n x) in
    let f : ℕ → ℕ = λ x. flag_of a.kind a.h.now (decode a.h.now.n x) in
    let e : c.has.result ≡ p l.r = c.has.ensures ∙ ap (has_kind a.kind) c.register_at-q.ensures in
    elim c.if-has.branch [
      | then-has w ↦ subst (λ (q : Pen). Puts (entries_to p f (bit_list 1) 1 (length_bits 1) (l.r + 1)) a.self.now q) (sym w.self-is)
          (entry_yes p f (bit_list 1) 1 (length_bits 1) l.r a.self.now l.self w.number.new.self (sym e ∙ w.if-has.true) l.invariant
          (subst (λ (v : ℕ). Puts (bit_list 1 v) l.self w.number.new.self) (w.flag_of.ensures ∙ ap (flag_of a.kind a.h.now) c.register_at-q.ensures) w.number.ensures))
      | else-has w ↦ subst (λ (q : Pen). Puts (entries_to p f (bit_list 1) 1 (length_bits 1) (l.r + 1)) a.self.now q) (sym w.self-is)
          (entry_no p f (bit_list 1) 1 (length_bits 1) l.r a.self.now l.self (sym e ∙ w.if-has.false) l.invariant)
    ]

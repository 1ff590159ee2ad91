-- `Pen::classes` meets its contract.
-- Assumes nothing.
use Prim.Native.Nat.{ℕ, ◌*◌}
use mathlib.Core.Path.{◌≡◌, refl, subst}
use mathlib.Core.Bool.{true}
use native.Mathlib.Omega.{arith}
use lib.ListN.{length, get_or}
use Rattle.bits.specs.Index.{each_from}
use Rattle.class_rules.specs.Class.{no_class}
use Rattle.dump_rules.specs.Dump.{class_bits}
use Rattle.dump_rules.specs.Shown.{picks}
use Rattle.dump_rules.proofs.DumpBits.{class_length}
use Rattle.dump_rules.proofs.PickLaws.{many_le}
use Rattle.dump_writer.specs.Fields.{shown_class}
use Rattle.dump_writer.specs.Puts.{Puts}
use Rattle.dump_writer.proofs.EntryLaws.{entries_to, entry_none, entry_yes, entry_room}
use Rattle.dump_writer.proofs.put.Pen.classes.Goals as goal

pub loop-k-init : goal.loop-k-init
loop-k-init c = entry_none (λ k. true) (λ k. shown_class (get_or c.args.classes k no_class)) class_bits 51 class_length c.args.self.now

pub class-requires : goal.class-requires
unfolding picks
class-requires c =
    let a = c.args in
    let l = c.loop-k in
    let x =
    entry_room (λ k. true) (λ k. shown_class (get_or a.classes k no_class)) class_bits 51 class_length l.k 4 (8 * length a.self.now.out.now) a.self.now l.self refl c.loop-k-test.true l.invariant c.requires.0 in
    (omega (arith, x.1), omega (arith, x.2, many_le (λ k. true) 0 l.k))

pub loop-k-preserved : goal.loop-k-preserved
loop-k-preserved c =
    let a = c.args in
    let l = c.loop-k in
    entry_yes (λ k. true) (λ k. shown_class (get_or a.classes k no_class)) class_bits 51 class_length l.k a.self.now l.self _ refl l.invariant c.class.ensures

pub returns : goal.returns
unfolding picks each_from
returns c =
    let a = c.args in
    let l = c.loop-k in
    let e : l.k ≡ 4 = omega arith in
    subst (λ (k : ℕ). Puts (entries_to (λ k. true) (λ k. shown_class (get_or a.classes k no_class)) class_bits 51 class_length k) a.self.now l.self) e l.invariant

-- `write::put_dump` meets its contract.
-- Assumes nothing.
use mathlib.Core.Path.{refl}
use native.Mathlib.Omega.{arith}
use borrow.Author.Rules.{rules}
use lib.ListN.{length}
use Rattle.rules.specs.Map.{decode}
use Rattle.dump_rules.specs.Shown.{picks, limit}
use Rattle.dump_map.specs.Kinds.{has_kind}
use Rattle.dump_map.specs.declared.Kind.{Kind}
use Rattle.dump_writer.specs.Fields.{flag_of}
use Rattle.dump_writer.proofs.PutLaws.{number_place}
use Rattle.dump_writer.proofs.WriteLaws.{classes_place, flags_place, few, dump_put}
use Rattle.dump_writer.proofs.write.put_dump.Goals as goal

pub number-requires : goal.number-requires
number-requires c = let s = c.requires.1 in (omega (arith, s.fits), omega arith, omega arith)

pub number-requires-2 : goal.number-requires-2
number-requires-2 c =
    let h = c.args.h.now in
    let s = c.requires.1 in
    let t = few h in
    let n1 = number_place 32 1413762384 _ _ c.number.ensures in
    (omega (arith, s.fits), omega arith, omega arith)

pub classes-requires : goal.classes-requires
classes-requires c =
    let h = c.args.h.now in
    let s = c.requires.1 in
    let t = few h in
    let n1 = number_place 32 1413762384 _ _ c.number.ensures in
    let n2 = number_place 8 h.n _ _ c.number-2.ensures in
    (omega (arith, s.fits), omega arith)

pub flags-requires : goal.flags-requires
flags-requires c =
    let h = c.args.h.now in
    let s = c.requires.1 in
    let t = few h in
    let n1 = number_place 32 1413762384 _ _ c.number.ensures in
    let n2 = number_place 8 h.n _ _ c.number-2.ensures in
    let n3 = classes_place h.classes _ _ c.classes.ensures in
    (omega (arith, s.fits), omega arith)

pub flags-requires-2 : goal.flags-requires-2
flags-requires-2 c =
    let h = c.args.h.now in
    let s = c.requires.1 in
    let t = few h in
    let n1 = number_place 32 1413762384 _ _ c.number.ensures in
    let n2 = number_place 8 h.n _ _ c.number-2.ensures in
    let n3 = classes_place h.classes _ _ c.classes.ensures in
    let n4 = flags_place (λ r. flag_of Kind.Cause h (decode h.n r)) (picks (λ r. has_kind Kind.Cause (decode h.n r)) 0 limit) _ _ c.flags.ensures in
    (omega (arith, s.fits), omega arith)

pub number-requires-3 : goal.number-requires-3
number-requires-3 c =
    let h = c.args.h.now in
    let s = c.requires.1 in
    let t = few h in
    let n1 = number_place 32 1413762384 _ _ c.number.ensures in
    let n2 = number_place 8 h.n _ _ c.number-2.ensures in
    let n3 = classes_place h.classes _ _ c.classes.ensures in
    let n4 = flags_place (λ r. flag_of Kind.Cause h (decode h.n r)) (picks (λ r. has_kind Kind.Cause (decode h.n r)) 0 limit) _ _ c.flags.ensures in
    let n5 = flags_place (λ r. flag_of Kind.Lock h (decode h.n r)) (picks (λ r. has_kind Kind.Lock (decode h.n r)) 0 limit) _ _ c.flags-2.ensures in
    (omega (arith, s.fits), omega (arith, s.zeros), omega (arith, s.zeros))

pub number-requires-4 : goal.number-requires-4
number-requires-4 c =
    let h = c.args.h.now in
    let s = c.requires.1 in
    let t = few h in
    let n1 = number_place 32 1413762384 _ _ c.number.ensures in
    let n2 = number_place 8 h.n _ _ c.number-2.ensures in
    let n3 = classes_place h.classes _ _ c.classes.ensures in
    let n4 = flags_place (λ r. flag_of Kind.Cause h (decode h.n r)) (picks (λ r. has_kind Kind.Cause (decode h.n r)) 0 limit) _ _ c.flags.ensures in
    let n5 = flags_place (λ r. flag_of Kind.Lock h (decode h.n r)) (picks (λ r. has_kind Kind.Lock (decode h.n r)) 0 limit) _ _ c.flags-2.ensures in
    let n6 = number_place c.args.zeros 0 _ _ c.number-3.ensures in
    (omega (arith, s.fits), omega arith, omega (arith, s.zeros))

pub stages-requires : goal.stages-requires
stages-requires c =
    let h = c.args.h.now in
    let s = c.requires.1 in
    let t = few h in
    let n1 = number_place 32 1413762384 _ _ c.number.ensures in
    let n2 = number_place 8 h.n _ _ c.number-2.ensures in
    let n3 = classes_place h.classes _ _ c.classes.ensures in
    let n4 = flags_place (λ r. flag_of Kind.Cause h (decode h.n r)) (picks (λ r. has_kind Kind.Cause (decode h.n r)) 0 limit) _ _ c.flags.ensures in
    let n5 = flags_place (λ r. flag_of Kind.Lock h (decode h.n r)) (picks (λ r. has_kind Kind.Lock (decode h.n r)) 0 limit) _ _ c.flags-2.ensures in
    let n6 = number_place c.args.zeros 0 _ _ c.number-3.ensures in
    let n7 = number_place 16 c.args.stages _ _ c.number-4.ensures in
    (omega (arith, s.fits, s.stages), omega (arith, s.zeros))

pub returns : goal.returns
returns c =
    let e = dump_put c.args.h.now c.requires.0 (length c.args.out.now) c.args.zeros c.args.stages c.requires.1 _ _ _ _ _ _ _ _ c.stages.new.self refl refl
    c.number.ensures c.number-2.ensures c.classes.ensures c.flags.ensures c.flags-2.ensures c.number-3.ensures c.number-4.ensures c.stages.ensures in
    let f = e.0 in let g = e.1 in search rules

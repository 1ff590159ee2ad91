-- `write::write_dump` meets its contract.
-- Assumes nothing.
use Prim.Native.Nat.{ℕ, ◌+◌, ◌*◌, ◌/◌, ◌^◌, ◌≤◌, ◌<◌}
use mathlib.Core.Path.{◌≡◌, sym, ap, ◌∙◌, subst}
use mathlib.Core.Bool.{true}
use native.Mathlib.Omega.{arith}
use borrow.Author.Rules.{rules}
use lib.IntN.{pos}
use lib.ListN.{length}
use mir.Facts.{to_z_pos, to_z-of_z}
use mir.Syntax.{w64}
use mir.Val.{to_z, of_z}
use Rattle.rules.specs.Valid.{valid}
use Rattle.dump_rules.specs.Dump.{dump_of}
use Rattle.dump_rules.specs.Shown.{shown}
use Rattle.dump_writer.proofs.WriteLaws.{sized, size_is, wrote_bad, wrote_short, wrote_dump}
use Rattle.dump_writer.proofs.write.write_dump.Goals as goal

pub put_dump-requires : goal.put_dump-requires
put_dump-requires c =
    let ok : valid c.args.h ≡ true = sym c.is_valid.ensures ∙ c.if-not-is_valid.false in
    (ok, sized c.args.h _ _ _ _ _ c.how_many-causes.ensures.0 c.how_many-locks.ensures.0 c.zeros_behind.ensures.0 c.count_open-open.ensures.0 c.if-size-out.false)

pub returns : goal.returns
returns c =
    let a = c.args in
    let ok : valid a.h ≡ true = sym c.is_valid.ensures ∙ c.if-not-is_valid.false in
    let size : ℕ = 6 + (219 + c.how_many-causes.result + c.how_many-locks.result) / 8 + 6 * c.count_open-open.result in
    let e : size ≡ length (dump_of (shown a.h)) = size_is a.h ok _ _ _ c.how_many-causes.ensures.0 c.how_many-locks.ensures.0 c.count_open-open.ensures.0 in
    let b : length (dump_of (shown a.h)) ≤ length a.out.now = subst (λ (x : ℕ). x ≤ length a.out.now) e c.if-size-out.false in
    let f : size < 2 ^ 63 = omega (arith, c.count_open-open.ensures.1, c.how_many-locks.ensures.1, c.how_many-causes.ensures.1) in
    wrote_dump a.h a.out.now _ _ ok b (to_z_pos w64 f ∙ ap pos e) c.put_dump.ensures

pub returns-then-size-out : goal.returns-then-size-out
returns-then-size-out c =
    let a = c.args in
    let ok : valid a.h ≡ true = sym c.is_valid.ensures ∙ c.if-not-is_valid.false in
    let size : ℕ = 6 + (219 + c.how_many-causes.result + c.how_many-locks.result) / 8 + 6 * c.count_open-open.result in
    let e : size ≡ length (dump_of (shown a.h)) = size_is a.h ok _ _ _ c.how_many-causes.ensures.0 c.how_many-locks.ensures.0 c.count_open-open.ensures.0 in
    let b : length a.out.now < length (dump_of (shown a.h)) = subst (λ (x : ℕ). length a.out.now < x) e c.if-size-out.true in
    let f : to_z w64 (of_z w64 c.refused-then-size-out.result) ≡ c.refused-then-size-out.result = to_z-of_z {w = w64} (search rules) in
    wrote_short a.h a.out.now _ ok b (f ∙ c.refused-then-size-out.ensures)

pub returns-then-not-is_valid : goal.returns-then-not-is_valid
returns-then-not-is_valid c =
    let f : to_z w64 (of_z w64 c.refused.result) ≡ c.refused.result = to_z-of_z {w = w64} (search rules) in
    wrote_bad c.args.h c.args.out.now _ (sym c.is_valid.ensures ∙ c.if-not-is_valid.true) (f ∙ c.refused.ensures)

-- `calm` meets its contract.
-- Assumes nothing.
use mathlib.Core.Path.{sym, ap, ◌∙◌}
use mathlib.Core.List.{◌++◌}
use lib.IntN.{pos}
use mir.Facts.{to_z_pos}
use mir.Syntax.{w64}
use native.Mathlib.Omega.{arith}
use Rattle.calm_laws.proofs.Rounds.{changes_twenty}
use Rattle.calm_rules.specs.Ticks.{calm_run, calm_output, calm_changes}
use Rattle.calm.proofs.Calling.{runs, refused_by, ran_by}
use Rattle.calm.proofs.call.calm.Goals as goal

pub returns-in-Err : goal.returns-in-Err
returns-in-Err c = refused_by c.args.h c.args.wires c.args.ticks c.args.out.now c.in-Err.bar (sym c.in-Err.ensures) c.refused.result c.refused.ensures

pub new-ticking-requires : goal.new-ticking-requires
new-ticking-requires c = let r = runs c.args.h c.args.out.now (sym c.in_default.ensures) in (omega arith, (r.good, r.off, changes_twenty c.args.h.classes))

pub store-requires : goal.store-requires
store-requires c = omega (arith, (runs c.args.h c.args.out.now (sym c.in_default.ensures)).room, c.run-output.new.self.room)

pub returns : goal.returns
returns c =
    let a = c.args in
    let t = c.new-ticking.ensures in
    let r = c.run-output.ensures in
    ran_by a.h a.wires a.ticks a.out.now (sym c.in_default.ensures) c.run-output.new.self.handler _ c.run-output.result c.run-output.new.self.changes c.store.new.out
    (r.handler ∙ (λ i. calm_run (t.0 i) (t.1 i) (c.from.ensures i)))
    (r.output ∙ (λ i. calm_output (t.0 i) (t.1 i) (c.from.ensures i)))
    (r.words ∙ (λ i. t.2 i ++ calm_changes (t.0 i) (t.1 i) (c.from.ensures i)))
    (to_z_pos w64 (omega (arith, c.store.ensures.most)) ∙ ap pos c.store.ensures.written)
    c.store.ensures.words

-- `Pen::push` meets its contract.
-- Assumes nothing.
use Prim.Native.Nat.{◌+◌}
use mathlib.Core.Path.{refl, sym, subst}
use mathlib.Core.List.{[], ◌∷◌}
use Rattle.dump_writer.specs.Puts.{Puts}
use Rattle.dump_writer.specs.declared.put.Pen.{Pen}
use Rattle.dump_writer.proofs.put.Pen.push.Goals.{then-self-eq7, else-self-eq7}
use Rattle.dump_writer.proofs.PutLaws.{pushed_last, pushed_more, plus}
use Rattle.dump_writer.proofs.put.Pen.push.Goals as goal

pub returns : goal.returns
returns c =
    let p = c.args.self.now in
    elim c.if-self-eq7.branch [
      | then-self-eq7 w ↦ subst (λ (q : Pen). Puts (c.args.b ∷ []) p (record { out = q.out; at = q.at + 1; wait = q.wait })) (sym w.self-is)
          (pushed_last c.args.b p _ _ (plus _ _ _ c.from.ensures) c.requires.0 refl refl w.if-self-eq7.true refl refl)
      | else-self-eq7 w ↦ subst (λ (q : Pen). Puts (c.args.b ∷ []) p (record { out = q.out; at = q.at + 1; wait = q.wait })) (sym w.self-is)
          (pushed_more c.args.b p _ _ (plus _ _ _ c.from.ensures) c.requires.0 refl refl w.if-self-eq7.false refl refl)
    ]

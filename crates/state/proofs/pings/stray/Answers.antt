-- `pings::stray` meets its contract.
-- Assumes nothing.
use Prim.Native.Nat.{◌<◌, ◌^◌}
use mathlib.Core.Path.{◌∙◌, sym, ap}
use mathlib.Core.Bool.{Bool}
use Rattle.state.specs.Strays.{stray_word}
use Rattle.state.proofs.Strays.{none_owned, one_owned}
use borrow.Author.Rules.{rules}
use Rattle.state.proofs.pings.stray.Goals as goal

pub returns-then-own : goal.returns-then-own
returns-then-own c =
    let l = c in
    let a = l.args in
    let s : l.live.result < 2 ^ 64 = search rules in
    one_owned a.n a.pends a.i a.v l.live.result s l.live.ensures c.only.result c.only.ensures
    ∙ ap (λ (o : Bool). stray_word a.n a.pends o a.i a.v) (sym c.if-own.true)

pub returns-else-own : goal.returns-else-own
returns-else-own c =
    let l = c in
    let a = l.args in
    let s : l.live.result < 2 ^ 64 = search rules in
    none_owned a.n a.pends a.i a.v l.live.result s l.live.ensures
    ∙ ap (λ (o : Bool). stray_word a.n a.pends o a.i a.v) (sym c.if-own.false)

-- `quiet::quiet_of` meets its contract: the facts that its calls ensure, put together.
-- Assumes nothing.
use borrow.Author.Rules.{rules}
use mathlib.Core.Path.{◌≡◌, sym, subst}
use mathlib.Core.Bool.{Bool}
use Rattle.std.specs.Prelude.{Result, Ok, Err, Option, IfOk, IfSome}
use Rattle.std.specs.Result.{result_ok}
use lib.ListN.{length}
use Rattle.rules.specs.State.{most, local_count}
use Rattle.samples.specs.Quiet.{QuietBy}
use Rattle.samples.specs.declared.pace.Met.{Met}
use Rattle.handler.proofs.QuietTicks.{quiet_tick}
use Rattle.handler.proofs.quiet.quiet_of.Goals as goal

-- a fact of the value that is Ok, by another
some_as : (r : Result Met Met) (o : Option Met) (P Q : Met → Type 0) → o ≡ result_ok r → ((m : Met) → P m → Q m) → IfOk r P → IfSome o Q
some_as (Ok m) o P Q e f x = subst (λ (p : Option Met). IfSome p Q) (sym e) (f m x)
some_as (Err m) o P Q e f x = subst (λ (p : Option Met). IfSome p Q) (sym e) x

pub returns : goal.returns
returns c =
    let h = c.args.h in
    -- the columns of causes have their lengths by their types
    let alerts_long : length h.alerts.cause ≡ most = search (c.well_formed.0.1.1.1.1.1.0, rules) in
    let locals_long : length h.locals.cause ≡ local_count = search (c.well_formed.0.1.1.1.1.1.1.0, rules) in
    some_as c.hear_quiet.result _ (QuietBy h.n h.links h.timer c.is_pingable-pingable.result c.args.s) _ c.ok.ensures.value
    (λ m q. quiet_tick h _ c.args.s m c.requires alerts_long locals_long
    (subst (λ (p : Bool). QuietBy h.n h.links h.timer p c.args.s m) c.is_pingable-pingable.ensures q) (c.are_none.ensures c.if-not-are_none.false))
    c.hear_quiet.ensures.quiet

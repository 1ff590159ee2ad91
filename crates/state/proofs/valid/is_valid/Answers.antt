-- `valid::is_valid` meets its contract: the parts of the rule, each by its own test.
-- Assumes nothing.
use mathlib.Core.Path.{◌∙◌, ap₂}
use mathlib.Core.Bool.{Bool, ◌&&◌}
use borrow.Author.Tests.{lt-leb, le-leb}
use Rattle.bits.specs.Bits.{fits}
use Rattle.rules.specs.Valid.{valid}
use Rattle.state.proofs.Strays.{pings_are}
use Rattle.state.proofs.valid.is_valid.Goals as goal

pub returns-then-h-gt-MOST : goal.returns-then-h-gt-MOST
unfolding valid
returns-then-h-gt-MOST c = rw (lt-leb _ _ c.if-h-gt-MOST.true)

pub returns : goal.returns
unfolding valid
returns c =
    let h = c.args.h in
    rw (le-leb _ _ c.if-h-gt-MOST.false)
    (ap₂ (λ (x y : Bool). fits 4 h.interrupts.state && (fits 4 h.interrupts.enable && (x && y))) c.columns_fit-l.ensures
    (ap₂ ◌&&◌ c.columns_fit-a.ensures
    (ap₂ ◌&&◌ c.classes_fit-c.ensures
    (ap₂ ◌&&◌ c.timer_fits-t.ensures (ap₂ ◌&&◌ (c.pings_fit-p.ensures ∙ pings_are h) c.fit-s.ensures)))))

-- `admit` meets its contract.
-- Assumes nothing.
use mathlib.Core.Path.{refl, sym, ◌∙◌}
use mathlib.Core.Bool.{true, false}
use borrow.Author.Tests.{eq-eqb, ne_eqb, lt-ltb, le-ltb}
use Rattle.calm_laws.proofs.TwoCalls.{judged}
use Rattle.calm.proofs.call.admit.Goals as goal

pub returns-then-not-is_valid : goal.returns-then-not-is_valid
returns-then-not-is_valid c = sym (judged c.args.h.now c.args.list.now false _ _ (sym c.is_valid.ensures ∙ c.if-not-is_valid.true) refl refl)

pub returns-then-h-eq1 : goal.returns-then-h-eq1
returns-then-h-eq1 c = sym (judged c.args.h.now c.args.list.now true true _ (sym c.is_valid.ensures ∙ c.if-not-is_valid.false) (eq-eqb _ _ c.if-h-eq1.true) refl)

pub returns-then-list-lt-ENTRIES : goal.returns-then-list-lt-ENTRIES
returns-then-list-lt-ENTRIES c =
    sym (judged c.args.h.now c.args.list.now true false true (sym c.is_valid.ensures ∙ c.if-not-is_valid.false) (ne_eqb _ _ c.if-h-eq1.false) (lt-ltb _ _ c.if-list-lt-ENTRIES.true))

pub returns-else-list-lt-ENTRIES : goal.returns-else-list-lt-ENTRIES
returns-else-list-lt-ENTRIES c =
    sym (judged c.args.h.now c.args.list.now true false false (sym c.is_valid.ensures ∙ c.if-not-is_valid.false) (ne_eqb _ _ c.if-h-eq1.false) (le-ltb _ _ c.if-list-lt-ENTRIES.false))

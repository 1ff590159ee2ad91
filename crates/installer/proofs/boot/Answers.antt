-- `boot` meets its contract.
-- Assumes nothing.
use mathlib.Core.Path.{refl, sym, ap, ◌∙◌}
use mathlib.Core.Bool.{true, false}
use borrow.Author.Rules.{rules}
use borrow.Author.Tests.{lt-ltb, le-ltb}
use Rattle.installer.proofs.AskParts.{reads_back, boot_is}
use Rattle.policy.specs.Progress.{Progress}
use Rattle.installer.proofs.boot.Goals as goal

pub returns-then-not-is_valid : goal.returns-then-not-is_valid
returns-then-not-is_valid c = c.bar.ensures ∙ boot_is _ _ false _ (sym c.if-not-is_valid.ensures) refl

pub returns-then-h-lt-ALERTS : goal.returns-then-h-lt-ALERTS
returns-then-h-lt-ALERTS c =
    c.bar-then-h-lt-ALERTS.ensures ∙ boot_is _ _ true true (sym c.if-not-is_valid.ensures) (lt-ltb _ _ c.if-h-lt-ALERTS.true)

pub returns-in-Ok : goal.returns-in-Ok
returns-in-Ok c =
    c.outcome.ensures ∙ ap (λ (p : Progress). p.reached) c.in-Ok.ensures
    ∙ boot_is _ _ true false (sym c.if-not-is_valid.ensures) (le-ltb _ _ c.if-h-lt-ALERTS.false)

pub returns-in-Err : goal.returns-in-Err
returns-in-Err c =
    c.outcome-in-Err.ensures ∙ reads_back _ _ _ (search rules) ∙ ap (λ (p : Progress). p.reached) c.in-Err.ensures
    ∙ boot_is _ _ true false (sym c.if-not-is_valid.ensures) (le-ltb _ _ c.if-h-lt-ALERTS.false)

-- The parts of what a tick hears; its answer is the tick's own.
-- Assumes nothing.
use mathlib.Core.Path.{◌≡◌, ap, ◌∙◌}
use Rattle.handler.proofs.Accounts.{account_answer}
use Rattle.handler.specs.Account.{account}
use Rattle.handler.specs.declared.account.Account.{Account}
use Rattle.rules.specs.Answer.{number}
use Rattle.rules.specs.Tick.{ticked}
use Rattle.rules.specs.declared.Handler.{Handler}
use Rattle.rules.specs.declared.Input.{Input}

pub hear_parts : (r : Account) (h : Handler) (x : Input) → r ≡ account h x
    → (r.events ≡ (account h x).events)
    × ((r.answers ≡ (account h x).answers) × ((r.locals ≡ (account h x).locals) × (r.answer ≡ number (ticked h x).answer)))
hear_parts r h x e = (
  ap (λ (a : Account). a.events) e,
  (ap (λ (a : Account). a.answers) e, (ap (λ (a : Account). a.locals) e, ap (λ (a : Account). a.answer) e ∙ account_answer h x)),
)

-- `account::account_of` tells what the tick of a valid state hears, and nothing of any other.
-- Assumes nothing.
use mathlib.Core.Path.{sym, ◌∙◌}
use Rattle.laws.proofs.Valid.ValidLaws.{facts}
use Rattle.handler.proofs.Accounts.{account_good, account_bad}
use Rattle.handler.proofs.WholeTick.{accessed_most}
use Rattle.handler.proofs.account.account_of.Goals as goal

pub hear-heard-requires : goal.hear-heard-requires
hear-heard-requires c =
    accessed_most _ _ _ c.access-accessed.ensures (facts _ (sym c.is_valid.ensures ∙ c.if-is_valid.true)).n

pub returns-then-is_valid : goal.returns-then-is_valid
returns-then-is_valid c =
    let v = c in
    let a = v in
    let t = a in
    account_good _ _ _ _ _ _ (sym t.is_valid.ensures ∙ t.if-is_valid.true) a.access-accessed.ensures v.hear-heard.ensures c.occurring.ensures
    (c.signed.ensures.value, c.signed.ensures.meaning)

pub returns-else-is_valid : goal.returns-else-is_valid
returns-else-is_valid c = account_bad _ _ _ (sym c.is_valid.ensures ∙ c.if-is_valid.false) (c.signed-else-is_valid.ensures.value, c.signed-else-is_valid.ensures.meaning)

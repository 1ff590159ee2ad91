-- `tick` runs the tick of a valid state and refuses any other.
-- Assumes nothing.
use mathlib.Core.Path.{sym, ◌∙◌}
use Rattle.laws.proofs.Valid.ValidLaws.{facts}
use Rattle.rules.specs.Tick.{acknowledge_pairs, ping_pairs, escalation_pairs}
use Rattle.handler.proofs.Answers.{answered_good, answered_bad}
use Rattle.handler.proofs.WholeTick.{accessed_most}
use Rattle.handler.proofs.tick.tick.Goals as goal

pub finish-t-requires : goal.finish-t-requires
finish-t-requires c =
    accessed_most _ _ _ c.access-accessed.ensures (facts _ (sym c.is_valid.ensures ∙ c.if-is_valid.true)).n

pub returns-then-is_valid : goal.returns-then-is_valid
unfolding acknowledge_pairs ping_pairs escalation_pairs
returns-then-is_valid c =
    answered_good _ _ _ _ _ _ _ _ (sym c.is_valid.ensures ∙ c.if-is_valid.true) c.access-accessed.ensures c.finish-t.ensures c.acknowledge_pairs.ensures
    c.ping_pairs.ensures c.escalation_pairs.ensures (c.signed.ensures.value, c.signed.ensures.meaning)

pub returns-else-is_valid : goal.returns-else-is_valid
returns-else-is_valid c =
    answered_bad _ _ _ _ (sym c.is_valid.ensures ∙ c.if-is_valid.false) (c.signed-else-is_valid.ensures.value, c.signed-else-is_valid.ensures.meaning) c.no_output.ensures

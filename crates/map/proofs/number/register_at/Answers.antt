-- `number::register_at` meets its contract, range by range.
-- Assumes nothing.
use mathlib.Core.Path.{sym, ◌∙◌}
use native.Mathlib.Omega.{arith}
use Rattle.rules.specs.declared.Field.{Field}
use Rattle.laws.proofs.Map.MapLaws.{decode_local, decode_alert, decode_block}
use Rattle.map.proofs.number.register_at.Goals as goal

pub returns-in-16-to-22 : goal.returns-in-16-to-22
returns-in-16-to-22 c = sym (decode_local c.args.n c.args.r Field.Regwen (omega arith) (omega arith))

pub returns-in-24-to-30 : goal.returns-in-24-to-30
returns-in-24-to-30 c = sym (decode_local c.args.n c.args.r Field.En (omega arith) (omega arith))

pub returns-in-32-to-38 : goal.returns-in-32-to-38
returns-in-32-to-38 c = sym (decode_local c.args.n c.args.r Field.Class (omega arith) (omega arith))

pub returns-in-40-to-46 : goal.returns-in-40-to-46
returns-in-40-to-46 c = sym (decode_local c.args.n c.args.r Field.Cause (omega arith) (omega arith))

pub returns-in-256-to-511 : goal.returns-in-256-to-511
returns-in-256-to-511 c = c.alert_at.ensures ∙ sym (decode_alert c.args.n c.args.r Field.Regwen (omega arith) (omega arith))

pub returns-in-512-to-767 : goal.returns-in-512-to-767
returns-in-512-to-767 c =
    c.alert_at-in-512-to-767.ensures ∙ sym (decode_alert c.args.n c.args.r Field.En (omega arith) (omega arith))

pub returns-in-768-to-1023 : goal.returns-in-768-to-1023
returns-in-768-to-1023 c =
    c.alert_at-in-768-to-1023.ensures ∙ sym (decode_alert c.args.n c.args.r Field.Class (omega arith) (omega arith))

pub returns-in-1024-to-1279 : goal.returns-in-1024-to-1279
returns-in-1024-to-1279 c =
    c.alert_at-in-1024-to-1279.ensures ∙ sym (decode_alert c.args.n c.args.r Field.Cause (omega arith) (omega arith))

pub returns-in-1280-to-1343 : goal.returns-in-1280-to-1343
returns-in-1280-to-1343 c = c.block_at.ensures ∙ sym (decode_block c.args.n c.args.r (omega arith) (omega arith))

-- `restage::put_block` meets its contract: one class anew, the others as they were.
-- Assumes nothing.
use mathlib.Core.Path.{◌≡◌, sym, ◌∙◌}
use native.Mathlib.Omega.{arith}
use lib.ListN.{length}
use lib.Seq.{set_out}
use Rattle.register_file.proofs.Stores.{set_put}
use Rattle.rules.specs.Stages.{no_class_stages}
use borrow.Author.Rules.{rules}
use Rattle.register_file.proofs.restage.put_block.Goals as goal

pub returns-then-k-lt4 : goal.returns-then-k-lt4
returns-then-k-lt4 c =
    let x = c.args in
    let e : length x.classes.now ≡ 4 = search rules in
    rw c.put_setting.ensures (set_put 4 x.classes.now no_class_stages x.k _ e)

pub returns-else-k-lt4 : goal.returns-else-k-lt4
returns-else-k-lt4 c =
    let x = c.args in
    let e : length x.classes.now ≡ 4 = search rules in
    sym (set_out x.classes.now x.k _ (omega arith)) ∙ set_put 4 x.classes.now no_class_stages x.k _ e
